-- Two seats that peeked have ended: what the front has.
use Rattle.std.proofs.Common.{◌≡◌, ℕ, zero, suc, ◌+◌, ◌<◌, Bool, true, false, cond, inl, inr, List, [], ◌∷◌, ◌++◌, length, refl, sym, ap, subst, ◌∙◌, arith, append-nil, append_assoc, ◌==◌}
use Rattle.std.proofs.lemmas.Bool.Decides.{nat_tests}
use Rattle.std.proofs.lemmas.List.{append_cancel_left}
use Rattle.btree_descent.specs.row_words.declared.event.Event.{Event}
use Rattle.btree_descent.specs.row_words.Moments.{actor_of, by}
use Rattle.btree_descent.specs.row_words.Sealed.{begun}
use Rattle.btree_descent.proofs.row_words.SealedLemmas.{by_append}
use Rattle.btree_descent.specs.rows_trait.declared.view.View.{View}
use Rattle.btree_descent.specs.rows_trait.Turns.{Ran}
use Rattle.btree_descent.specs.rows_trait.Views.{AreBelow, AreLow, AreTame, IsPart}
use Rattle.shared_rows.specs.Parts.{Taker, IsFirst, HasActor, AreTaken, IsReturned}
use Rattle.shared_rows.specs.Ruled.{newcomer, joined}
use Rattle.shared_rows.specs.declared.rows.SharedRows.{SharedRows}
use Rattle.btree_descent.specs.Known.{IsSound}
use Rattle.btree_descent.specs.row_words.Openings.{opening}
use Rattle.shared_rows.proofs.Whole.{taken_more}
use Rattle.shared_peeks.specs.Peeked.{ArePeeks, CanStart, EachPeeked}

-- events of two actors are those of the one and those of the other
count_of : (es : List Event) → AreBelow 3 es → by 0 es ≡ [] → length es ≡ length (by 1 es) + length (by 2 es)
count_of [] b n = refl
count_of (e ∷ es) b n = at (λ m. count_of es b.1 m) (actor_of e == 0) (actor_of e == 1) (actor_of e == 2) refl refl refl n
  where
    at : (by 0 es ≡ [] → length es ≡ length (by 1 es) + length (by 2 es)) → (p q r : Bool) → (actor_of e == 0) ≡ p → (actor_of e == 1) ≡ q → (actor_of e == 2) ≡ r
        → cond p (e ∷ by 0 es) (by 0 es) ≡ [] → suc (length es) ≡ length (cond q (e ∷ by 1 es) (by 1 es)) + length (cond r (e ∷ by 2 es) (by 2 es))
    at ih true q r x y z n = absurd (cc)
    at ih false true true x y z n = absurd (grind (arith, nat_tests))
    at ih false true false x y z n = let h = ih n in omega arith
    at ih false false true x y z n = let h = ih n in omega arith
    at ih false false false x y z n = let l = b.0 in absurd (grind (arith, nat_tests))

-- what a seat did of its own is its part of the front
own_of : (a : ℕ) (v u w : View) (es front : List Event) → u.actor ≡ a → u.seen ≡ v.seen → Ran false u es w → (all : List Event) → all ≡ v.seen ++ front → IsPart a w.seen all → by a front ≡ es
own_of a v u w es front actor seen r all whole part =
    let e : v.seen ++ front ≡ v.seen ++ (r.more ++ part.rest) = sym whole ∙ (part.whole ∙ (ap (λ z. z ++ part.rest) (r.seen ∙ ap (λ z. z ++ r.more) seen) ∙ append_assoc v.seen r.more part.rest)) in
    ap (by a) (append_cancel_left v.seen front (r.more ++ part.rest) e)
    ∙ (by_append a r.more part.rest ∙ (ap (λ z. by a r.more ++ z) part.others ∙ (append-nil (by a r.more) ∙ (ap (λ z. by z r.more) (sym actor) ∙ r.own refl))))

pub each_peeked : (v main first second one two w : View) (t1 t2 : Taker) (es fs : List Event) → main.seen ≡ v.seen → main.actor ≡ 0 → main.made ≡ 3 → first.actor ≡ 1 → second.actor ≡ 2 → first.seen ≡ v.seen → second.seen ≡ v.seen
    → Ran false first es one → Ran false second fs two → t1.me.0 ≡ one → t2.me.0 ≡ two → ArePeeks 1 1 es × (length es ≡ 60) → ArePeeks 2 1 fs × (length fs ≡ 60)
    → IsReturned main (t2 ∷ t1 ∷ []) w → EachPeeked v w
each_peeked v main first second one two w t1 t2 es fs seen actor made a1 a2 s1 s2 r1 r2 o1 o2 p1 p2 b =
    let front = b.front in
    let whole : w.seen ≡ v.seen ++ front = b.seen ∙ ap (λ z. z ++ front) seen in
    let part1 = subst (λ (u : View). IsPart u.actor u.seen w.seen) o1 b.parts.1.0 in
    let part2 = subst (λ (u : View). IsPart u.actor u.seen w.seen) o2 b.parts.0 in
    let is1 : one.actor ≡ 1 = r1.actor ∙ a1 in
    let is2 : two.actor ≡ 2 = r2.actor ∙ a2 in
    let m1 = own_of 1 v first one es front a1 s1 r1 w.seen whole (subst (λ z. IsPart z one.seen w.seen) is1 part1) in
    let m2 = own_of 2 v second two fs front a2 s2 r2 w.seen whole (subst (λ z. IsPart z two.seen w.seen) is2 part2) in
    let c = count_of front (subst (λ z. AreBelow z front) made b.below) (ap (λ z. by z front) (sym actor) ∙ b.main) in
    let l1 = ap length m1 in let l2 = ap length m2 in let n1 = p1.1 in let n2 = p2.1 in record {
      front = front;
      seen = whole;
      count = omega arith;
      first = subst (λ z. ArePeeks 1 1 z × (length z ≡ 60)) (sym m1) p1;
      second = subst (λ z. ArePeeks 2 1 z × (length z ≡ 60)) (sym m2) p2;
    }

pub both_there : (ts : List Taker) (t1 t2 : Taker) → ts ≡ t2 ∷ t1 ∷ [] → t1.me.0.actor ≡ 1 → t2.me.0.actor ≡ 2 → (n : ℕ) → n ≡ 3 → (a : ℕ) → 0 < a → a < n → HasActor a ts
both_there ts t1 t2 is a1 a2 n e zero up lt = absurd (omega arith)
both_there ts t1 t2 is a1 a2 n e (suc zero) up lt = subst (HasActor 1) (sym is) (inr (inl a1))
both_there ts t1 t2 is a1 a2 n e (suc (suc zero)) up lt = subst (HasActor 2) (sym is) (inl a2)
both_there ts t1 t2 is a1 a2 n e (suc (suc (suc a))) up lt = absurd (omega arith)

-- one seat has ended in the main actor's, and then the other
pub taken_two : (r : SharedRows) (m0 m1 m2 t1 t2 : Taker) → IsFirst r.table.shared.table_id m0 → m1.table_id ≡ m0.table_id → m1.me ≡ (joined m0.me.0 t1.me.0, []) → m2.table_id ≡ m1.table_id → m2.me ≡ (joined m1.me.0 t2.me.0, []) → AreTaken r.table.shared.table_id m0 (t2 ∷ t1 ∷ []) m2
taken_two r m0 m1 m2 t1 t2 f o1 e1 o2 e2 =
    let id = r.table.shared.table_id in
    taken_more id m0 m1 m2 (t1 ∷ []) t2 (taken_more id m0 m0 m1 [] t1 (record { first = f; given = refl; actor = refl; seen = refl; made = refl; ended = tt }) o1 e1) o2 e2

-- a seat that has just been made may start
pub can_start : (r : SharedRows) (v : View) (frames a : ℕ) (t : Taker) → t.table_id ≡ r.table.shared.table_id → t.me ≡ (newcomer a v.given v.seen, []) → r.frames ≡ frames → 0 < frames → (opening v.given).frames ≡ frames → IsSound v.given → AreTame v.given (begun v.given) v.seen
    → CanStart r frames (record { seat = t; worker = a; good = 0 })
can_start r v frames a t own me same some given sound tame =
    let u : t.me.0 ≡ newcomer a v.given v.seen = ap (λ z. z.0) me in (
      record {
        own = own;
        slots = ap (λ z. z.1) me;
        live = ap (λ z. z.live) u;
        low = λ l. subst (λ (z : View). AreLow (length z.seen) z.steps × AreTame z.given (begun z.given) z.seen) (sym u) (tt, tame);
        held = ap (λ z. z.held) u;
        actor = ap (λ z. z.actor) u;
        sized = record { some = some; shape = same; given = ap (λ z. (opening z.given).frames) u ∙ given };
        sound = subst IsSound (ap (λ z. z.given) (sym u)) sound;
      },
      refl,
    )
