-- All seats of shared rows: they are made one by one, and end one by one.
use Rattle.std.proofs.Common.{◌≡◌, ◌≢◌, ℕ, zero, suc, ◌+◌, ◌<◌, ◌≤◌, inl, inr, ⊎_elim, List, [], ◌∷◌, ◌++◌, length, refl, sym, ap, subst, ◌∙◌, arith, length-append}
use Rattle.atomic_table.specs.Seated.{TableId}
use Rattle.rows_trait.specs.row_words.declared.event.Event.{Event}
use Rattle.rows_trait.specs.row_words.Moments.{by}
use Rattle.rows_trait.specs.declared.view.View.{View}
use Rattle.rows_trait.specs.Views.{AreBelow, Ends, IsPart}
use Rattle.rows_trait.proofs.Stepping.{row_cases}
use Rattle.shared_rows.specs.Ruled.{newcomer, making, made_by, joined, returned, Settled, IsLast}
use Rattle.shared_rows.specs.Parts.{Taker, AreFresh, IsIdle, AreIdle, HasActor, HaveEnded, AreTaken, AreParts, IsReturned, IsShared, IsWhole}
use Rattle.shared_rows.specs.declared.parts.Parts.{Parts}

pub fresh_more : (id : TableId) (v : View) (a : ℕ) (ss : List Taker) (s : Taker) → AreFresh id v a ss → s.table_id ≡ id → s.me ≡ (newcomer (length ss + a) v.given v.seen, []) → AreFresh id v a (ss ++ s ∷ [])
fresh_more id v a [] s f own me = ((own, (let e : 0 + a ≡ a = omega arith in subst (λ z. s.me ≡ (newcomer z v.given v.seen, [])) e me)), tt)
fresh_more id v a (x ∷ xs) s f own me = (f.0, fresh_more id v (suc a) xs s f.1 own (let e : length xs + suc a ≡ suc (length xs) + a = omega arith in subst (λ z. s.me ≡ (newcomer z v.given v.seen, [])) (sym e) me))

pub idle_of : (id : TableId) (ss : List Taker) (s : Taker) → AreIdle id (ss ++ s ∷ []) → AreIdle id ss × IsIdle id s
idle_of id [] s i = (tt, i.0)
idle_of id (x ∷ xs) s i = let r = idle_of id xs s i.1 in ((i.0, r.0), r.1)

ended_more : (ss : List Taker) (v w : View) → HaveEnded ss v → HaveEnded ss (joined v w)
ended_more [] v w h = tt
ended_more (s ∷ ss) v w h = (inr h.0, ended_more ss v w h.1)

-- one more has ended
pub taken_more : (id : TableId) (first before after : Taker) (ss : List Taker) (s : Taker) → AreTaken id first ss before → after.table_id ≡ before.table_id → after.me ≡ (joined before.me.0 s.me.0, []) → AreTaken id first (s ∷ ss) after
taken_more id first before after ss s t own me =
    let v : after.me.0 ≡ joined before.me.0 s.me.0 = ap (λ z. z.0) me in record {
      first = record { own = own ∙ t.first.own; slots = ap (λ z. z.1) me; live = ap (λ z. z.live) v ∙ t.first.live; held = ap (λ z. z.held) v ∙ t.first.held; makes = (let e = ap (λ z. z.made) v in let m = t.first.makes in omega arith) };
      given = ap (λ z. z.given) v ∙ t.given;
      actor = ap (λ z. z.actor) v ∙ t.actor;
      seen = ap (λ z. z.seen) v ∙ t.seen;
      made = ap (λ z. z.made) v ∙ t.made;
      ended = subst (HaveEnded (s ∷ ss)) (sym v) (inl (refl, refl), ended_more ss before.me.0 s.me.0 t.ended);
    }

-- a seat of the actor has ended
ended_of : (ss : List Taker) (v : View) (a : ℕ) → HaveEnded ss v → HasActor a ss → (seen : List Event) × Ends a seen v.ended
ended_of [] v a h y = absurd y
ended_of (s ∷ ss) v a h y = ⊎_elim
    (λ (e : s.me.0.actor ≡ a). (s.me.0.seen, subst (λ z. Ends z s.me.0.seen v.ended) e h.0))
    (λ (t : HasActor a ss). ended_of ss v a h.1 t)
    y

parts_of : (ss : List Taker) (v : View) (all : List Event) → ((a : ℕ) (seen : List Event) → Ends a seen v.ended → IsPart a seen all) → HaveEnded ss v → AreParts ss all
parts_of [] v all f h = tt
parts_of (s ∷ ss) v all f h = (f s.me.0.actor s.me.0.seen h.0, parts_of ss v all f h.1)

module _ (id : TableId) (main : Taker) (ss : List Taker) (t : Taker) (n : ℕ) (w : View)
    (actor : main.me.0.actor ≡ 0) (all : (a : ℕ) → 0 < a → a < main.me.0.made → HasActor a ss) (taken : AreTaken id main ss t) (settled : Settled t.me.0 n w) where
  ended_same : HaveEnded ss w
  ended_same = go ss taken.ended
    where
      go : (xs : List Taker) → HaveEnded xs t.me.0 → HaveEnded xs w
      go [] h = tt
      go (x ∷ xs) h = (subst (Ends x.me.0.actor x.me.0.seen) (sym settled.ran.ended) h.0, go xs h.1)

  pub is_last : IsLast w
  is_last = record {
    live = settled.ran.live ∙ taken.first.live;
    held = settled.held ∙ taken.first.held;
    makes = (let e = settled.ran.made in let m = taken.first.makes in omega arith);
    all = λ a lt ne. (
        let x = settled.ran.actor in let y = taken.actor in let m = settled.ran.made in let k = taken.made in
        ended_of ss w a ended_same (all a (positive a (λ z. ne (z ∙ sym (x ∙ (y ∙ actor))))) (omega arith)));
    known = settled.known;
  }
    where
      positive : (a : ℕ) → a ≢ 0 → 0 < a
      positive zero ne = absurd (ne refl)
      positive (suc a) ne = omega arith

  pub is_returned : (u : View) → u ≡ returned w → IsReturned main.me.0 ss u
  is_returned u same =
      let seen : w.seen ≡ main.me.0.seen ++ settled.ran.more = settled.ran.seen ∙ ap (λ z. z ++ settled.ran.more) taken.seen in
      let u_seen : u.seen ≡ w.seen = ap (λ z. z.seen) same in record {
        front = settled.ran.more;
        seen = u_seen ∙ seen;
        view = same ∙ (λ i. newcomer 0 ((settled.ran.given ∙ taken.given) i) (seen i));
        main = ap (λ z. by z settled.ran.more) (sym taken.actor) ∙ settled.ran.own refl;
        below = subst (λ z. AreBelow z settled.ran.more) taken.made (settled.below taken.first.makes settled.ran.more settled.ran.seen);
        quiet = settled.ran.part refl;
        parts = subst (AreParts ss) (sym u_seen) (parts_of ss w w.seen settled.known ended_same);
      }

-- a seat more was made
pub made_more : (id : TableId) (v : View) (before made : Taker) (ss now : List Taker) (n : ℕ) → AreFresh id v 1 ss → length ss ≡ n → before.me ≡ (making (1 + n) (newcomer 0 v.given v.seen), []) → made.table_id ≡ id → made.me ≡ (made_by before.me.0, []) → now ≡ ss ++ made ∷ []
    → AreFresh id v 1 now × (length now ≡ n + 1)
made_more id v before made ss now n f size was own me is =
    let e : made_by before.me.0 ≡ newcomer (1 + n) v.given v.seen = ap (λ z. made_by z.0) was in
    let t : 1 + n ≡ length ss + 1 = omega arith in (
      subst (AreFresh id v 1) (sym is) (fresh_more id v 1 ss made f own (me ∙ (ap (λ z. (z, [])) e ∙ ap (λ z. (newcomer z v.given v.seen, [])) t))),
      let l = length-append ss (made ∷ []) in let k = ap length is in omega arith,
    )

-- ## At once

fresh_idle : (id : TableId) (v : View) (a : ℕ) (ss : List Taker) → AreFresh id v a ss → AreIdle id ss
fresh_idle id v a [] f = tt
fresh_idle id v a (s ∷ ss) f =
    let u = ap (λ z. z.0) f.0.1 in
    (record { own = f.0.0; slots = ap (λ z. z.1) f.0.1; live = ap (λ z. z.live) u; held = ap (λ z. z.held) u }, fresh_idle id v (suc a) ss f.1)

fresh_has : (id : TableId) (v : View) (a : ℕ) (ss : List Taker) → AreFresh id v a ss → (b : ℕ) → a ≤ b → b < a + length ss → HasActor b ss
fresh_has id v a [] f b low high = absurd (omega arith)
fresh_has id v a (s ∷ ss) f b low high = row_cases a b
    (λ same. inl (ap (λ z. z.0.actor) f.0.1 ∙ same))
    (λ ne. inr (fresh_has id v (suc a) ss f.1 b (omega arith) (omega arith)))

pub whole_of : (frames locks workers : ℕ) (v : View) (seats : ℕ) (p : Parts) → IsShared frames locks workers v seats p → IsWhole p
whole_of frames locks workers v seats p s =
    let u = ap (λ z. z.0) s.main in record {
      main = record { own = s.own; slots = ap (λ z. z.1) s.main; live = ap (λ z. z.live) u; held = ap (λ z. z.held) u; makes = (let m = ap (λ z. z.made) u in omega arith) };
      actor = ap (λ z. z.actor) u;
      idle = fresh_idle p.rows.table.shared.table_id v 1 p.seats.items s.fresh;
      all = λ a up lt. fresh_has p.rows.table.shared.table_id v 1 p.seats.items s.fresh a up (let m = ap (λ z. z.made) u in let c = s.count in omega arith);
    }
