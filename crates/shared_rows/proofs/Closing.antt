-- Where all other seats have ended, the words are a picture of what the last one has seen.
use Rattle.std.proofs.Common.{◌≡◌, ◌≢◌, ℕ, zero, suc, ◌+◌, ◌*◌, ◌<◌, ◌≤◌, ◌%◌, Bool, true, false, true≢false, cond, List, [], ◌∷◌, ◌++◌, length, refl, sym, ap, subst, ◌∙◌, arith, append-nil, append_assoc, ◌==◌, eq-eqb}
use Rattle.std.specs.Prelude.{slice_index}
use mathlib.Core.Option.{some, some-ne-none, some-injective}
use lib.ListN.{get_elem?}
use native.Mathlib.Decide.{dec_lt}
use Rattle.std.proofs.lemmas.List.{append_cancel_left}
use Rattle.rows_trait.specs.row_words.declared.event.Event.{Event}
use Rattle.rows_trait.specs.row_words.declared.given.Given.{Given}
use Rattle.rows_trait.specs.row_words.Moments.{Moment, actor_of, by}
use Rattle.rows_trait.specs.row_words.Sealed.{begun, Shown, heard}
use Rattle.rows_trait.proofs.row_words.SealedLemmas.{by_append}
use Rattle.rows_trait.specs.Layout.{Sizes, rows_of, width, cell, count_of, control_at, size_of}
use Rattle.rows_trait.specs.declared.view.View.{View}
use Rattle.rows_trait.specs.Views.{AreTame, IsEven, after_all, holds, AreApart, AreBelow, Ends}
use Rattle.rows_trait.specs.Inside.{NoneBy}
use Rattle.rows_trait.specs.Rule.{Plan, plan, moment, Fits, Keeps, IsPicture}
use Rattle.rows_trait.proofs.EventLemmas.{by_none, none_apart}
use Rattle.rows_trait.proofs.Stepping.{row_cases}
use Rattle.shared_rows.proofs.Splitting.{remembers_nothing}
use Rattle.shared_rows.specs.Ruled.{newcomer, returned, IsLast}

-- events of no actor are no events
no_actor : (es : List Event) → ((a : ℕ) → by a es ≡ []) → es ≡ []
no_actor [] n = refl
no_actor (e ∷ es) n = absurd (at (actor_of e == actor_of e) (eq-eqb (actor_of e) (actor_of e) refl) (n (actor_of e)))
  where
    at : (b : Bool) → b ≡ true → cond b (e ∷ by (actor_of e) es) (by (actor_of e) es) ≡ [] → ⊥
    at true t x = cc
    at false t x = true≢false (sym t)

by_apart : (v : View) (m : Moment) (es : List Event) → AreApart v m es → by v.actor es ≡ []
by_apart v m es a = by_none v.actor es (none_apart v m es a)

-- the end of a list that has no event of an actor has none
by_end : (a : ℕ) (es fs : List Event) → by a (es ++ fs) ≡ [] → by a fs ≡ []
by_end a es fs n = end_nil (by a es) (by a fs) (sym (by_append a es fs) ∙ n)
  where
    end_nil : (xs ys : List Event) → xs ++ ys ≡ [] → ys ≡ []
    end_nil [] ys e = e
    end_nil (x ∷ xs) ys e = absurd (cc)

-- no event is of an actor that is not below
by_above : (m a : ℕ) (es : List Event) → m ≤ a → AreBelow m es → by a es ≡ []
by_above m a es le b = by_none a es (go es b)
  where
    go : (es : List Event) → AreBelow m es → NoneBy a es
    go [] b = tt
    go (e ∷ es) b = ((λ s. let x = b.0 in omega arith), go es b.1)

module _ (k : Plan) (front : List Event) (words : List ℕ) (views : List View) (id : ℕ) (v : View) (keeps : Keeps k front words views) (mine : get_elem? views id ≡ some v) (last : IsLast v) where
  f : Fits k front words v
  f = keeps.fits id v mine last.live

  below : AreBelow v.made f.rest
  below = keeps.below id v mine last.live last.makes f.rest f.whole

  none_more : (a : ℕ) → by a f.rest ≡ []
  none_more a = row_cases a v.actor
      (λ same. ap (λ z. by z f.rest) same ∙ by_apart v (after_all k.given v.seen) f.rest f.apart)
      (λ ne. there a ne (dec_lt a v.made))
    where
      there : (a : ℕ) → a ≢ v.actor → Dec (a < v.made) → by a f.rest ≡ []
      there a ne (yes lt) =
          let e = last.all a lt ne in
          let o = keeps.ended id v mine last.live a e.0 e.1 in
          let p = last.known a e.0 e.1 in
          let rest : o.1.rest ≡ p.rest ++ f.rest = append_cancel_left e.0 o.1.rest (p.rest ++ f.rest) (sym o.1.whole ∙ (f.whole ∙ (ap (λ z. z ++ f.rest) p.whole ∙ append_assoc e.0 p.rest f.rest))) in
          by_end a p.rest f.rest (ap (by a) (sym rest) ∙ o.1.others)
      there a ne (no off) = by_above v.made a f.rest (omega arith) below

  pub front_is : front ≡ v.seen
  front_is = f.whole ∙ (ap (λ z. v.seen ++ z) (no_actor f.rest none_more) ∙ append-nil v.seen)

  -- nobody else is there
  nobody : (j : ℕ) (u : View) → get_elem? views j ≡ some u → u.live ≡ true → j ≡ id
  nobody j u e l = row_cases j id (λ s. s) (λ ne.
      let b = (keeps.makers id j v u mine e last.live l last.makes).0 in
      let d : u.actor ≢ v.actor = λ s. ne (keeps.actors j id u v e mine l last.live s) in
      let a = last.all u.actor b d in
      absurd ((keeps.ended id v mine last.live u.actor a.0 a.1).2 j u e l refl))

  pub all_free : (row : ℕ) → row < rows_of k.sizes → IsEven (cell k.sizes words row 0)
  all_free row lt = at (cell k.sizes words row 0 % 2) refl
    where
      at : (m : ℕ) → cell k.sizes words row 0 % 2 ≡ m → IsEven (cell k.sizes words row 0)
      at zero e = e
      at (suc m) e =
          let l = keeps.latched row lt (omega arith) in
          let s = nobody l.0 l.1 l.2 l.3 in
          let same = some-injective l.1 v (sym l.2 ∙ (ap (get_elem? views) s ∙ mine)) in
          absurd (true≢false (sym l.4 ∙ (ap (λ z. holds z.held row) same ∙ ap (λ z. holds z row) last.held)))

-- one seat that is alone, over words whose rows are all free
module _ (z : Sizes) (given : Given) (seen : List Event) (words : List ℕ)
    (size : length words ≡ size_of z)
    (even : (row : ℕ) → row < rows_of z → IsEven (cell z words row 0))
    (spells : (row : ℕ) → row < rows_of z → (i : ℕ) → i < width z row → Shown given (after_all given seen) row i (cell z words row (i + 1)))
    (few : (row : ℕ) → row < rows_of z → cell z words row 0 ≤ 2 * length seen + 1)
    (controls : (c i : ℕ) → c ≤ z.workers → i < count_of c → slice_index words (control_at c i) ≡ heard (after_all given seen) c i)
    (tame_seen : AreTame given (begun given) seen) where
  abbrev one : View
  one = newcomer 0 given seen

  only : (j : ℕ) (u : View) → get_elem? (one ∷ []) j ≡ some u → (j ≡ 0) × (one ≡ u)
  only zero u e = (refl, some-injective one u e)
  only (suc j) u e = absurd (some-ne-none u (sym e))

  one_fits : Fits (plan z given) seen words one
  one_fits = record { given = refl; rest = []; whole = sym (append-nil seen); apart = tt; memory = remembers_nothing z words; still = λ row s at h e. absurd h; held = λ row h. absurd (true≢false (sym h)); low = tt }

  alone_keeps : Keeps (plan z given) seen words (one ∷ [])
  alone_keeps = record {
    size = size;
    free = λ row lt ev i l. spells row lt i l;
    few = few;
    controls = controls;
    tame = tame_seen;
    fits = λ j u e l. subst (Fits (plan z given) seen words) (only j u e).1 one_fits;
    actors = λ i j a b ea eb la lb same. (only i a ea).0 ∙ sym (only j b eb).0;
    owners = λ i j a b ea eb la lb row ha hb. (only i a ea).0 ∙ sym (only j b eb).0;
    makers = λ i j a b ea eb la lb up. (let s = ap (λ z. z.made) (only i a ea).1 in absurd (omega arith), λ u. (only i a ea).0 ∙ sym (only j b eb).0);
    below = λ i a ea la up rest e. let s = ap (λ z. z.made) (only i a ea).1 in absurd (omega arith);
    ended = λ i a ea la n own is. absurd (subst (λ (z : View). Ends n own z.ended) (sym (only i a ea).1) is);
    latched = λ row lt o. let z = even row lt in absurd (omega arith);
  }

  pub picture : IsPicture (plan z given) words one
  picture = record { happened = seen; live = refl; keeps = alone_keeps; alone = record { seen = refl; only = refl; made = refl; ended = refl; steady = λ row s lt x. absurd (cc) } }

-- as a share ends: plain rows again, whose one seat has seen the whole front
pub closes : (k : Plan) (front : List Event) (words : List ℕ) (views : List View) (id : ℕ) (v : View) (keeps : Keeps k front words views) (mine : get_elem? views id ≡ some v) (last : IsLast v)
    → IsPicture (plan k.sizes v.given) words (returned v)
closes k front words views id v keeps mine last =
    let e = all_free k front words views id v keeps mine last in
    let st = (keeps.fits id v mine last.live).given in
    let there : moment k front ≡ after_all v.given v.seen = λ i. after_all (sym st i) (front_is k front words views id v keeps mine last i) in
    picture k.sizes v.given v.seen words keeps.size e
    (λ row lt i l. subst (λ (p : Given × Moment). Shown p.0 p.1 row i (cell k.sizes words row (i + 1))) (λ j. (sym st j, there j)) (keeps.free row lt (e row lt) i l))
    (λ row lt. let x = keeps.few row lt in let y = ap length (front_is k front words views id v keeps mine last) in omega arith)
    (λ c i h l. keeps.controls c i h l ∙ ap (λ m. heard m c i) there)
    (subst (λ (p : Given × List Event). AreTame p.0 (begun p.0) p.1) (λ i. (sym st i, front_is k front words views id v keeps mine last i)) keeps.tame)
