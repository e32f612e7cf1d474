-- When a step keeps the rule.
use Rattle.std.proofs.Common.{◌≡◌, ◌≢◌, ℕ, ◌+◌, ◌*◌, ◌<◌, ◌≤◌, true, false, true≢false, ◌⊎◌, ⊎_elim, List, ◌++◌, length, set, refl, sym, ap, subst, ◌∙◌, arith, append_assoc, append-nil, length-append, []}
use Rattle.std.proofs.lemmas.List.{append_cancel_left}
use Rattle.std.specs.Prelude.{slice_index}
use mathlib.Core.Option.{some}
use lib.ListN.{get_elem?}
use Rattle.atomic_table.proofs.Lists.{at_set, set_here, set_else}
use Rattle.row_words.specs.declared.event.Event.{Event}
use Rattle.row_words.specs.Sealed.{begun, run, Shown, heard}
use Rattle.row_words.proofs.SealedLemmas.{run_append}
use Rattle.rows_trait.specs.Layout.{rows_of, width, cell, count_of, control_at}
use Rattle.rows_trait.specs.declared.view.Hold.{Hold}
use Rattle.rows_trait.specs.declared.view.Ended.{Ended}
use Rattle.rows_trait.specs.declared.view.View.{View}
use Rattle.rows_trait.specs.Views.{IsEven, after_all, Since, holds, held_at, AreApart, AreStill, IsStill, AreBelow, Ends, AreTame}
use Rattle.rows_trait.specs.Inside.{NoneBy}
use Rattle.rows_trait.specs.Rule.{Plan, moment, Remembers, IsHeld, Fits, Keeps}
use Rattle.rows_trait.proofs.Cells.{bool_cases}
use Rattle.rows_trait.proofs.EventLemmas.{apart_append, apart_shown, below_append, part_more, still_more, tame_append}
use Rattle.rows_trait.specs.declared.view.Act.{Act}
use Rattle.rows_trait.proofs.Memory.{Moves, remembers_on, even_of_has, has_of_since}

-- a held row's word, after events that are apart
pub shown_on : (k : Plan) (happened : List Event) (u : View) (es : List Event) → u.given ≡ k.given → (row i x : ℕ) → AreApart u (moment k happened) es → holds u.held row ≡ true
    → Shown k.given (moment k happened) row i x → Shown k.given (moment k (happened ++ es)) row i x
shown_on k happened u es same row i x apart h s =
    let a : Shown u.given (run u.given (moment k happened) es) row i x = apart_shown u es (moment k happened) row i x apart h (subst (λ v. Shown v (moment k happened) row i x) (sym same) s) in
    let b : Shown k.given (run k.given (moment k happened) es) row i x = subst (λ v. Shown v (run v (moment k happened) es) row i x) same a in
    subst (λ m. Shown k.given m row i x) (sym (run_append k.given (begun k.given) happened es)) b

-- a row whose latch stays even is still
pub still_on : (k : Plan) (happened : List Event) (words now : List ℕ) (es : List Event) (acts : List Act) → Moves k.sizes words now → Remembers k.sizes words acts
    → ((row : ℕ) → IsEven (cell k.sizes words row 0) → AreStill k.given row (moment k happened) es)
    → ((row s : ℕ) (at : List Event) → Since row s at acts → cell k.sizes words row 0 ≡ s → IsStill k.given row at happened)
    → (row s : ℕ) (at : List Event) → Since row s at acts → cell k.sizes now row 0 ≡ s → IsStill k.given row at (happened ++ es)
still_on k happened words now es acts m r still f row s at h e =
    let has = has_of_since row s at acts h in
    let a = r.rising row s has in
    let b = m.rises row in
    let c : cell k.sizes words row 0 ≡ s = omega arith in
    still_more k.given row at happened es (f row s at h c) (still row (subst IsEven (sym c) (even_of_has row s acts has)))

pub fits_on : (k : Plan) (happened : List Event) (words now : List ℕ) (u : View) (es : List Event)
    → Moves k.sizes words now → AreApart u (moment k happened) es → ((row : ℕ) → IsEven (cell k.sizes words row 0) → AreStill k.given row (moment k happened) es)
    → ((row : ℕ) → holds u.held row ≡ true → (i : ℕ) → i < width k.sizes row + 1 → cell k.sizes now row i ≡ cell k.sizes words row i)
    → Fits k happened words u → Fits k (happened ++ es) now u
fits_on k happened words now u es m apart still same f = record {
  given = f.given;
  rest = f.rest ++ es;
  whole = ap (λ z. z ++ es) f.whole ∙ append_assoc u.seen f.rest es;
  apart = apart_append u (after_all k.given u.seen) f.rest es f.apart (subst (λ m. AreApart u m es) (ap (λ v. run v (begun k.given) happened) (sym (λ j. k.given)) ∙ (ap (run k.given (begun k.given)) f.whole ∙ (run_append k.given (begun k.given) u.seen f.rest ∙ ap (λ v. run v (after_all k.given u.seen) f.rest) (sym f.given)))) apart);
  memory = remembers_on k.sizes words now u.steps m f.memory;
  still = still_on k happened words now es u.steps m f.memory still f.still;
  held = λ row h. let g = f.held row h in record {
    inside = g.inside;
    even = g.even;
    room = g.room;
    odd = same row h 0 (omega arith) ∙ g.odd;
    size = g.size;
    now = λ i lt. same row h (i + 1) (omega arith) ∙ g.now i lt;
    was = λ i lt. shown_on k happened u es f.given row i (slice_index (held_at u.held row).was i) apart h (g.was i lt);
    counted = λ y. let a = g.counted y in let b = length-append happened es in omega arith;
  };
  low = f.low;
}

-- what a step of the seat `id` owes
pub record Step (k : Plan) (happened : List Event) (words : List ℕ) (views : List View) (id : ℕ) (v : View) (es : List Event) (now : List ℕ) (w : View) : Type 0 where
  pub moves : Moves k.sizes words now
  pub size : length now ≡ length words
  pub others : (j : ℕ) (u : View) → get_elem? views j ≡ some u → u.live ≡ true → j ≢ id → AreApart u (moment k happened) es
  pub still : (row : ℕ) → IsEven (cell k.sizes words row 0) → AreStill k.given row (moment k happened) es
  pub acts : (j : ℕ) (u : View) → get_elem? views j ≡ some u → u.live ≡ true → (0 < u.made → AreBelow u.made es) × ((a : ℕ) (own : List Event) → Ends a own u.ended → NoneBy a es)
  pub steady : (row : ℕ) → row < rows_of k.sizes → holds v.held row ≡ false → IsEven (cell k.sizes words row 0 + 1) → (i : ℕ) → i < width k.sizes row + 1
      → cell k.sizes now row i ≡ cell k.sizes words row i
  pub free : (row : ℕ) → row < rows_of k.sizes → IsEven (cell k.sizes now row 0) → (i : ℕ) → i < width k.sizes row
      → Shown k.given (moment k (happened ++ es)) row i (cell k.sizes now row (i + 1))
  pub few : (row : ℕ) → row < rows_of k.sizes → cell k.sizes now row 0 ≤ 2 * length (happened ++ es) + 1
  pub controls : (c i : ℕ) → c ≤ k.sizes.workers → i < count_of c → slice_index now (control_at c i) ≡ heard (moment k (happened ++ es)) c i
  pub tame : AreTame k.given (moment k happened) es
  pub live : w.live ≡ true
  pub actor : w.actor ≡ v.actor
  pub made : w.made ≡ v.made
  pub done : w.ended ≡ v.ended
  pub fits : Fits k (happened ++ es) now w
  pub all : happened ++ es ≡ w.seen
  pub owner : (row : ℕ) → holds w.held row ≡ true → (holds v.held row ≡ true) ⊎ IsEven (cell k.sizes words row 0)
  pub latched : (row : ℕ) → row < rows_of k.sizes → IsEven (cell k.sizes now row 0 + 1)
      → (holds w.held row ≡ true) ⊎ (IsEven (cell k.sizes words row 0 + 1) × (holds v.held row ≡ false))

pub odd_of : (k : Plan) (happened : List Event) (words : List ℕ) (row : ℕ) (h : Hold) → IsHeld k happened words row h → IsEven (cell k.sizes words row 0 + 1)
odd_of k happened words row h g = let e = g.even in let o = g.odd in omega arith

module _ (k : Plan) (happened : List Event) (words : List ℕ) (views : List View) (id : ℕ) (v : View) (es : List Event) (now : List ℕ) (w : View)
    (keeps : Keeps k happened words views) (mine : get_elem? views id ≡ some v) (alive : v.live ≡ true) (s : Step k happened words views id v es now w) where
  -- another view does not hold a row of this one
  not_mine : (j : ℕ) (u : View) → get_elem? views j ≡ some u → u.live ≡ true → j ≢ id → (row : ℕ) → holds u.held row ≡ true → holds v.held row ≡ false
  not_mine j u e l ne row h = bool_cases (holds v.held row) (λ y. absurd (ne (keeps.owners j id u v e mine l alive row h y))) (λ f. f)

  other_fits : (j : ℕ) (u : View) → get_elem? views j ≡ some u → u.live ≡ true → j ≢ id → Fits k (happened ++ es) now u
  other_fits j u e l ne =
      let f = keeps.fits j u e l in
      fits_on k happened words now u es s.moves (s.others j u e l ne) s.still
      (λ row h i lt. s.steady row (f.held row h).inside (not_mine j u e l ne row h) (odd_of k happened words row (held_at u.held row) (f.held row h)) i lt) f

  -- a row of the new view is not another's
  not_theirs : (j : ℕ) (u : View) → get_elem? views j ≡ some u → u.live ≡ true → j ≢ id → (row : ℕ) → holds u.held row ≡ true → holds w.held row ≡ true → ⊥
  not_theirs j u e l ne row h y = ⊎_elim
      (λ (t : holds v.held row ≡ true). ne (keeps.owners j id u v e mine l alive row h t))
      (λ (t : IsEven (cell k.sizes words row 0)). let o = odd_of k happened words row (held_at u.held row) ((keeps.fits j u e l).held row h) in absurd (omega arith))
      (s.owner row y)

  at_other : (j : ℕ) (u : View) → j ≢ id → get_elem? views j ≡ some u → get_elem? (set views id w) j ≡ some u
  at_other j u ne e = set_else views id j w ne ∙ e

  pub advances : id < length views → Keeps k (happened ++ es) now (set views id w)
  advances within = record {
    size = s.size ∙ keeps.size;
    free = s.free;
    few = s.few;
    controls = s.controls;
    tame = tame_append k.given (begun k.given) happened es keeps.tame s.tame;
    fits = λ j u e l. ⊎_elim
        (λ (t : (j ≡ id) × (w ≡ u)). subst (Fits k (happened ++ es) now) t.1 s.fits)
        (λ (t : (j ≢ id) × (get_elem? views j ≡ some u)). other_fits j u t.1 l t.0)
        (at_set views id j w u e);
    actors = λ i j a b ea eb la lb same. ⊎_elim
        (λ (t : (i ≡ id) × (w ≡ a)). ⊎_elim
        (λ (r : (j ≡ id) × (w ≡ b)). t.0 ∙ sym r.0)
        (λ (r : (j ≢ id) × (get_elem? views j ≡ some b)). absurd (r.0 (keeps.actors j id b v r.1 mine lb alive (sym same ∙ (sym (ap (λ z. z.actor) t.1) ∙ s.actor)))))
        (at_set views id j w b eb))
        (λ (t : (i ≢ id) × (get_elem? views i ≡ some a)). ⊎_elim
        (λ (r : (j ≡ id) × (w ≡ b)). absurd (t.0 (keeps.actors i id a v t.1 mine la alive (same ∙ (sym (ap (λ z. z.actor) r.1) ∙ s.actor)))))
        (λ (r : (j ≢ id) × (get_elem? views j ≡ some b)). keeps.actors i j a b t.1 r.1 la lb same)
        (at_set views id j w b eb))
        (at_set views id i w a ea);
    owners = λ i j a b ea eb la lb row ha hb. ⊎_elim
        (λ (t : (i ≡ id) × (w ≡ a)). ⊎_elim
        (λ (r : (j ≡ id) × (w ≡ b)). t.0 ∙ sym r.0)
        (λ (r : (j ≢ id) × (get_elem? views j ≡ some b)). absurd (not_theirs j b r.1 lb r.0 row hb (ap (λ z. holds z.held row) t.1 ∙ ha)))
        (at_set views id j w b eb))
        (λ (t : (i ≢ id) × (get_elem? views i ≡ some a)). ⊎_elim
        (λ (r : (j ≡ id) × (w ≡ b)). absurd (not_theirs i a t.1 la t.0 row ha (ap (λ z. holds z.held row) r.1 ∙ hb)))
        (λ (r : (j ≢ id) × (get_elem? views j ≡ some b)). keeps.owners i j a b t.1 r.1 la lb row ha hb)
        (at_set views id j w b eb))
        (at_set views id i w a ea);
    makers = λ i j a b ea eb la lb up.
        let x = was i a ea la in let y = was j b eb lb in
        let k' = keeps.makers i j x.0 y.0 x.1 y.1 x.2 y.2 (let e = x.4 in omega arith) in
        (let e = x.4 in let f = y.3 in let g = k'.0 in omega arith, λ up'. k'.1 (let e = y.4 in omega arith));
    below = λ i a ea la up rest e. ⊎_elim
        (λ (t : (i ≡ id) × (w ≡ a)).
        subst (AreBelow a.made) (append_cancel_left w.seen [] rest (append-nil w.seen ∙ (sym s.all ∙ (e ∙ ap (λ z. z.seen ++ rest) (sym t.1))))) tt)
        (λ (t : (i ≢ id) × (get_elem? views i ≡ some a)).
        let f = keeps.fits i a t.1 la in
        let same : f.rest ++ es ≡ rest = append_cancel_left a.seen (f.rest ++ es) rest (sym (append_assoc a.seen f.rest es) ∙ (ap (λ z. z ++ es) (sym f.whole) ∙ e)) in
        subst (AreBelow a.made) same (below_append a.made f.rest es (keeps.below i a t.1 la up f.rest f.whole) ((s.acts i a t.1 la).0 up)))
        (at_set views id i w a ea);
    ended = λ i a ea la n own is.
        let x = was i a ea la in
        let P : List Ended → Type 0 = λ z. Ends n own z in
        let old = subst P (sym x.5) is in
        let k' = keeps.ended i x.0 x.1 x.2 n own old in (
          let e = x.4 in let g = k'.0 in omega arith,
          part_more n own happened es k'.1 ((s.acts i x.0 x.1 x.2).1 n own old),
          λ j b eb lb same. let y = was j b eb lb in k'.2 j y.0 y.1 y.2 (y.3 ∙ same),
        );
    latched = λ row lt o. ⊎_elim
        (λ (h : holds w.held row ≡ true). (id, w, set_here views id w within, s.live, h))
        (λ (t : IsEven (cell k.sizes words row 0 + 1) × (holds v.held row ≡ false)).
        let was = keeps.latched row lt t.0 in
        (was.0, was.1, at_other was.0 was.1 (λ same. true≢false (sym was.4 ∙ (ap (λ z. holds z.held row) (seen_twice was.0 was.1 same was.2) ∙ t.1))) was.2, was.3, was.4))
        (s.latched row lt o);
  }
    where
      seen_twice : (j : ℕ) (u : View) → j ≡ id → get_elem? views j ≡ some u → u ≡ v
      seen_twice j u same e = mathlib.Core.Option.some-injective u v (sym e ∙ (ap (get_elem? views) same ∙ mine))

      -- the view before of a seat, in what a step does not change
      was : (j : ℕ) (u : View) → get_elem? (set views id w) j ≡ some u → u.live ≡ true
          → (x : View) × (get_elem? views j ≡ some x) × (x.live ≡ true) × (x.actor ≡ u.actor) × (x.made ≡ u.made) × (x.ended ≡ u.ended)
      was j u e l = ⊎_elim
          (λ (t : (j ≡ id) × (w ≡ u)). (v, ap (get_elem? views) t.0 ∙ mine, alive, sym s.actor ∙ ap (λ z. z.actor) t.1, sym s.made ∙ ap (λ z. z.made) t.1, sym s.done ∙ ap (λ z. z.ended) t.1))
          (λ (t : (j ≢ id) × (get_elem? views j ≡ some u)). (u, t.1, l, refl, refl, refl))
          (at_set views id j w u e)
