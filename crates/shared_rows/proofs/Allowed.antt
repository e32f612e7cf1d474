-- The steps that the rule allows, and what they tell.
use Rattle.std.proofs.Common.{◌≡◌, ℕ, ◌+◌, ◌%◌, ◌<◌, ◌≤◌, true, false, true≢false, cond, inl, inr, List, [], ◌∷◌, ◌++◌, append-nil, set, refl, sym, ap, subst, ◌∙◌, arith, eqb}
use Rattle.std.specs.Prelude.{slice_index}
use Rattle.std.proofs.lemmas.List.{set-get_or}
use mathlib.Core.Option.{some}
use lib.ListN.{get_elem?}
use prog.Atomic.{either}
use Rattle.atomic_table.specs.Table as table
use Rattle.atomic_table.proofs.Lists.{exchanged, set_here}
use Rattle.rows_trait.specs.row_words.declared.event.Event.{Event}
use Rattle.rows_trait.specs.row_words.declared.event.Event.TheVariants.{Miss}
use Rattle.rows_trait.specs.row_words.Sealed.{begun}
use Rattle.rows_trait.specs.Layout.{rows_of, width, row_at, cell, count_of, control_at}
use Rattle.atomic_table.specs.Seated.{TableId}
use Rattle.rows_trait.specs.declared.view.View.{View}
use Rattle.rows_trait.specs.Views.{Shape, IsEven, after_all, state, holds, held_at, AreApart, AreAside, AreSilent, AreTame, BeginsTame, may, IsPart}
use Rattle.rows_trait.specs.Turns.{Looked, Loaded, Stored, MayPublish, Released, Heard, MayTurn, Turned}
use Rattle.rows_trait.specs.Rule.{Plan, Fits, Keeps}
use Rattle.rows_trait.proofs.EventLemmas.{tame_first}
use Rattle.rows_trait.proofs.Steps.{looks, loads, stores, takes, refuses, publishing, releases, latch_of}
use Rattle.rows_trait.proofs.ControlSteps.{hears, turns, turn_small}
use Rattle.rows_trait.proofs.Runs.{ran_goes}
use Rattle.rows_trait.proofs.Stepping.{in_length}
use Rattle.shared_rows.specs.Ruled.{Ruled, IsLow, MayTell, Exchanged, PublishedAs, Settled}

not_alone : {P : Type 0} → false ≡ true → P
not_alone e = absurd (true≢false (sym e))

-- a load, put together from a step on the same words
loaded : (k : Plan) (s : table.State (Unit {0}) View) (place : ℕ) (front : List Event) (views : List View) → Keeps k front s.words views → Keeps k front (set s.words place (slice_index s.words place)) views
loaded k s place front views kept = subst (λ (z : List ℕ). Keeps k front z views) (sym (set-get_or s.words place 0)) kept

-- the rest of a front is apart from what the view has seen
apart_of : (k : Plan) (words : List ℕ) (v : View) (front : List Event) (f : Fits k front words v) → AreApart v (state v) f.rest
apart_of k words v front f = subst (λ g. AreApart v (after_all g v.seen) f.rest) (sym f.given) f.apart

-- the view after a step is low
low_of : (k : Plan) (es : List Event) (words : List ℕ) (views : List View) (id : ℕ) (v w : View) → get_elem? views id ≡ some v → Keeps k es words (set views id w) → IsLow w
low_of k es words views id v w mine kept live =
    let f = kept.fits id w (set_here views id w (in_length views id v mine)) live in
    let front : AreTame k.given (begun k.given) (w.seen ++ f.rest) = subst (AreTame k.given (begun k.given)) f.whole kept.tame in
    (f.low, subst (λ g. AreTame g (begun g) w.seen) (sym f.given) (tame_first k.given (begun k.given) w.seen f.rest front))

abbrev pub shape_of : Plan → TableId → Shape
shape_of k spot = record { sizes = k.sizes; alone = false; place = spot }

module _ (k : Plan) (spot : TableId) (slots id : ℕ) (v : View) (place row : ℕ) (live : v.live ≡ true) (lt : row < rows_of k.sizes) where
  pub may_look : (names : ℕ → List Event) → place ≡ row_at k.sizes row 0 → ((n : ℕ) → AreSilent (may false v) v.given (names n)) → MayTell k slots id v place (λ n. n) (Looked (shape_of k spot) row names v)
  may_look names at silent s ruled len mine fits =
      let kept = ruled.1 in
      let f = kept.fits id v mine live in
      let n = slice_index s.words place in
      let l = looks false spot k ruled.0 s.words s.views id v kept mine live f.rest f.whole (apart_of k s.words v ruled.0 f) not_alone row n names lt (ap (slice_index s.words) at) (silent n) in
      (l.0, table.keeps, tt, (ruled.0 ++ names n, loaded k s place (ruled.0 ++ names n) (set s.views id l.0) l.2), (l.3, low_of k _ _ s.views id v l.0 mine l.2, refl))

  pub may_load : (i : ℕ) → i < width k.sizes row → place ≡ row_at k.sizes row (i + 1) → MayTell k slots id v place (λ n. n) (Loaded (shape_of k spot) row i v)
  may_load i t at s ruled len mine fits =
      let kept = ruled.1 in
      let f = kept.fits id v mine live in
      let n = slice_index s.words place in
      let l = loads false spot k ruled.0 s.words s.views id v kept mine live f.rest f.whole (apart_of k s.words v ruled.0 f) not_alone row i n lt t (ap (slice_index s.words) at) in
      (l.0, table.keeps, tt, (ruled.0 ++ [], loaded k s place (ruled.0 ++ []) (set s.views id l.0) l.2), (l.3, low_of k _ _ s.views id v l.0 mine l.2, refl))

  pub may_store : (i x : ℕ) → i < width k.sizes row → place ≡ row_at k.sizes row (i + 1) → holds v.held row ≡ true → MayTell k slots id v place (λ _. x) (λ _ w. Stored (shape_of k spot) row i x v w)
  may_store i x t at h s ruled len mine fits =
      let kept = ruled.1 in
      let f = kept.fits id v mine live in
      let l = stores false spot k ruled.0 s.words s.views id v kept mine live f.rest f.whole (apart_of k s.words v ruled.0 f) not_alone row i x lt t h in
      (l.0, table.keeps, tt, (ruled.0 ++ [], subst (λ (z : ℕ). Keeps k (ruled.0 ++ []) (set s.words z x) (set s.views id l.0)) (sym at) l.2), (l.3, low_of k _ _ s.views id v l.0 mine l.2, refl))

  pub may_exchange : (version : ℕ) (names : ℕ → List Event) → place ≡ row_at k.sizes row 0 → IsEven version → version + 2 < 18446744073709551616 → ((n : ℕ) → AreSilent (may false v) v.given (names n))
      → MayTell k slots id v place (λ n. either (eqb n version) (version + 1) n) (Exchanged (shape_of k spot) row version names v)
  may_exchange version names at ev room silent s ruled len mine fits =
      let kept = ruled.1 in
      let f = kept.fits id v mine live in
      let n = slice_index s.words place in
      let is : n ≡ cell k.sizes s.words row 0 = ap (slice_index s.words) at in
      let F : ℕ → Type 0 = λ m. (w : View) × (a : table.Act (Unit {0})) × table.Valid s.homes [] a × Ruled k (table.stepped s place m id [] w a) × (Exchanged (shape_of k spot) row version names v n w × IsLow w × (table.carried_after [] a ≡ [])) in
      exchanged n version (version + 1) F
      (λ same.
      let l = takes false spot k ruled.0 s.words s.views id v kept mine live f.rest f.whole (apart_of k s.words v ruled.0 f) not_alone row version names lt ev room (sym is ∙ same) (silent version) in
      (l.0, table.keeps, tt, (ruled.0 ++ names version, subst (λ (z : ℕ). Keeps k (ruled.0 ++ names version) (set s.words z (version + 1)) (set s.views id l.0)) (sym at) l.2), (inl (same, l.3), low_of k _ _ s.views id v l.0 mine l.2, refl)))
      (λ ne.
      let l = refuses false spot k ruled.0 s.words s.views id v kept mine live f.rest f.whole (apart_of k s.words v ruled.0 f) not_alone row version n names lt is ne (silent n) in
      (l.0, table.keeps, tt, (ruled.0 ++ names n, loaded k s place (ruled.0 ++ names n) (set s.views id l.0) l.2), (inr l.3, low_of k _ _ s.views id v l.0 mine l.2, refl)))

  -- the latch of a held row, raised by 1
  raised : (words : List ℕ) (version : ℕ) → cell k.sizes words row 0 ≡ version + 1 → version + 2 < 18446744073709551616 → place ≡ row_at k.sizes row 0 → (slice_index words place + 1) % 18446744073709551616 ≡ version + 2
  raised words version is room at = let e : slice_index words place ≡ version + 1 = ap (slice_index words) at ∙ is in omega arith

  pub may_publish : (names : ℕ → List Event) (e : Event) → place ≡ row_at k.sizes row 0 → holds v.held row ≡ true → names 0 ≡ e ∷ [] → MayPublish (shape_of k spot) row e v
      → MayTell k slots id v place (λ n. (n + 1) % 18446744073709551616) (PublishedAs (shape_of k spot) row names v)
  may_publish names e at h is m s ruled len mine fits =
      let kept = ruled.1 in
      let f = kept.fits id v mine live in
      let o = latch_of false spot k ruled.0 s.words s.views id v kept mine live f.rest f.whole (apart_of k s.words v ruled.0 f) not_alone row h in
      let l = publishing false spot k ruled.0 s.words s.views id v kept mine live f.rest f.whole (apart_of k s.words v ruled.0 f) not_alone row e lt h m in
      let up = raised s.words (held_at v.held row).version o.0 o.1 at in
      let P : ℕ → ℕ → Type 0 = λ y z. Keeps k (ruled.0 ++ e ∷ []) (set s.words y z) (set s.views id l.0) in
      (l.0, table.keeps, tt, (ruled.0 ++ e ∷ [], subst (λ (z : ℕ × ℕ). P z.0 z.1) (λ i. (sym at i, sym up i)) l.2), ((e, is, l.3), low_of k _ _ s.views id v l.0 mine l.2, refl))

  pub may_release : place ≡ row_at k.sizes row 0 → holds v.held row ≡ true → (held_at v.held row).now ≡ (held_at v.held row).was → MayTell k slots id v place (λ n. (n + 1) % 18446744073709551616) (λ n w. Released (shape_of k spot) row v w)
  may_release at h same s ruled len mine fits =
      let kept = ruled.1 in
      let f = kept.fits id v mine live in
      let o = latch_of false spot k ruled.0 s.words s.views id v kept mine live f.rest f.whole (apart_of k s.words v ruled.0 f) not_alone row h in
      let l = releases false spot k ruled.0 s.words s.views id v kept mine live f.rest f.whole (apart_of k s.words v ruled.0 f) not_alone row lt h same in
      let up = raised s.words (held_at v.held row).version o.0 o.1 at in
      let es = cond (held_at v.held row).done [] (Miss v.actor ∷ []) in
      let P : ℕ → ℕ → Type 0 = λ y z. Keeps k (ruled.0 ++ es) (set s.words y z) (set s.views id l.0) in
      (l.0, table.keeps, tt, (ruled.0 ++ es, subst (λ (z : ℕ × ℕ). P z.0 z.1) (λ i. (sym at i, sym up i)) l.2), (l.3, low_of k _ _ s.views id v l.0 mine l.2, refl))

module _ (k : Plan) (spot : TableId) (slots id : ℕ) (v : View) (place c i : ℕ) (live : v.live ≡ true) (h : c ≤ k.sizes.workers) (l : i < count_of c) (at : place ≡ control_at c i) where
  pub may_hear : (names : ℕ → List Event) → ((n : ℕ) → AreAside (may false v) v.given (names n)) → ((n : ℕ) → BeginsTame (state v) (names n)) → MayTell k slots id v place (λ n. n) (Heard (shape_of k spot) c i names v)
  may_hear names silent tame s ruled len mine fits =
      let kept = ruled.1 in
      let f = kept.fits id v mine live in
      let n = slice_index s.words place in
      let r = hears false spot k ruled.0 s.words s.views id v kept mine live f.rest f.whole (apart_of k s.words v ruled.0 f) not_alone c i n names h l (ap (slice_index s.words) at) (silent n) (tame n) in
      (r.0, table.keeps, tt, (ruled.0 ++ names n, loaded k s place (ruled.0 ++ names n) (set s.views id r.0) r.2), (r.3, low_of k _ _ s.views id v r.0 mine r.2, refl))

  pub may_turn : (into f : ℕ → ℕ) (names : ℕ → List Event) → ((n : ℕ) → f n < 18446744073709551616 → into n ≡ f n) → MayTurn (shape_of k spot) c i f names v → MayTell k slots id v place into (Turned (shape_of k spot) c i f names v)
  may_turn into f names same m s ruled len mine fits =
      let kept = ruled.1 in
      let x = kept.fits id v mine live in
      let n = slice_index s.words place in
      let r = turns false spot k ruled.0 s.words s.views id v kept mine live x.rest x.whole (apart_of k s.words v ruled.0 x) not_alone c i n f names h l (ap (slice_index s.words) at) m in
      let small = turn_small false spot k ruled.0 s.words s.views id v kept mine live x.rest x.whole (apart_of k s.words v ruled.0 x) not_alone c i n f names h l (ap (slice_index s.words) at) m in
      let P : ℕ → ℕ → Type 0 = λ y z. Keeps k (ruled.0 ++ names n) (set s.words y z) (set s.views id r.0) in
      (r.0, table.keeps, tt, (ruled.0 ++ names n, subst (λ (z : ℕ × ℕ). P z.0 z.1) (λ j. (sym at j, sym (same n small) j)) r.2), (r.3, low_of k _ _ s.views id v r.0 mine r.2, refl))

-- a load of the global epoch
pub may_settle : (k : Plan) (spot : TableId) (slots id : ℕ) (v : View) (place : ℕ) → v.live ≡ true → place ≡ control_at 0 0 → MayTell k slots id v place (λ n. n) (Settled v)
may_settle k spot slots id v place live at s ruled len mine fits =
    let kept = ruled.1 in
    let f = kept.fits id v mine live in
    let n = slice_index s.words place in
    let l = hears false spot k ruled.0 s.words s.views id v kept mine live f.rest f.whole (apart_of k s.words v ruled.0 f) not_alone 0 0 n (λ _. []) (omega arith) (omega arith) (ap (slice_index s.words) at) tt tt in
    let seen : ruled.0 ++ [] ≡ l.0.seen = ap (λ z. z ++ []) f.whole ∙ sym (ap (λ z. z.seen) l.1) in
    let here = set_here s.views id l.0 (in_length s.views id v mine) in (
      l.0,
      table.keeps,
      tt,
      (ruled.0 ++ [], loaded k s place (ruled.0 ++ []) (set s.views id l.0) l.2),
      (
        record {
          ran = ran_goes (shape_of k spot) v [] l.0 tt l.3.goes;
          held = l.3.held;
          below = λ up rest e. kept.below id v mine live up rest (sym (append-nil ruled.0) ∙ (seen ∙ e));
          known = λ a own en. subst (IsPart a own) seen (l.2.ended id l.0 here (l.3.goes.live ∙ live) a own en).1;
        },
        low_of k _ _ s.views id v l.0 mine l.2,
        refl,
      ),
    )
