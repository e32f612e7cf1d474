-- The frame in which a key's leaf stands.
use Rattle.std.proofs.Common.{◌≡◌, ◌∙◌, ◌<◌, ltb, ℕ, Bool, true, false, [], if◌then◌else◌, ap, refl, sym, subst, arith, append-nil}
use Rattle.std.proofs.lemmas.Bool.{eq-eqb}
use Rattle.paged_desks.specs.btree_descent.Descents.{Sized}
use Rattle.paged_desks.specs.btree_descent.Known.{IsSound}
use Rattle.paged_desks.specs.btree_descent.Puts.{IsLeafAt}
use Rattle.paged_desks.specs.core_state.States.{Place, in_frame}
use Rattle.paged_desks.specs.row_words.declared.given.Given.{Given}
use Rattle.paged_desks.specs.row_words.Openings.{opening}
use Rattle.paged_desks.specs.rows_trait.declared.view.View.{View}
use Rattle.paged_desks.specs.rows_trait.Layout.{rows_of, width}
use Rattle.paged_desks.specs.rows_trait.Turns.{Loaded, Ran}
use Rattle.paged_desks.specs.rows_trait.Views.{Shape, state}
use Rattle.row_changes.proofs.SeenLemmas.{none_seen}
use Rattle.paged_desks.proofs.session_state.Moments.{goes_seen}

-- it is a row with words
pub leaf_place : (z : Shape) (v w : View) (frames row page key : ℕ) → IsSound v.given → Sized z v frames → w.given ≡ v.given → IsLeafAt w.given (state w) row page key → (row < rows_of z.sizes) × (0 < width z.sizes row)
leaf_place z v w frames row page key sound sized given leaf = ((let a = inside in let b = sized.shape in let c = sized.given in let d = frames_are in omega arith), wide (ltb row z.sizes.frames))
  where
    inside : row < (opening w.given).frames
    inside = ((subst IsSound (sym given) sound w.seen).residence.within page row (subst (λ (p : Place). in_frame p row ≡ true) (sym leaf.hot) (eq-eqb row row refl))).1

    frames_are : (opening w.given).frames ≡ (opening v.given).frames
    frames_are = ap (λ (k : Given). (opening k).frames) given

    wide : (b : Bool) → 0 < (if b then 128 else 5)
    wide true = omega arith
    wide false = omega arith

-- a word was loaded, and nothing was seen
pub loaded_seen : (z : Shape) (u v w : View) (row i n : ℕ) → z.alone ≡ true → Ran z.alone u [] v → Loaded z row i v n w → w.seen ≡ u.seen
loaded_seen z u v w row i n alone ran l = goes_seen z v w [] alone l.goes ∙ (append-nil v.seen ∙ none_seen z.alone u v alone ran)
