-- A cut changes no word of rows.
use Rattle.std.proofs.Common.{◌≡◌, ◌-◌, ◌∙◌, ◌++◌, ℕ, Bool, true, false, List, [], ◌∷◌, ltb, refl, sym, ap, append-nil}
use Rattle.std.specs.Prelude.{if◌then◌else◌, slice_index}
use Rattle.rows_trait.specs.core_state.Events as happening
use Rattle.rows_trait.specs.core_state.Local.{publishes_row}
use Rattle.rows_trait.specs.core_state.Needs as core
use Rattle.rows_trait.specs.core_state.Steps.{happens}
use Rattle.rows_trait.specs.row_words.declared.event.Event.{Event}
use Rattle.rows_trait.specs.row_words.declared.event.Event.TheVariants.{Cut}
use Rattle.rows_trait.specs.row_words.declared.given.Given.{Given}
use Rattle.rows_trait.specs.row_words.Moments.{Moment, event_of}
use Rattle.rows_trait.specs.row_words.Openings.{opening}
use Rattle.rows_trait.specs.row_words.Sealed.{begun, changes, run, sets, stepped}
use Rattle.rows_trait.specs.row_words.Words.{publishes_frame}
use Rattle.rows_trait.proofs.row_words.SealedLemmas.{calm_tame, run_append}
use Rattle.rows_trait.specs.declared.view.View.{View}
use Rattle.rows_trait.specs.Turns.{Goes, Heard}
use Rattle.rows_trait.specs.Views.{AreAside, BeginsTame, Shape, after_all, may, state}
use Rattle.rows_trait.proofs.Runs.{ran_goes}
use Rattle.row_cuts.specs.Cuts.{HasCut}

-- no row, and no control word
cut_changes : (v : Given) (m : Moment) (n : ℕ) (heads : List ℕ) (row : ℕ) → changes v m (Cut n heads) row ≡ false
unfolding changes
cut_changes v m n heads row = go (ltb row (opening v).frames)
  where
    go : (b : Bool) → if◌then◌else◌ b (publishes_frame (opening v) m.core (event_of (Cut n heads)) row) (publishes_row (event_of (Cut n heads)) (row - (opening v).frames)) ≡ false
    go true = refl
    go false = refl

cut_sets : (n : ℕ) (heads : List ℕ) (c i : ℕ) → sets (Cut n heads) c i ≡ false
unfolding sets
cut_sets n heads c i = refl

-- what the core makes of an event whose need is met
met_core : (v : Given) (m : Moment) (e : Event) → core.may (opening v) m.core (event_of e) ≡ true → (stepped v m e).core ≡ happens (opening v) m.core (event_of e)
unfolding stepped
met_core v m e h = rw h refl

module _ (z : Shape) (v : View) (alone : z.alone ≡ true) (n : ℕ) (heads : List ℕ) where
  plays : (a : ℕ) → may z.alone v a ≡ true
  plays a = ap (λ b. may b v a) alone

  -- so it may be appended by any load
  pub cut_aside : AreAside (may z.alone v) v.given (Cut n heads ∷ [])
  cut_aside = (record { own = plays 0; part = refl; rows = λ m row. cut_changes v.given m n heads row; words = λ c i. cut_sets n heads c i }, tt)

  pub cut_tame : BeginsTame (state v) (Cut n heads ∷ [])
  cut_tame = (calm_tame (state v) (Cut n heads) refl, tt)

  -- and is seen behind it
  pub has_cut : (met : core.may (opening v.given) (state v).core (happening.Event.Cut n (slice_index heads)) ≡ true) (k : ℕ) (w : View) → Heard z 0 1 (λ _. Cut n heads ∷ []) v k w → HasCut z v n heads w
  has_cut met k w h = record {
    given = h.goes.given;
    seen = seen;
    met = met;
    core = ap (λ (m : Moment). m.core) ((λ i. after_all (h.goes.given i) (seen i)) ∙ run_append v.given (begun v.given) v.seen (Cut n heads ∷ [])) ∙ met_core v.given (state v) (Cut n heads) met;
    held = h.held;
    posted = k;
    steps = h.steps;
    ran = ran_goes z v (Cut n heads ∷ []) w (plays 0, tt) h.goes;
  }
    where
      seen : w.seen ≡ v.seen ++ Cut n heads ∷ []
      seen = h.goes.seen ∙ ap (λ es. es ++ Cut n heads ∷ []) (ap (λ es. v.seen ++ es) (h.goes.quiet alone) ∙ append-nil v.seen)
