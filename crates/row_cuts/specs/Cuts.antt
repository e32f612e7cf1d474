-- What a cut of all logs is to rows.
use Rattle.std.specs.Prelude.{◌≡◌, ℕ, true, List, [], ◌∷◌, ◌++◌, slice_index}
use Rattle.rows_trait.specs.core_state.Events as happening
use Rattle.rows_trait.specs.core_state.Needs.{may}
use Rattle.rows_trait.specs.core_state.Steps.{happens}
use Rattle.rows_trait.specs.row_words.declared.event.Event.{Event}
use Rattle.rows_trait.specs.row_words.declared.event.Event.TheVariants.{Cut}
use Rattle.rows_trait.specs.row_words.Openings.{opening}
use Rattle.rows_trait.specs.declared.view.Act.TheVariants.{Hear}
use Rattle.rows_trait.specs.declared.view.View.{View}
use Rattle.rows_trait.specs.Turns.{Ran}
use Rattle.rows_trait.specs.Views.{Shape, state}

-- All logs were cut up to a number, with these heads, which was seen next: the need was met, and the core has done it. The only step
-- was a load of the posted need, and what was held is held as it was.
pub record HasCut (z : Shape) (v : View) (number : ℕ) (heads : List ℕ) (w : View) : Type 0 where
  pub given : w.given ≡ v.given
  pub seen : w.seen ≡ v.seen ++ Cut number heads ∷ []
  pub met : may (opening v.given) (state v).core (happening.Event.Cut number (slice_index heads)) ≡ true
  pub core : (state w).core ≡ happens (opening v.given) (state v).core (happening.Event.Cut number (slice_index heads))
  pub held : w.held ≡ v.held
  pub posted : ℕ
  pub steps : w.steps ≡ Hear 0 1 posted ∷ v.steps
  pub ran : Ran z.alone v (Cut number heads ∷ []) w
