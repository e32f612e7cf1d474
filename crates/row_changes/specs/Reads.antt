-- What a read of a key behind its lock does, by answer.
use Rattle.std.specs.Prelude.{◌≡◌, ◌++◌, ℕ, true, [], ◌∷◌, Option, Result, Ok, Err}
use Rattle.session_state.specs.core_state.Events as happening
use Rattle.session_state.specs.core_state.Needs.{may, value_in}
use Rattle.session_state.specs.row_words.declared.event.Event.TheVariants.{Read}
use Rattle.session_state.specs.row_words.Openings.{opening}
use Rattle.session_state.specs.rows_trait.declared.view.View.{View}
use Rattle.session_state.specs.rows_trait.Views.{state}
use Rattle.row_changes.specs.declared.ways.Cold.{Cold}
use Rattle.row_changes.specs.Ways.{HasMetCold}

-- A read was seen next, at a moment at which the leaf said this of the key.
pub record HasRead (own : ℕ) (v w : View) (key : ℕ) (value : Option ℕ) : Type 0 where
  pub page : ℕ
  pub given : w.given ≡ v.given
  pub seen : w.seen ≡ v.seen ++ Read own page key value ∷ []
  pub met : may (opening v.given) (state v).core (happening.Event.Read own page key value) ≡ true
  pub told : value ≡ value_in (opening v.given).format ((state v).core.page page).node key

-- by answer
abbrev pub Reads : Result (Option ℕ) Cold → (own : ℕ) → (v w : View) → (key : ℕ) → (same : Type 0) → Type 0
Reads (Ok value) own v w key same = HasRead own v w key value
Reads (Err cold) own v w key same = HasMetCold key cold.page v w × same
