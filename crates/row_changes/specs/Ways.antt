-- Where a page of a key's way is not hot, so that what goes to its leaf stops there.
use Rattle.std.specs.Prelude.{◌≡◌, ℕ}
use Rattle.session_state.specs.core_calls.Warms.{IsWarmFrom}
use Rattle.session_state.specs.row_words.Openings.{opening}
use Rattle.session_state.specs.rows_trait.declared.view.View.{View}
use Rattle.session_state.specs.rows_trait.Views.{state}
use Rattle.session_state.specs.btree_descent.Known.{IsCold}
use Rattle.row_changes.specs.declared.ways.Unmade.{Unmade}
use Rattle.row_changes.specs.declared.ways.Unmade.TheVariants as unmade

-- each page of the key's way is hot
abbrev pub IsWarm : View → (key : ℕ) → Type 0
IsWarm v key = IsWarmFrom (opening v.given) (state v).core key 0

-- nothing was seen, and this page of the key's way is not hot
pub record HasMetCold (key page : ℕ) (v w : View) : Type 0 where
  pub given : w.given ≡ v.given
  pub seen : w.seen ≡ v.seen
  pub cold : IsCold w.given (state w) key page

-- a change was not made since a page of the way is not hot
abbrev pub IsCut : Unmade → Type 0
IsCut (unmade.Cold cold) = Unit {0}
IsCut _ = ⊥

-- a change was not put back since its key has no entry
abbrev pub IsLost : Unmade → Type 0
IsLost unmade.Lost = Unit {0}
IsLost _ = ⊥
