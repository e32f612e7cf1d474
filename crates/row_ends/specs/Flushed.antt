-- How far logs are flushed, as a seat loads it.
use Rattle.std.specs.Prelude.{◌≡◌, ◌-◌, ◌^◌, ℕ, zero, suc, min}
use Rattle.session_state.specs.core_state.States.{State}
use Rattle.session_state.specs.rows_trait.declared.view.View.{View}

-- the least number up to which logs 1 to n are flushed, or the greatest number of 64 bits
abbrev pub flushed_to : State → ℕ → ℕ
flushed_to s zero = 2 ^ 64 - 1
flushed_to s (suc n) = min (flushed_to s n) (s.flushed (suc n))

-- words were loaded: nothing was seen to happen, and no row was latched or given up
pub record Looked (v w : View) : Type 0 where
  pub given : w.given ≡ v.given
  pub seen : w.seen ≡ v.seen
  pub held : w.held ≡ v.held
