-- Floors of workers: what a worker found flushed everywhere when its last transaction began, and before the first one the base.
use Rattle.core_state.specs.States.{State, flushed_by_all}
use Rattle.core_state.specs.Openings.{Opening}
use Rattle.core_state.specs.Events.{Event}
use Rattle.core_state.specs.Steps.{run, state_after}
use Rattle.std.specs.Prelude.{◌<◌, ◌≤◌, ℕ, List}

-- the worker's floor in t, a state after s
pub record HasFloor (g : Opening) (s t : State) (w : ℕ) : Type 0 where
  pub base : g.base ≤ (t.worker w).floor
  -- each log is flushed up to it
  pub flushed : (v : ℕ) → 0 < v → v ≤ g.workers → (t.worker w).floor ≤ t.flushed v
  pub flushed_by_all : (t.worker w).floor ≤ flushed_by_all g t
  -- it did not fall
  pub rises : (s.worker w).floor ≤ (t.worker w).floor

-- Whatever happens after whatever happened, each log is flushed up to each worker's floor, and floors never fall.
abbrev pub EveryFloor : Type 0
EveryFloor = (g : Opening) (before after : List Event) (w : ℕ) → let s = state_after g before in HasFloor g s (run g s after) w
