-- What never falls.
use Rattle.core_state.specs.States.{State, start, flushed_by_all}
use Rattle.core_state.specs.Openings.{Opening}
use Rattle.core_state.specs.Events.{Event}
use Rattle.core_state.specs.Steps.{run}
use Rattle.std.specs.Prelude.{◌≤◌, ◌<◌, ℕ, List}

-- from s to t nothing of this fell
pub record Rises (g : Opening) (s t : State) : Type 0 where
  pub flushed : (w : ℕ) → 0 < w → w ≤ g.workers → s.flushed w ≤ t.flushed w
  pub flushed_by_all : flushed_by_all g s ≤ flushed_by_all g t
  -- each worker's clock, and the number of its last end
  pub clocks : (w : ℕ) → (s.worker w).clock ≤ (t.worker w).clock
  pub ends : (w : ℕ) → (s.worker w).end ≤ (t.worker w).end
  pub heads : (w : ℕ) → s.head w ≤ t.head w
  pub floor : s.floor ≤ t.floor
  pub cut : s.cut ≤ t.cut
  pub posted : s.posted ≤ t.posted
  pub epoch : s.epoch ≤ t.epoch

-- Whatever happens after whatever happened, flushed numbers, clocks, last ends, heads, floors and epochs never fall.
abbrev pub EveryRise : Type 0
EveryRise = (g : Opening) (before after : List Event) → let s = run g (start g) before in Rises g s (run g s after)
