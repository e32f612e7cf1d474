-- The floor of a master, which may be below that of the state where the logs reach as far without it.
use Rattle.std.specs.Prelude.{◌<◌, ◌≤◌, ℕ}
use Rattle.map_model.specs.Lists.{Has}
use Rattle.core_crash.specs.image_model.Entries.{Entry}
use Rattle.core_crash.specs.core_state.Openings.{Opening}
use Rattle.core_crash.specs.core_state.States.{State}
use Rattle.core_crash.specs.Crashes.{log_of}

-- log w has a flushed record that is not below n: whatever a crash leaves of it, it leaves that record
pub record HasReached (s : State) (n w : ℕ) : Type 0 where
  pub entry : Entry
  pub has : Has entry (log_of w s.entries)
  pub far : n ≤ entry.number
  pub flushed : entry.number ≤ s.flushed w

-- It is at most the state's floor, and no log begins behind a greater number. Where it is below the state's floor, each log has reached that one.
pub record IsFloorOf (g : Opening) (s : State) (floor : ℕ) : Type 0 where
  pub low : floor ≤ s.floor
  pub heads : (w : ℕ) → 0 < w → w ≤ g.workers → s.head w ≤ floor
  pub reached : floor < s.floor → (w : ℕ) → 0 < w → w ≤ g.workers → HasReached s s.floor w
