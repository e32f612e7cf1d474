-- The master of a sync.
use Rattle.std.specs.Prelude.{ℕ, List}
use Rattle.disk_runs.specs.core_state.Openings.{Opening}
use Rattle.disk_runs.specs.core_state.Events.{Event}
use Rattle.lean_disk.specs.Moments.{LeavesOnly}
use Rattle.lean_disk.specs.Story.{Crash, Story}
use Rattle.disk_runs.specs.disk_slots.declared.master.Master.{Master}
use Rattle.disk_runs.specs.core_disk.Versions.{then}
use Rattle.disk_runs.specs.MasterLaws.{IsSync, LeavesEither, with_sync}
use Rattle.disk_runs.specs.Stands.{Known, Stands}

-- The disk stands after the sync, by the master that was written, with each log's clock and what it has flushed raised to its number.
abbrev pub SyncsOn : Master → (old new : Story) → Type 0
SyncsOn m old new = (s0 : Crash) (g : Opening) (es : List Event) (x : Known) (n : ℕ) → Stands g es s0 x old → IsSync g es x m n → Stands g (then es (Event.Sync n)) s0 (with_sync x m n) new

-- At every moment a fair crash leaves what one before the sync does, by the master that counted, or what one after it does, by the next.
abbrev pub KeepsEither : Master → (old new : Story) → Type 0
KeepsEither m old new = (s0 : Crash) (g : Opening) (es : List Event) (x : Known) (n : ℕ) → Stands g es s0 x old → IsSync g es x m n → LeavesOnly old new (LeavesEither g es (Event.Sync n) s0 x.master m)
