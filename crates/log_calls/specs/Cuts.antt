-- The master of a cut.
use Rattle.std.specs.Prelude.{ℕ, List}
use Rattle.disk_runs.specs.core_state.Openings.{Opening}
use Rattle.disk_runs.specs.core_state.Events.{Event}
use Rattle.lean_disk.specs.Moments.{LeavesOnly}
use Rattle.lean_disk.specs.Story.{Crash, Story}
use Rattle.disk_runs.specs.disk_slots.declared.master.Master.{Master}
use Rattle.disk_runs.specs.core_disk.Versions.{then}
use Rattle.disk_runs.specs.MasterLaws.{LeavesEither, with_cut}
use Rattle.disk_runs.specs.Rings.{IsNextCut, MayCut, heads_of, passed_of}
use Rattle.disk_runs.specs.Stands.{Known, Stands}

-- The disk stands after the cut, by the master that was written, with each log from its new head on.
abbrev pub CutsOn : Master → (old new : Story) → Type 0
CutsOn m old new = (s0 : Crash) (g : Opening) (es : List Event) (k : Known) (x : ℕ) → Stands g es s0 k old → MayCut g es k x → IsNextCut g es k m x → Stands g (then es (Event.Cut x (heads_of k x))) s0 (with_cut k m (passed_of k x)) new

-- At every moment a fair crash leaves what one before the cut does, by the master that counted, or what one after it does, by the next.
abbrev pub KeepsCut : Master → (old new : Story) → Type 0
KeepsCut m old new = (s0 : Crash) (g : Opening) (es : List Event) (k : Known) (x : ℕ) → Stands g es s0 k old → MayCut g es k x → IsNextCut g es k m x → LeavesOnly old new (LeavesEither g es (Event.Cut x (heads_of k x)) s0 k.master m)
