-- How a run ends: what it put, why it stopped, and the disk that it leaves.
use Rattle.std.specs.Prelude.{◌≡◌, ◌++◌, ◌+◌, ◌<◌, ℕ, List, IsTrue}
use Rattle.lean_disk.specs.Moments.{LeavesOnly}
use Rattle.lean_disk.specs.Story.{Story, areas_of}
use Rattle.lean_disk.specs.Told.{TellsOn}
use Rattle.buffered_engine.specs.lean_edge.Outside.{Feed, Held}
use Rattle.buffered_engine.specs.core_state.Events.{Event}
use Rattle.buffered_engine.specs.disk_slots.declared.master.Master.{Master}
use Rattle.buffered_engine.specs.disk_image.Shown.{IsCleanDisk}
use Rattle.buffered_engine.specs.recovery.Telling.{TellsAll}
use Rattle.buffered_engine.specs.paged_engine.declared.opening.Size.{Size}
use Rattle.lean_shell.specs.Crashes.{IsYoung, MasterLeaves, TellsCrashes}
use Rattle.lean_shell.specs.Headline.{Headline}
use Rattle.lean_shell.specs.Runs.{AreOf, HowRun, front_of}

-- A run of an engine so large made these events of the core, and put these bytes into the sink.
pub record RunEnds (size : Size) (status : ℕ) (events : List Event) (s0 s1 : Story) (feed0 feed1 : Feed) (held0 held1 : Held) (sink0 sink1 : ℕ) : Type 0 where
  pub put : List ℕ
  pub holds : IsTrue held0.tells → held1.bytes ≡ held0.bytes ++ put
  pub how : HowRun size status s0 s1 feed0 feed1 put sink0 sink1
  pub front : events ≡ front_of how
  -- no area behind those of so many logs is touched, and the disk tells on
  pub others : (a : ℕ) → 1 + size.sessions < a → s1.area a ≡ s0.area a
  pub tells_on : TellsOn s0 s1
  -- the headline holds of what was put, also where the sink does not tell what it holds
  pub headline : IsTrue feed0.tells → TellsAll size.sessions s0 → Headline s0 s1 feed0.left put
  -- at every moment the master is that of the entry, or one of the opening; and what stands of the run's own calls
  pub masters : IsTrue feed0.tells → (m : Master) → TellsCrashes size.sessions s0 → IsCleanDisk m (areas_of s0) → IsYoung m s0 → LeavesOnly s0 s1 (MasterLeaves size (AreOf how) m s0 feed0.left put)
