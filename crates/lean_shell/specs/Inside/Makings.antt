-- Words of private functions: a workload that was executed, before the line of what it came to.
use Rattle.std.specs.Prelude.{◌≡◌, ◌++◌, ℕ, List, Option, IsTrue}
use Rattle.lean_disk.specs.Story.{Story}
use Rattle.buffered_engine.specs.core_state.Events.{Event}
use Rattle.buffered_engine.specs.lean_edge.Outside.{Held}
use Rattle.workload_run.specs.declared.run.Made.{Made}
use Rattle.lean_shell.specs.Makes.{MakesRun}
use Rattle.lean_shell.specs.declared.make.Workload.{Workload}

-- its lines ran, and this was put
pub record MakesHere (workload : Workload) (made : Option Made) (status : ℕ) (events : List Event) (s0 s1 : Story) (held0 held1 : Held) (sink0 sink1 : ℕ) : Type 0 where
  pub put : List ℕ
  pub run : MakesRun workload made status events put s0 s1 sink0 sink1
  pub same : held1.tells ≡ held0.tells
  pub holds : IsTrue held0.tells → held1.bytes ≡ held0.bytes ++ put
