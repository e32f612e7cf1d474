-- Words of private functions: how a command ended, whatever the words.
use Rattle.std.specs.Prelude.{◌≡◌, ℕ, List, IsTrue}
use Rattle.lean_disk.specs.Faults.{HasCause, IsBlamed}
use Rattle.lean_disk.specs.Story.{Story}
use Rattle.buffered_engine.specs.lean_edge.Outside.{Feed, Held, added}
use Rattle.buffered_engine.specs.recovery.Telling.{TellsAll}
use Rattle.lean_shell.specs.Completeness.{Faults}
use Rattle.lean_shell.specs.Dumps.{DumpEnds}
use Rattle.buffered_engine.specs.core_state.Events.{Event}
use Rattle.lean_shell.specs.Ends.{RunEnds}
use Rattle.lean_shell.specs.Endings.{FormatEnds, IsStatus, UsageEnds}
use Rattle.lean_shell.specs.Headline.{Headline}
use Rattle.lean_shell.specs.Makes.{MakeEnds}
use Rattle.lean_shell.specs.Words.{Asks, AsksNothing}
use Rattle.lean_shell.specs.declared.words.Command.TheVariants.{Dump, Format, Run}
use Rattle.lean_shell.specs.declared.make.Workload.{Workload}
use Rattle.buffered_engine.specs.disk_format.declared.shape.Shape.{Shape}
use Rattle.buffered_engine.specs.paged_engine.declared.opening.Size.{Size}

-- How a command ended, on what told s0, feed0 and held0 and tells s1, feed1 and held1.
pub record CommandEnds (words : List (List ℕ)) (status : ℕ) (events : List Event) (s0 s1 : Story) (feed0 feed1 : Feed) (held0 held1 : Held) (before now : Faults) : Type 0 where
  pub known : IsStatus status
  pub usage : status ≡ 2 → AsksNothing words
  pub cause_read_fault : HasCause before.source now.source (status ≡ 4)
  pub cause_write_fault : IsBlamed before.sink now.sink (status ≡ 5)
  pub cause_disk_fault : HasCause before.disk now.disk (status ≡ 6)
  pub format : (shape : Shape) → Asks words (Format shape) → FormatEnds shape status s0 s1 held0 held1 before.sink now.sink before.disk now.disk
  pub run : (size : Size) → Asks words (Run size) → RunEnds size status events s0 s1 feed0 feed1 held0 held1 before.sink now.sink
  pub dump : Asks words Dump → DumpEnds status s0 s1 held0 held1 before.sink now.sink
  pub none : AsksNothing words → UsageEnds status s0 s1 held0 held1 before.sink now.sink before.disk now.disk

-- How a command ended as memory to read its words was refused: as each command ends whose own memory is refused.
pub record UnreadEnds (status : ℕ) (events : List Event) (s0 s1 : Story) (held0 held1 : Held) (sink0 sink1 disk0 disk1 : ℕ) : Type 0 where
  pub status_is : status ≡ 8
  pub format : (shape : Shape) → FormatEnds shape status s0 s1 held0 held1 sink0 sink1 disk0 disk1
  pub run : (size : Size) (feed : Feed) → RunEnds size status events s0 s1 feed feed held0 held1 sink0 sink1
  pub headline : (feed : Feed) → IsTrue held0.tells → TellsAll 16 s0 → Headline s0 s1 feed.left (added held0 held1)
  pub make : (workload : Workload) → MakeEnds workload status events s0 s1 s1 held0 held1 sink0 sink1
  pub dump : DumpEnds status s0 s1 held0 held1 sink0 sink1
  pub none : UsageEnds status s0 s1 held0 held1 sink0 sink1 disk0 disk1
