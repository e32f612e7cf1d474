-- How `make` ends: a run of the lines that its number makes, whose replies and durable lines are not put, and the line of what it came to.
use Rattle.std.specs.Prelude.{◌≡◌, ◌++◌, ℕ, List, [], Option, Some, None, IsTrue, MatchOption}
use Rattle.lean_disk.specs.Story.{Story}
use Rattle.lean_disk.specs.Told.{OnlyNotes}
use Rattle.buffered_engine.specs.lean_edge.Outside.{Feed, Held}
use Rattle.buffered_engine.specs.core_state.Events.{Event}
use Rattle.buffered_engine.specs.paged_engine.declared.opening.Size.{Size}
use Rattle.map_model.specs.declared.call.Call.{Call}
use Rattle.script_lang.specs.Notices.{Notice}
use Rattle.script_run.specs.Inside.{IsOfEngine}
use Rattle.script_run.specs.Runs.{calls_of}
use Rattle.script_run.specs.declared.stop.Stop.TheVariants as stops
use Rattle.transcripts.specs.Told.{asked_text}
use Rattle.workload_run.specs.Makes.{IsCount, feed_of, quiet}
use Rattle.workload_run.specs.Plans.{IsMade, IsWalked}
use Rattle.workload_run.specs.declared.run.Made.{Made}
use Rattle.lean_shell.specs.Dumps.{PutOrCut}
use Rattle.lean_shell.specs.Ends.{RunEnds}
use Rattle.lean_shell.specs.Lines.{line_of}
use Rattle.lean_shell.specs.Runs.{HowRun, Ran, WentLast, first_line}
use Rattle.lean_shell.specs.Runs.HowRun.{OfCut, OfReason, OfScript}
use Rattle.lean_shell.specs.declared.make.Workload.{Workload}

-- the engine's size: as `run` with no options has it
abbrev pub make_size : Size
make_size = record { frames = 256; rows = 256; group = 1; sessions = 16 }

-- All lines were executed, and this is what the answers come to; or the engine stopped, and nothing came of it. The first line was put, and the last line of an
-- engine that stopped; no reply.
pub record CameTo (sessions : ℕ) (script : List (ℕ × Call)) (made : Option Made) {size : Size} {status : ℕ} {s0 s1 : Story} {feed0 feed1 : Feed} {replied : List ℕ} {sink0 sink1 : ℕ} (ran : Ran size status s0 s1 feed0 feed1 replied sink0 sink1) (put : List ℕ) : Type 0 where
  pub sessions_are : sessions ≡ ran.executed.opening.workers
  pub comes : MatchOption made (IsOfEngine ran.stop) (λ m. (ran.stop ≡ stops.End) × IsCount m (calls_of ran.calls) × IsWalked script (calls_of ran.calls))
  pub last : List ℕ
  pub last_is : WentLast ran.stop last sink0 sink1
  pub put_is : put ≡ first_line ran.counts ++ last

-- of a disk that was not opened, or a first line that was cut off, this was put and nothing else
abbrev pub Came : (sessions : ℕ) (script : List (ℕ × Call)) (made : Option Made) {size : Size} {status : ℕ} {s0 s1 : Story} {feed0 feed1 : Feed} {replied : List ℕ} {sink0 sink1 : ℕ} → HowRun size status s0 s1 feed0 feed1 replied sink0 sink1 → (put : List ℕ) → Type 0
Came sessions script made {replied = replied} (OfReason reason unread) put = (made ≡ None) × (put ≡ replied)
Came sessions script made {replied = replied} (OfCut cut) put = (made ≡ None) × (put ≡ replied)
Came sessions script made (OfScript ran) put = CameTo sessions script made ran put

-- The lines that a number makes ran as a script with their text, on an engine so large. All that is said of a run of a script holds of them, with the replies
-- that a sink would have had.
pub record MakesRun (workload : Workload) (made : Option Made) (status : ℕ) (events : List Event) (put : List ℕ) (s0 s1 : Story) (sink0 sink1 : ℕ) : Type 0 where
  pub sessions : ℕ
  pub script : List (ℕ × Call)
  pub is : IsMade workload.number workload.count sessions script
  pub left : Feed
  pub run : RunEnds make_size status events s0 s1 (feed_of (asked_text script)) left quiet quiet sink0 sink1
  pub came : Came sessions script made run.how put

-- the line of what a workload came to
abbrev pub made_line : Workload → Made → List ℕ
made_line workload made = line_of (Notice.Made workload.count made.refused made.pairs made.sum)

-- It was put, or a prefix of it, where there is one; else the status stays.
abbrev pub WentMade : Workload → Option Made → (before status : ℕ) (put : List ℕ) (sink0 sink1 : ℕ) → Type 0
WentMade workload (Some made) before status put sink0 sink1 = PutOrCut status (made_line workload made) put sink0 sink1
WentMade workload None before status put sink0 sink1 = (status ≡ before) × (put ≡ []) × (sink1 ≡ sink0)

-- How `make` ended, on a disk that told s0, s1 behind the last call of the engine, and tells s2.
pub record MakeEnds (workload : Workload) (status : ℕ) (events : List Event) (s0 s1 s2 : Story) (held0 held1 : Held) (sink0 sink1 : ℕ) : Type 0 where
  pub made : Option Made
  pub before : ℕ
  pub put : List ℕ
  pub sink : ℕ
  pub run : MakesRun workload made before events put s0 s1 sink0 sink
  pub last : List ℕ
  pub last_is : WentMade workload made before status last sink sink1
  pub holds : IsTrue held0.tells → held1.bytes ≡ held0.bytes ++ (put ++ last)
  -- the line of what it came to is noted, and else nothing happens
  pub notes : OnlyNotes s1 s2
