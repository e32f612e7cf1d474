-- Completeness: where source, sink and disk did not fail, and nothing else stands in its way, a command does what its words ask, and the status is 0; or memory was refused, and it is 8.
use Rattle.std.specs.Prelude.{◌≡◌, ◌⊎◌, ◌++◌, ◌<◌, ◌^◌, ℕ, false, List, length, IsTrue, Some}
use Rattle.lean_disk.specs.Faults.{Rose}
use Rattle.lean_disk.specs.Story.{Story, Tells, areas_of}
use Rattle.map_model.specs.declared.call.Call.{Call}
use Rattle.map_model.specs.Lists.{Has}
use Rattle.map_model.specs.Pairings.{is_open_line, script_of}
use Rattle.page_model.specs.Pairs.{Pair}
use Rattle.buffered_engine.specs.core_calls.Fronts.{Done}
use Rattle.buffered_engine.specs.core_calls.Printed.{printed}
use Rattle.buffered_engine.specs.disk_format.Formatted.{HasMaster, IsNewDisk}
use Rattle.buffered_engine.specs.disk_format.declared.shape.Shape.{Shape}
use Rattle.buffered_engine.specs.disk_image.Shown.{IsCleanDisk, IsSoundDisk}
use Rattle.buffered_engine.specs.disk_slots.declared.master.Master.{Master}
use Rattle.buffered_engine.specs.lean_edge.Outside.{Feed, Held}
use Rattle.buffered_engine.specs.paged_engine.declared.opening.Size.{Size}
use Rattle.buffered_engine.specs.recovery.Masters.{IsOpenable}
use Rattle.buffered_engine.specs.recovery.Telling.{TellsAll}
use Rattle.script_lang.specs.Lines as grammar
use Rattle.script_lang.specs.Text.{script_lines}
use Rattle.script_lang.specs.declared.line.Line.{Line}
use Rattle.script_run.specs.Runs.{calls_of}
use Rattle.transcripts.specs.Told.{asked_lines, text_of}
use Rattle.workload_run.specs.Makes.{IsCount}
use Rattle.workload_run.specs.Plans.{IsMade, IsWalked}
use Rattle.workload_run.specs.declared.run.Made.{Made}
use Rattle.lean_shell.specs.Crashes.{IsYoung, TellsCrashes}
use Rattle.lean_shell.specs.Dumps.{AreOfDisk, dump_text}
use Rattle.lean_shell.specs.Endings.{formatted_line}
use Rattle.lean_shell.specs.Makes.{made_line, make_size}
use Rattle.lean_shell.specs.Runs.{Counts, Executed, first_line}
use Rattle.lean_shell.specs.Words.{Asks}
use Rattle.lean_shell.specs.declared.make.Workload.{Workload}
use Rattle.lean_shell.specs.declared.words.Command.TheVariants.{Dump, Format, Make, Run}

-- ## What it asks

-- how often source, sink and disk have failed
pub record Faults : Type 0 where
  pub source : ℕ
  pub sink : ℕ
  pub disk : ℕ

-- Sink and disk did not fail.
pub record NoneFailed (before now : Faults) : Type 0 where
  pub sink : Rose before.sink now.sink → ⊥
  pub disk : Rose before.disk now.disk → ⊥

-- A clean disk, of at most so many logs, by this master: it tells of its areas and of crashes, and has numbers left for an opening and a run.
pub record IsReady (most : ℕ) (m : Master) (s : Story) : Type 0 where
  pub tells : TellsCrashes most s
  pub clean : IsCleanDisk m (areas_of s)
  pub openable : IsOpenable most m
  pub young : IsYoung m s

-- The source tells, and did not fail; each of its lines is one of the grammar, of so many sessions, and there are fewer than 2^40.
pub record IsScript (sessions : ℕ) (feed : Feed) (before now : ℕ) : Type 0 where
  pub tells : IsTrue feed.tells
  pub works : Rose before now → ⊥
  pub each : (text : List ℕ) → Has text (script_lines feed.left) → (line : Line) × (grammar.line_of sessions text ≡ Some line)
  pub few : length (script_lines feed.left) < 2 ^ 40

-- ## What is done

-- Each line has its answers: the script's lines are those that ask the calls that an engine executed, a group of answers to each line, the last group whole too; each is an
-- answer or a refusal with its cause (`executes`). The first line was put, and behind it the answers and the durable lines that are due.
pub record AnswersEach (size : Size) (s0 : Story) (input : List ℕ) (held0 held1 : Held) : Type 0 where
  pub counts : Counts
  pub calls : List Done
  pub executed : Executed size s0 counts calls
  pub lines : script_lines input ≡ asked_lines (script_of (calls_of calls))
  pub whole : is_open_line (calls_of calls) ≡ false
  pub put : IsTrue held0.tells → held1.bytes ≡ held0.bytes ++ (first_line counts ++ text_of (printed executed.opening calls))

-- The lines that the number makes were executed, and the first line and what they came to were put.
pub record MakesAll (workload : Workload) (s0 : Story) (held0 held1 : Held) : Type 0 where
  pub counts : Counts
  pub calls : List Done
  pub executed : Executed make_size s0 counts calls
  pub script : List (ℕ × Call)
  pub is : IsMade workload.number workload.count executed.opening.workers script
  pub walked : IsWalked script (calls_of calls)
  pub made : Made
  pub count : IsCount made (calls_of calls)
  pub put : IsTrue held0.tells → held1.bytes ≡ held0.bytes ++ (first_line counts ++ made_line workload made)

-- The first line, each pair of the disk's map and `end` were put.
pub record ListsAll (s0 : Story) (held0 held1 : Held) : Type 0 where
  pub counts : Counts
  pub pairs : List Pair
  pub of_disk : AreOfDisk s0 counts pairs
  pub put : IsTrue held0.tells → held1.bytes ≡ held0.bytes ++ dump_text counts pairs

-- It is a new disk, and its line was put.
pub record FormatsDisk (shape : Shape) (s0 s1 : Story) (held0 held1 : Held) : Type 0 where
  pub disk : IsNewDisk shape s0 s1
  pub put : IsTrue held0.tells → held1.bytes ≡ held0.bytes ++ formatted_line shape

-- it is done, and the status is 0; or memory was refused
abbrev pub IsDone : (status : ℕ) (did : Type 0) → Type 0
IsDone status did = ((status ≡ 0) × did) ⊎ (status ≡ 8)

-- ## All of it

-- Of a command on what told s0, feed0 and held0 and tells s1 and held1, whose sink and disk did not fail: a run and a workload on a ready disk, a dump of a disk that breaks no
-- rule, and `format` of one that has no master.
pub record IsComplete (words : List (List ℕ)) (status : ℕ) (s0 s1 : Story) (feed0 : Feed) (held0 held1 : Held) (before now : Faults) : Type 0 where
  pub run : (size : Size) (m : Master) → Asks words (Run size) → IsReady size.sessions m s0 → IsScript (length m.heads) feed0 before.source now.source → IsDone status (AnswersEach size s0 feed0.left held0 held1)
  pub make : (workload : Workload) (m : Master) → Asks words (Make workload) → IsReady 16 m s0 → IsDone status (MakesAll workload s0 held0 held1)
  pub dump : (m : Master) → Asks words Dump → TellsAll 16 s0 → IsOpenable 16 m → IsSoundDisk m (areas_of s0) → IsDone status (ListsAll s0 held0 held1)
  pub format : (shape : Shape) → Asks words (Format shape) → Tells s0 0 → (HasMaster (s0.area 0).bytes → ⊥) → IsDone status (FormatsDisk shape s0 s1 held0 held1)
