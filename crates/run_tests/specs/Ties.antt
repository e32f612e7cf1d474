-- What ties a run's records to each other: its calls, its script, its disk and the engine's memory.
use Rattle.std.specs.Prelude.{◌≡◌, ◌<◌, ◌≤◌, ◌+◌, ◌++◌, ℕ, suc, true, false, leb, List, ◌∷◌, length, IsTrue, Some}
use Rattle.map_model.specs.declared.call.Answer.TheVariants as answer
use Rattle.map_model.specs.declared.call.Answered.{Answered}
use Rattle.map_model.specs.declared.call.Call.{Call}
use Rattle.map_model.specs.declared.call.Call.TheVariants.{Commit}
use Rattle.map_model.specs.Journals.{Journal}
use Rattle.map_model.specs.Lists.{Has}
use Rattle.map_model.specs.Pairings.{in_turn, script_of}
use Rattle.lean_shell.specs.core_calls.Deeds.{answered}
use Rattle.lean_shell.specs.core_calls.Fronts.{Done, front}
use Rattle.lean_shell.specs.core_calls.Steps.{hindered_in}
use Rattle.lean_shell.specs.core_crash.Crashes.{log_of}
use Rattle.lean_shell.specs.core_state.Events.{Event}
use Rattle.lean_shell.specs.core_state.Needs.{holds_row, value_in}
use Rattle.lean_shell.specs.core_state.Openings.{Opening}
use Rattle.lean_shell.specs.core_state.States.{State}
use Rattle.lean_shell.specs.core_state.Steps.{run, state_after}
use Rattle.lean_shell.specs.disk_image.Runs.{Block, block_at}
use Rattle.lean_shell.specs.disk_image.Shown.{IsCleanDisk}
use Rattle.lean_shell.specs.disk_slots.declared.master.Master.{Master}
use Rattle.lean_shell.specs.image_model.Entries.{Entry}
use Rattle.lean_disk.specs.Story.{Story, areas_of}
use Rattle.lean_shell.specs.lean_edge.Outside.{Feed}
use Rattle.lean_shell.specs.paged_engine.declared.opening.Size.{Size}
use Rattle.lean_shell.specs.log_record.declared.record.Record.{Record}
use Rattle.lean_shell.specs.script_lang.Text.{script_lines}
use Rattle.lean_shell.specs.script_run.Runs.{works_on}
use Rattle.lean_shell.specs.script_run.declared.stop.Stop.TheVariants as stops
use Rattle.lean_shell.specs.transcripts.Transcripts.{asked, transcript}
use Rattle.lean_shell.specs.worker_log.Accounts.{spelled_from}
use Rattle.lean_shell.specs.worker_log.Logs.{Log, used}
use Rattle.lean_shell.specs.Crashes.{IsYoung, TellsCrashes}
use Rattle.lean_shell.specs.Headline.{IsInHand}
use Rattle.lean_shell.specs.Runs.{Ran}
use Rattle.lean_shell.specs.Starts.{IsOldestOf}

-- ## The abort behind a conflict

-- The last call of a run met no conflict, unless the sink failed or the engine works no longer: behind one its abort was executed.
abbrev pub EveryConflictIsAborted : (s0 s1 : Story) → Type 0
EveryConflictIsAborted s0 s1 = (size : Size) (status : ℕ) (feed0 feed1 : Feed) (put : List ℕ) (sink0 sink1 : ℕ) (x : Ran size status s0 s1 feed0 feed1 put sink0 sink1) (newest : Done) (earlier : List Done) (c : Call) →
    x.calls ≡ newest ∷ earlier → (x.stop ≡ stops.WriteFault → ⊥) → works_on x.stop ≡ true → hindered_in newest.outcome.deed ≡ Some c → ⊥

-- ## What a scan tells

-- At some moment among these events of session w, from the state s on, it had the row of this key, and a leaf had the key with this value.
pub record IsHeldThere (g : Opening) (s : State) (w : ℕ) (es : List Event) (key value : ℕ) : Type 0 where
  pub before : List Event
  pub after : List Event
  pub is : es ≡ before ++ after
  pub held : holds_row ((run g s before).row (g.row_of key)) w ≡ true
  pub page : ℕ
  pub stood : value_in g.format ((run g s before).page page).node key ≡ Some value

-- So it is of each pair that a scan of a run told: none was told whose row its session had not, or which did not stand there.
abbrev pub EveryPairIsHeld : (s0 s1 : Story) → Type 0
EveryPairIsHeld s0 s1 = (size : Size) (status : ℕ) (feed0 feed1 : Feed) (put : List ℕ) (sink0 sink1 : ℕ) (x : Ran size status s0 s1 feed0 feed1 put sink0 sink1) (later earlier : List Done) (y : Done) (key value : ℕ) →
    later ++ y ∷ earlier ≡ x.calls → answered y.outcome.deed ≡ answer.Pair key value → IsHeldThere x.executed.opening (state_after x.executed.opening (front earlier)) y.outcome.session y.events key value

-- ## The commit in hand

-- it is the commit of this record
pub record IsItsCommit (end : Entry) (session : ℕ) (call : Call) : Type 0 where
  pub session_is : session ≡ end.log
  pub call_is : call ≡ Commit

-- Whatever the script's next line asks, behind the lines of the calls that were told, is the commit in hand.
abbrev pub EveryHandIsNext : Type 0
EveryHandIsNext = (workers : ℕ) (input output : List ℕ) (records : List Entry) (all : Journal) (x : IsInHand workers input output records all) (calls : List Answered) (session : ℕ) (call : Call) (others : List (ℕ × Call)) →
    transcript workers input output ≡ in_turn calls → asked workers (script_lines input) ≡ script_of calls ++ (session, call) ∷ others → IsItsCommit x.end session call

-- ## Records on the disk

-- What is flushed and not passed by the head is among the records that a crash leaves.
abbrev pub EveryFlushedIsLeft : Type 0
EveryFlushedIsLeft = (s : State) (w : ℕ) (records : List Entry) → IsOldestOf s w records → (r : Entry) → Has r (log_of w s.entries) → r.number ≤ s.flushed w → leb r.number (s.head w) ≡ false → Has r records

-- these bytes hold the blocks of the log from its head on: of so many all but one at least
pub record HasAllButOne (log : Log) (many : ℕ) (bytes : List ℕ) : Type 0 where
  pub written : List (List Record)
  pub enough : many ≤ length written + 1
  pub lie : (block : Block) → Has block (spelled_from log.generation log.log log.head written) → block_at log.blocks block.number bytes ≡ block.bytes

-- At the end of a run whose disk did not fail, of the blocks that a log uses all but the one in hand lie on the disk.
abbrev pub EveryUsedIsWritten : (s0 s1 : Story) → Type 0
EveryUsedIsWritten s0 s1 = (size : Size) (status : ℕ) (feed0 feed1 : Feed) (put : List ℕ) (sink0 sink1 : ℕ) (x : Ran size status s0 s1 feed0 feed1 put sink0 sink1) (m : Master) →
    (x.stop ≡ stops.DiskFault → ⊥) → IsTrue feed0.tells → TellsCrashes size.sessions s0 → IsCleanDisk m (areas_of s0) → IsYoung m s0 →
    (w : ℕ) → 0 < w → w ≤ x.executed.opening.workers → HasAllButOne (x.executed.last.log w) (used (x.executed.last.log w)) (areas_of s1 (suc w))
