-- How a run of a script ended.
use Rattle.std.specs.Prelude.{◌≡◌, ◌++◌, ◌+◌, ◌<◌, ◌≤◌, ◌^◌, ℕ, suc, Bool, true, false, List, [], ◌∷◌, length, take, IsTrue, Option, None, Some}
use Rattle.buffered_engine.specs.image_model.Images.{won_by, lost_by, map_of}
use Rattle.lean_disk.specs.Faults.{Rose}
use Rattle.lean_disk.specs.Story.{Story, areas_of}
use Rattle.buffered_engine.specs.lean_edge.Outside.{Feed}
use Rattle.script_lang.specs.Notices.{Notice}
use Rattle.buffered_engine.specs.disk_slots.declared.master.Master.{Master}
use Rattle.buffered_engine.specs.disk_image.MasterSlots.{master_on}
use Rattle.buffered_engine.specs.disk_image.Runs.{Block, block_at}
use Rattle.buffered_engine.specs.disk_image.Shown.{Areas, image_by, IsCleanDisk, IsSoundDisk}
use Rattle.buffered_engine.specs.disk_runs.Logs.{IsLogOf}
use Rattle.buffered_engine.specs.log_block.Block.{records_text}
use Rattle.buffered_engine.specs.log_record.declared.record.Record.{Record}
use Rattle.buffered_engine.specs.recovery.Masters.{IsOpenable, next_master}
use Rattle.buffered_engine.specs.recovery.Opened.{IsRefusal, IsUntouched}
use Rattle.buffered_engine.specs.recovery.Telling.{TellsAll}
use Rattle.buffered_engine.specs.recovery.declared.opening.Unrecovered.{Unrecovered}
use Rattle.buffered_engine.specs.recovery.declared.opening.Unrecovered.TheVariants as why
use Rattle.buffered_engine.specs.core_crash.Crashes.{from_head, log_of}
use Rattle.buffered_engine.specs.core_state.Events.{Event}
use Rattle.buffered_engine.specs.core_state.Needs.{may, value_in}
use Rattle.buffered_engine.specs.core_state.Openings.{Opening, first_map}
use Rattle.buffered_engine.specs.core_state.States.{State}
use Rattle.buffered_engine.specs.core_state.Steps.{run, state_after}
use Rattle.buffered_engine.specs.core_calls.Deeds.{answered, asked}
use Rattle.buffered_engine.specs.core_calls.Fronts.{Done, front}
use Rattle.buffered_engine.specs.core_calls.LineCounts.{is_scan_call}
use Rattle.buffered_engine.specs.core_calls.Printed.{printed}
use Rattle.buffered_engine.specs.core_calls.Scans.{HoldsMet, is_scan}
use Rattle.buffered_engine.specs.run_crashes.Lines.{next_of}
use Rattle.buffered_engine.specs.worker_log.Accounts.{joined, spelled_from}
use Rattle.buffered_engine.specs.worker_log.Laws.{entries_onto}
use Rattle.buffered_engine.specs.worker_log.Logs.{Log}
use Rattle.map_model.specs.Lists.{Has, keep}
use Rattle.map_model.specs.Maps.{MapAnswer}
use Rattle.map_model.specs.Outputs.{Reply}
use Rattle.map_model.specs.declared.call.Answer.TheVariants as answer
use Rattle.map_model.specs.declared.call.Answered.{Answered}
use Rattle.map_model.specs.declared.call.Refusal.TheVariants.{RowSpent}
use Rattle.map_model.specs.Pairings.{counted, in_turn, is_open_line, script_of}
use Rattle.transcripts.specs.Told.{opened_line, text_of}
use Rattle.transcripts.specs.Transcripts.{transcript}
use Rattle.script_run.specs.Runs.{Executes, IsLastCut, PrintsTo, calls_of, works_on}
use Rattle.script_run.specs.Texts.{LinesRead}
use Rattle.script_run.specs.declared.stop.Stop.{Stop}
use Rattle.script_run.specs.declared.stop.Stop.TheVariants as stops
use Rattle.buffered_engine.specs.call_parts.Memory.{Memory}
use Rattle.buffered_engine.specs.paged_engine.Openings.{Shows}
use Rattle.buffered_engine.specs.paged_engine.declared.opening.Size.{Size}
use Rattle.lean_shell.specs.Crashes.{IsYoung, TellsCrashes, as_read}
use Rattle.lean_shell.specs.Headline.{Survives}
use Rattle.lean_shell.specs.Lines.{line_of, WentOut}
use Rattle.lean_shell.specs.Starts.{AllAnswered, IsLeft, IsOfSize}
use Rattle.buffered_engine.specs.recovery.Starts.{IsStartOf}

-- ## A disk that was not opened

abbrev pub notice_of : Unrecovered → Notice
notice_of why.NotFormatted = Notice.NotFormatted
notice_of (why.Damaged area place) = Notice.Damaged area place
notice_of why.DiskFault = Notice.DiskFault
notice_of why.Memory = Notice.NoMemory

abbrev pub status_of : Unrecovered → ℕ
status_of why.NotFormatted = 7
status_of (why.Damaged area place) = 7
status_of why.DiskFault = 6
status_of why.Memory = 8

-- Of a disk of at most so many logs: the line of the reason was put, or a prefix of it and the sink failed; and a disk that is refused is left as it was.
pub record NotOpened (most status : ℕ) (s0 s1 : Story) (put : List ℕ) (sink0 sink1 : ℕ) : Type 0 where
  pub reason : Unrecovered
  pub status_is : status ≡ status_of reason
  pub shown : Shows most s0 reason
  pub printed : WentOut (line_of (notice_of reason)) put sink0 sink1
  pub left : IsRefusal reason → (a : ℕ) → IsUntouched (s0.area a) (s1.area a)

-- ## A disk that was opened

-- the new generation, and how many transactions were found committed and how many were undone
pub record Counts : Type 0 where
  pub generation : ℕ
  pub winners : ℕ
  pub undone : ℕ

abbrev pub first_line : Counts → List ℕ
first_line n = opened_line n.generation n.winners n.undone

-- The opening is the start that the disk on entry, of at most so many logs, gives, faithful, with the map for which it stands, and the counts are those of
-- its image.
pub record IsFrom (most : ℕ) (g : Opening) (s : Story) (n : Counts) : Type 0 where
  pub faithful : g.faithful ≡ true
  pub m : Master
  pub openable : IsOpenable most m
  pub sound : IsSoundDisk m (areas_of s)
  pub starts : IsStartOf m (areas_of s) g
  pub map : (k : ℕ) → first_map g k ≡ map_of (image_by m (areas_of s)) k
  pub generation : n.generation ≡ suc m.generation
  pub won : n.winners ≡ length (won_by (image_by m (areas_of s)))
  pub lost : n.undone ≡ length (lost_by (image_by m (areas_of s)))

-- log w of the next generation, which is empty
abbrev pub first_log : Master → (base w : ℕ) → Log
first_log m base w = record { generation = suc m.generation; log = w; blocks = m.blocks; head = 0; next = 0; payload = []; count = 0; last = base; flushed = base; ends = [] }

-- The sink failed as it was given the first line, and the script was not read.
pub record CutFirst (most status : ℕ) (s0 : Story) (feed0 feed1 : Feed) (put : List ℕ) (sink0 sink1 : ℕ) : Type 0 where
  pub status_is : status ≡ 5
  pub cause : Rose sink0 sink1
  pub counts : Counts
  pub opening : Opening
  pub from : TellsAll most s0 → IsFrom most opening s0 counts
  pub prefix : ℕ
  pub printed : put ≡ take prefix (first_line counts)
  pub unread : feed1 ≡ feed0

-- ## What was executed

-- An engine so large stands on the start that the disk on entry gives, with an empty log for each session and the master that recovery wrote, and answers these
-- calls in turn, by the events of a run of the core: each refusal has its cause in the state at its place and in its log.
pub record Executed (size : Size) (s0 : Story) (counts : Counts) (calls : List Done) : Type 0 where
  pub opening : Opening
  pub of_size : IsOfSize size opening
  pub from : TellsAll size.sessions s0 → IsFrom size.sessions opening s0 counts
  pub first : Memory
  pub log : TellsAll size.sessions s0 → (m : Master) → master_on (areas_of s0 0) ≡ Some m → (w : ℕ) → 0 < w → w ≤ opening.workers → first.log w ≡ first_log m opening.base w
  pub master : TellsAll size.sessions s0 → (m : Master) → master_on (areas_of s0 0) ≡ Some m → first.master ≡ next_master m opening.base
  pub last : Memory
  pub executes : Executes opening size.group [] first calls last

-- ## What was put

-- the status by why the script stopped, and the line that is put then
abbrev pub ended : Stop → ℕ
ended stops.End = 0
ended (stops.Refused line) = 3
ended stops.ReadFault = 4
ended stops.WriteFault = 5
ended stops.DiskFault = 6
ended (stops.Damaged place) = 7

abbrev pub last_line : Stop → List ℕ
last_line stops.End = []
last_line (stops.Refused line) = line_of (Notice.Refused line)
last_line stops.ReadFault = line_of Notice.ReadFault
last_line stops.WriteFault = []
last_line stops.DiskFault = line_of Notice.DiskFault
last_line (stops.Damaged place) = line_of (Notice.Damaged 1 place)

-- what was put behind the replies, and how often the sink failed in the run
abbrev pub WentLast : Stop → (put : List ℕ) (before now : ℕ) → Type 0
WentLast stops.End put before now = (put ≡ []) × (now ≡ before)
WentLast stops.WriteFault put before now = (put ≡ []) × Rose before now
WentLast stop put before now = WentOut (last_line stop) put before now

-- The first line went out, then the lines that are due behind these calls, then the last line or a prefix of it.
pub record Printed (g : Opening) (stop : Stop) (counts : Counts) (calls : List Done) (put : List ℕ) (sink0 sink1 : ℕ) : Type 0 where
  pub told : List Reply
  pub tail : List ℕ
  pub prints : PrintsTo (Some stop) (printed g calls) told tail
  pub cut : stop ≡ stops.WriteFault → IsLastCut g [] calls told
  pub last : List ℕ
  pub last_is : WentLast stop last sink0 sink1
  pub put_is : put ≡ first_line counts ++ (text_of told ++ (tail ++ last))

-- What a script for so many sessions and what was put tell of: all calls, but for the last ones where the sink failed, and for the answers of an unfinished
-- group.
pub record AreTold (sessions : ℕ) (stop : Stop) (calls : List Done) (input put : List ℕ) : Type 0 where
  pub heard : List Answered
  pub unheard : List Answered
  pub calls_are : unheard ++ heard ≡ calls_of calls
  pub all_heard : (stop ≡ stops.WriteFault → ⊥) → unheard ≡ []
  pub transcript_is : transcript sessions input put ≡ counted (in_turn heard)

-- ## What is left

-- Of the calls of a run these were heard: its first calls, and the next one is the one behind them; or all, and the next one was asked behind them and not
-- answered, since the disk failed.
pub data AreFirst (stop : Stop) (calls heard : List Done) (next_one : Option Done) : Type 0 where
  Among : (unheard : List Done) → unheard ++ heard ≡ calls → next_one ≡ next_of unheard → AreFirst stop calls heard next_one
  Behind : stop ≡ stops.DiskFault → heard ≡ calls → AreFirst stop calls heard next_one

-- all were heard; or, where the sink failed, all but the newest
pub data AreAll (stop : Stop) (calls heard : List Done) (next_one : Option Done) : Type 0 where
  All : heard ≡ calls → next_one ≡ None → AreAll stop calls heard next_one
  ButNewest : stop ≡ stops.WriteFault → (newest : Done) → calls ≡ newest ∷ heard → next_one ≡ Some newest → AreAll stop calls heard next_one

-- so it is of the run from this opening on
abbrev pub AreFirstOf : (g : Opening) (stop : Stop) (calls : List Done) (opening : Opening) (heard : List Done) (next_one : Option Done) → Type 0
AreFirstOf g stop calls opening heard next_one = (opening ≡ g) × AreFirst stop calls heard next_one

abbrev pub AreAllOf : (g : Opening) (stop : Stop) (calls : List Done) (opening : Opening) (heard : List Done) (next_one : Option Done) → Type 0
AreAllOf g stop calls opening heard next_one = (opening ≡ g) × AreAll stop calls heard next_one

-- Log w of an engine, which has the records of this state, and what these bytes have of it: all its blocks but the one in hand.
pub record HasBlocks (s : State) (n : Master) (w : ℕ) (log : Log) (bytes : List ℕ) : Type 0 where
  pub is : IsLogOf n w log
  -- the records of each block from the head on, and of the one in hand
  pub written : List (List Record)
  pub in_hand : List Record
  pub count : log.next ≡ log.head + length written
  pub lie : (block : Block) → Has block (spelled_from log.generation log.log log.head written) → block_at log.blocks block.number bytes ≡ block.bytes
  pub payload : (log.payload ≡ records_text in_hand) × (log.count ≡ length in_hand)
  pub records : entries_onto w [] (joined written ++ in_hand) ≡ from_head (s.head w) (log_of w s.entries)

-- The disk has what an engine has in memory of it behind these calls: the master that counts, and the blocks of each log.
pub record IsOnDisk (g : Opening) (calls : List Done) (memory : Memory) (area : Areas) : Type 0 where
  pub master : master_on (area 0) ≡ Some memory.master
  pub logs : (w : ℕ) → 0 < w → w ≤ g.workers → HasBlocks (state_after g (front calls)) memory.master w (memory.log w) (area (suc w))

-- ## All of it

-- the answer is to a scan
abbrev pub asks_scan : Done → Bool
asks_scan x = is_scan_call (asked x.outcome.deed)

-- From the state s on, by these events session w read this pair in a leaf. The need of that event was met: it was the next pair there, and the session had its row; and the
-- leaf had it with this value.
pub record ReadsPair (g : Opening) (s : State) (w : ℕ) (es : List Event) (key value : ℕ) : Type 0 where
  pub before : List Event
  pub after : List Event
  pub page : ℕ
  pub at : ℕ
  pub word : ℕ
  pub is : es ≡ before ++ Event.Next w page at (MapAnswer.Pair key word) ∷ after
  pub met : may g (run g s before) (Event.Next w page at (MapAnswer.Pair key word)) ≡ true
  pub stood : value_in g.format ((run g s before).page page).node key ≡ Some value

-- What is said of an answer behind these that tells a pair of a scan, or that it is over: at each pair and each gap that it came to its session had the row of each
-- entry that it met, tombstones too; and a pair that it tells it read there.
pub record ScansLocked (g : Opening) (earlier : List Done) (x : Done) : Type 0 where
  pub held : HoldsMet g (state_after g (front earlier)) x.events
  pub told : (key value : ℕ) → answered x.outcome.deed ≡ answer.Pair key value → ReadsPair g (state_after g (front earlier)) x.outcome.session x.events key value

-- how many of the answers are to scans
abbrev pub steps_of_scans : List Done → ℕ
steps_of_scans calls = length (keep asks_scan calls)

-- No answer stands of which a further one is due, unless the sink failed or the engine works no longer.
abbrev pub IsClosed : Stop → List Done → Type 0
IsClosed stop calls = (stop ≡ stops.WriteFault → ⊥) → works_on stop ≡ true → is_open_line (calls_of calls) ≡ false

-- The script was executed, line by line, and what came of it was put.
pub record Ran (size : Size) (status : ℕ) (s0 s1 : Story) (feed0 feed1 : Feed) (put : List ℕ) (sink0 sink1 : ℕ) : Type 0 where
  pub stop : Stop
  pub status_is : status ≡ ended stop
  pub counts : Counts
  pub calls : List Done
  -- the lines, and the answers: to a line there are as many as a scan may tell pairs, and two more
  pub few : length (script_of (calls_of calls)) < 2 ^ 40
  pub calls_few : length calls < 2 ^ 47
  pub executed : Executed size s0 counts calls
  -- too few for a latch to be spent, where no more than 2^34 of them are to scans, each of which may pass each leaf of the tree
  pub none_spent : steps_of_scans calls ≤ 2 ^ 34 → (x : Done) → Has x calls → answered x.outcome.deed ≡ answer.Refused RowSpent → ⊥
  -- what a scan tells was locked, and stood there
  pub scans : (later earlier : List Done) (x : Done) → later ++ x ∷ earlier ≡ calls → is_scan x.outcome.deed ≡ true → ScansLocked executed.opening earlier x
  -- behind a conflict the abort was executed, unless the sink or the engine stopped there
  pub closed : IsClosed stop calls
  -- the script begins with the lines that ask them, and why no more were executed
  pub read : IsTrue feed0.tells → LinesRead stop executed.opening.workers (calls_of calls) feed0.left
  pub printed : Printed executed.opening stop counts calls put sink0 sink1
  pub told : IsTrue feed0.tells → AreTold executed.opening.workers stop calls feed0.left put
  -- nothing was written behind the logs of its sessions
  pub beside : (a : ℕ) → suc executed.opening.workers < a → IsUntouched (s0.area a) (s1.area a)
  -- on a disk that stood for a map no page is damaged
  pub undamaged : IsTrue feed0.tells → (m : Master) → TellsCrashes size.sessions s0 → IsCleanDisk m (areas_of s0) → IsYoung m s0 → (place : ℕ) → stop ≡ stops.Damaged place → ⊥
  -- unless the disk failed, it stands as a crash would have left it
  pub stands : (stop ≡ stops.DiskFault → ⊥) → IsTrue feed0.tells → (m : Master) → TellsCrashes size.sessions s0 → IsCleanDisk m (areas_of s0) → IsYoung m s0 → Survives m s0 feed0.left put (as_read s1)
  pub left : (stop ≡ stops.DiskFault → ⊥) → IsTrue feed0.tells → (m : Master) → TellsCrashes size.sessions s0 → IsCleanDisk m (areas_of s0) → IsYoung m s0 → IsLeft size AllAnswered (AreAllOf executed.opening stop calls) m s0 feed0.left put (as_read s1)
  pub disk : (stop ≡ stops.DiskFault → ⊥) → IsTrue feed0.tells → (m : Master) → TellsCrashes size.sessions s0 → IsCleanDisk m (areas_of s0) → IsYoung m s0 → IsOnDisk executed.opening calls executed.last (areas_of s1)

-- How a run ended, on a disk that told s0 and tells s1, with a source that told feed0 and tells feed1, and a sink into which these bytes were put; and
-- how often the sink had failed before and has now. The script of a disk that was not opened was not read.
pub data HowRun (size : Size) (status : ℕ) (s0 s1 : Story) (feed0 feed1 : Feed) (put : List ℕ) (sink0 sink1 : ℕ) : Type 0 where
  OfReason : NotOpened size.sessions status s0 s1 put sink0 sink1 → feed1 ≡ feed0 → HowRun size status s0 s1 feed0 feed1 put sink0 sink1
  OfCut : CutFirst size.sessions status s0 feed0 feed1 put sink0 sink1 → HowRun size status s0 s1 feed0 feed1 put sink0 sink1
  OfScript : Ran size status s0 s1 feed0 feed1 put sink0 sink1 → HowRun size status s0 s1 feed0 feed1 put sink0 sink1

-- the events of the core that it made, from the start that the opening left: those of its calls, in their order
abbrev pub front_of : {size : Size} {status : ℕ} {s0 s1 : Story} {feed0 feed1 : Feed} {put : List ℕ} {sink0 sink1 : ℕ} → HowRun size status s0 s1 feed0 feed1 put sink0 sink1 → List Event
front_of (OfReason reason unread) = []
front_of (OfCut cut) = []
front_of (OfScript ran) = front ran.calls

-- These calls that were heard, and the next one, are of the run that ended so; where no script was executed there are none.
abbrev pub AreOf : {size : Size} {status : ℕ} {s0 s1 : Story} {feed0 feed1 : Feed} {put : List ℕ} {sink0 sink1 : ℕ} → HowRun size status s0 s1 feed0 feed1 put sink0 sink1 → Opening → List Done → Option Done → Type 0
AreOf (OfReason reason unread) = λ opening heard next_one. ⊥
AreOf (OfCut cut) = λ opening heard next_one. ⊥
AreOf (OfScript ran) = AreFirstOf ran.executed.opening ran.stop ran.calls
