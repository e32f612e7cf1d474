-- How a script was executed on an engine.
use Rattle.std.specs.Prelude.{◌≡◌, ◌<◌, ◌≤◌, ◌+◌, ◌^◌, ◌++◌, ℕ, suc, Bool, true, false, List, [], ◌∷◌, length, map, take, Option, Some, None, IsTrue}
use Rattle.map_model.specs.declared.call.Call.{Call}
use Rattle.map_model.specs.declared.call.Answered.{Answered}
use Rattle.map_model.specs.Journals.{Name}
use Rattle.map_model.specs.Outputs.{Reply}
use Rattle.map_model.specs.Pairings.{is_last, script_of}
use Rattle.call_parts.specs.core_state.Events.{Event}
use Rattle.call_parts.specs.core_state.Openings.{Opening}
use Rattle.lean_edge.specs.Outside.{Feed, Held}
use Rattle.lean_disk.specs.Area.{Leaves}
use Rattle.lean_disk.specs.Moments.{LeavesOnly}
use Rattle.lean_disk.specs.Story.{Crash, Story, Tells}
use Rattle.call_parts.specs.disk_slots.declared.master.Master.{Master}
use Rattle.call_parts.specs.core_calls.Deeds.{answered, asked, in_words}
use Rattle.call_parts.specs.core_calls.Durables.{durables, moments}
use Rattle.call_parts.specs.core_calls.Fronts.{Done, front, outcomes}
use Rattle.call_parts.specs.core_calls.Printed.{printed}
use Rattle.call_parts.specs.core_calls.Runs as told
use Rattle.call_parts.specs.disk_runs.Masters.{IsNoEarlier, IsOfRunBy}
use Rattle.call_parts.specs.disk_runs.Stands.{Known, Stands}
use Rattle.call_parts.specs.run_crashes.Lines.{NoneStopped, RunLeft}
use Rattle.call_parts.specs.engine_calls.Clauses.{Between}
use Rattle.call_parts.specs.engine_calls.Runs as runs
use Rattle.call_parts.specs.core_calls.Steps.{call_behind, hindered_in}
use Rattle.call_parts.specs.engine_trait.Limits.{limits}
use Rattle.call_parts.specs.Deeds.{Happens}
use Rattle.call_parts.specs.Memory.{IsOf, Memory}
use Rattle.call_parts.specs.Rooms.{IsRoomFor, most_of}
use Rattle.script_lang.specs.Lines.{Spells, line_of}
use Rattle.script_lang.specs.Reading.{Unread, Reading, LineIs, LineIsLong, AtEnd}
use Rattle.script_lang.specs.Replies.{Fits, reply_line}
use Rattle.script_lang.specs.declared.line.Line.{Line}
use Rattle.transcripts.specs.Told.{ask, asked_text, text_of, EachLineFits, EachReplyFits, LineFits}
use Rattle.script_run.specs.declared.stop.Stop.{Stop}
use Rattle.script_run.specs.declared.stop.Stop.TheVariants.{End, Refused, ReadFault, WriteFault, DiskFault, Damaged}

-- ## The engine's part

-- outcomes in the words of a transcript
abbrev pub calls_of : List Done → List Answered
calls_of xs = map in_words (outcomes xs)

-- Behind the outcomes xs calls were answered one by one, the newest first: each outcome is told by its events, a refusal has its cause and comes where it
-- has, the logs have the records of its events, behind a conflict comes the abort of its transaction, and behind a pair of a scan what follows it.
abbrev pub Executes : Opening → (group : ℕ) → List Done → Memory → List Done → Memory → Type 0
Executes g group xs m0 [] m = m ≡ m0
Executes g group xs m0 (x ∷ earlier) m = (before : Memory) × Executes g group xs m0 earlier before × Happens g group (earlier ++ xs) x before m

-- ## What was read

-- bytes that are no line of a script for so many sessions
pub record IsOutside (sessions : ℕ) (bytes : List ℕ) : Type 0 where
  pub none : (line : Line) → Spells sessions bytes line → ⊥
  pub value : line_of sessions bytes ≡ None

-- The line of this number is refused: it is none of the grammar, or too long, or one too many.
pub data IsRefusedLine (sessions number : ℕ) (start now : Feed) (reader : Unread) (seen : List ℕ) : Type 0 where
  NoLine : LineIs start now reader seen → IsOutside sessions reader.line → IsRefusedLine sessions number start now reader seen
  TooLong : LineIsLong start now reader seen → IsRefusedLine sessions number start now reader seen
  TooMany : LineIs start now reader seen → number ≡ 2 ^ 40 → IsRefusedLine sessions number start now reader seen

-- what a session asks
pub record Hand : Type 0 where
  pub session : ℕ
  pub call : Call

-- The call that was not answered is what the line asks that was read last, behind those of these outcomes; or it is due behind the newest of them: the abort of one
-- that met a conflict, or the next step of a scan whose pair was told.
pub data InHand (sessions : ℕ) (newer : List Done) (hand : Hand) (start now : Feed) (reader : Unread) (seen : List ℕ) : Type 0 where
  OfLine : LineFits sessions hand.session hand.call → Reading start now reader (seen ++ (ask hand.session hand.call ++ 10 ∷ [])) → InHand sessions newer hand start now reader seen
  OfAbort : (y : Done) → (earlier : List Done) → newer ≡ y ∷ earlier → y.outcome.session ≡ hand.session → hindered_in y.outcome.deed ≡ Some hand.call → Reading start now reader seen → InHand sessions newer hand start now reader seen
  OfScan : (y : Done) → (earlier : List Done) → newer ≡ y ∷ earlier → y.outcome.session ≡ hand.session → asked y.outcome.deed ≡ hand.call → is_last (answered y.outcome.deed) ≡ false → hindered_in y.outcome.deed ≡ None
      → Reading start now reader seen → InHand sessions newer hand start now reader seen

-- Where the reader stands when it stops, or goes on, before the line of this number: behind what asks the calls that were answered.
abbrev pub ReadsTo : Option Stop → (sessions : ℕ) → (newer : List Done) → Hand → (number : ℕ) → Feed → Feed → Unread → List ℕ → Type 0
ReadsTo None sessions newer hand number start now reader seen = Reading start now reader seen
ReadsTo (Some End) sessions newer hand number start now reader seen = Reading start now reader seen × AtEnd reader
ReadsTo (Some (Refused line)) sessions newer hand number start now reader seen = (line ≡ number) × IsRefusedLine sessions number start now reader seen
ReadsTo (Some ReadFault) sessions newer hand number start now reader seen = Reading start now reader seen
ReadsTo (Some WriteFault) sessions newer hand number start now reader seen = Reading start now reader seen
ReadsTo (Some DiskFault) sessions newer hand number start now reader seen = InHand sessions newer hand start now reader seen
ReadsTo (Some (Damaged place)) sessions newer hand number start now reader seen = InHand sessions newer hand start now reader seen

-- ## What was put

-- the replies up to one whose line failed, and what the sink holds of that line
pub record IsCutOff (all told : List Reply) (tail : List ℕ) : Type 0 where
  pub later : List Reply
  pub next : Reply
  pub split : later ++ next ∷ told ≡ all
  pub fits : Fits next
  pub count : ℕ
  pub prefix : tail ≡ take count (reply_line next)

pub record IsWhole (all told : List Reply) (tail : List ℕ) : Type 0 where
  pub told_is : told ≡ all
  pub none : tail ≡ []

-- what was put of all replies: all of them, unless the sink failed
abbrev pub PrintsTo : Option Stop → List Reply → List Reply → List ℕ → Type 0
PrintsTo None all told tail = IsWhole all told tail
PrintsTo (Some End) all told tail = IsWhole all told tail
PrintsTo (Some (Refused line)) all told tail = IsWhole all told tail
PrintsTo (Some ReadFault) all told tail = IsWhole all told tail
PrintsTo (Some WriteFault) all told tail = IsCutOff all told tail
PrintsTo (Some DiskFault) all told tail = IsWhole all told tail
PrintsTo (Some (Damaged place)) all told tail = IsWhole all told tail

-- Where it failed, that was at the lines of the newest outcome: those of every outcome before were put whole.
pub record IsLastCut (g : Opening) (xs newer : List Done) (told : List Reply) : Type 0 where
  pub last : Done
  pub earlier : List Done
  pub calls_are : newer ≡ last ∷ earlier
  -- the lines of those before
  pub firsts : List Reply
  pub lines : printed g (earlier ++ xs) ≡ firsts ++ printed g xs
  -- what was told of the last
  pub said : List Reply
  pub told_are : told ≡ said ++ firsts

-- what a sink holds then
pub record Holds (told : List Reply) (tail : List ℕ) (old new : Held) : Type 0 where
  pub same : new.tells ≡ old.tells
  pub bytes : IsTrue old.tells → new.bytes ≡ old.bytes ++ (text_of told ++ tail)

-- The disk: a note more for each reply, and nothing else but in the areas of the masters, of the pages and of so many logs.
pub record OthersStand (logs : ℕ) (told : List Reply) (old new : Story) : Type 0 where
  pub later : old.moment ≤ new.moment
  pub counts : new.counts ≡ old.counts
  pub tells : (a : ℕ) → new.tells a ≡ old.tells a
  pub areas : new.areas ≡ old.areas
  pub area : (a : ℕ) → suc logs < a → new.area a ≡ old.area a
  pub notes : IsTrue old.counts → old.notes + length told < 2 ^ 64 → new.notes ≡ old.notes + length told

-- ## The disk at every moment

-- A crash leaves the other areas as one might have left them at s, and so many notes more at most.
pub record StaysAside (logs count : ℕ) (s : Story) (c : Crash) : Type 0 where
  pub notes : c.notes ≤ s.notes + count
  pub writes : (a : ℕ) → suc logs < a → Tells s a → c.writes a ≡ (s.area a).writes
  pub leaves : (a : ℕ) → suc logs < a → Tells s a → Leaves (s.area a) (c.image a)

-- From one story to now by these calls and their lines, the last of them by these events: the run goes on, with this memory, under the same master or one
-- that was written by these.
pub record RunStands (g : Opening) (group : ℕ) (calls : List Done) (last : List Event) (s0 : Crash) (m : Master) (k : Known) (from now : Story) (memory : Memory) : Type 0 where
  pub known : Known
  pub memory_is : IsOf g memory known
  pub no_earlier : IsNoEarlier last k.master known.master
  pub runs : runs.Runs limits g group NoneStopped calls s0 m known from now

-- Lines of the last call are missing: the disk stands for all events, and a crash leaves what the lines that were out by then say.
pub record LinesMissing (g : Opening) (calls : List Done) (last : List Event) (s0 : Crash) (m : Master) (k : Known) (from now : Story) (memory : Memory) : Type 0 where
  pub any_moment : LeavesOnly from now (RunLeft g NoneStopped calls s0 m)
  pub known : Known
  pub stands : Stands g (front calls) s0 known now
  pub memory_is : IsOf g memory known
  pub no_earlier : IsNoEarlier last k.master known.master

-- behind all of these outcomes, events of the call in hand, which was not answered
abbrev pub StoppedIn : Opening → List Done → Hand → List Done → List Event → Type 0
StoppedIn g calls hand heard es = (heard ≡ calls) × IsRoomFor g heard hand.session (call_behind (outcomes heard) hand.call) es

-- One more was asked and not answered: a crash leaves what the lines say, behind the calls that were answered, or in this one. There it fell behind
-- some of the events by which it moved pages, made room for its key, went on with a walk, put changes back or flushed logs for a sync, or behind the first events of
-- one that would be answered so.
pub data CallMissing (g : Opening) (group : ℕ) (calls : List Done) (hand : Hand) (s0 : Crash) (m : Master) (from now : Story) : Type 0 where
  Nothing : LeavesOnly from now (RunLeft g (StoppedIn g calls hand) calls s0 m) → CallMissing g group calls hand s0 m from now
  Part : (x : Done) → asked x.outcome.deed ≡ hand.call → x.outcome.session ≡ hand.session → told.Tells limits g group calls x → length x.events ≤ most_of hand.call → LeavesOnly from now (RunLeft g NoneStopped (x ∷ calls) s0 m) → CallMissing g group calls hand s0 m from now

-- By why the script stopped there, or goes on. On a disk that stood for the run no page is damaged.
abbrev pub DiskTo : (stop : Option Stop) → Hand → Opening → (group : ℕ) → List Done → (last : List Event) → Crash → Master → Known → (from now : Story) → Memory → Type 0
DiskTo None hand g group calls last s0 m k from now memory = RunStands g group calls last s0 m k from now memory
DiskTo (Some End) hand g group calls last s0 m k from now memory = RunStands g group calls last s0 m k from now memory
DiskTo (Some (Refused line)) hand g group calls last s0 m k from now memory = RunStands g group calls last s0 m k from now memory
DiskTo (Some ReadFault) hand g group calls last s0 m k from now memory = RunStands g group calls last s0 m k from now memory
DiskTo (Some WriteFault) hand g group calls last s0 m k from now memory = LinesMissing g calls last s0 m k from now memory
DiskTo (Some DiskFault) hand g group calls last s0 m k from now memory = CallMissing g group calls hand s0 m from now
DiskTo (Some (Damaged place)) hand g group calls last s0 m k from now memory = ⊥

-- ## A run

-- the engine works behind it
abbrev pub works_on : Stop → Bool
works_on End = true
works_on (Refused line) = true
works_on ReadFault = true
works_on WriteFault = true
works_on DiskFault = false
works_on (Damaged place) = false

abbrev pub works_behind : Option Stop → Bool
works_behind None = true
works_behind (Some stop) = works_on stop

-- A run of lines for so many sessions, behind the outcomes xs, with this memory of the disk; so many lines had been read before, and so many bytes handed
-- out. It stopped for this reason, or goes on.
pub record ScriptRuns (stop : Option Stop) (sessions group : ℕ) (g : Opening) (xs : List Done) (before : ℕ) (start : Feed) (seen : List ℕ) (m0 m1 : Memory) (reader : Unread) (feed : Feed) (held0 held1 : Held) (old new : Story) : Type 0 where
  -- the outcomes of the calls that were answered, the newest first, and the memory that they leave
  pub newer : List Done
  pub fits : EachLineFits sessions (script_of (calls_of newer))
  pub few : before + length (script_of (calls_of newer)) < 2 ^ 40
  pub memory : Memory
  pub executes : Executes g group xs m0 newer memory
  -- the engine has it, where it works
  pub memory_is : works_behind stop ≡ true → m1 ≡ memory
  -- the call that was not answered, where it does not
  pub hand : Hand
  -- what asks the calls was handed out
  pub reads : ReadsTo stop sessions newer hand (suc (before + length (script_of (calls_of newer)))) start feed reader (seen ++ asked_text (script_of (calls_of newer)))
  -- these lines are due behind their events, and were put
  pub replies : List Reply
  pub lines : printed g (newer ++ xs) ≡ replies ++ printed g xs
  pub told : List Reply
  pub tail : List ℕ
  pub reply_fits : EachReplyFits told
  pub prints : PrintsTo stop replies told tail
  pub cut : stop ≡ Some WriteFault → IsLastCut g xs newer told
  pub holds : Holds told tail held0 held1
  -- the disk
  pub others : OthersStand g.workers told old new
  -- at every moment, where it stood for xs in a run that began as s0, on a disk whose master was m, and counts no more notes than it can
  pub disk : (s0 : Crash) (m : Master) (k : Known) → Between limits g group xs s0 k old → IsOfRunBy (front xs) m k.master → IsOf g m0 k → old.notes + length told < 2 ^ 64
      → LeavesOnly old new (StaysAside g.workers (length told) old) × DiskTo stop hand g group (newer ++ xs) (front newer) s0 m k old new memory

-- It stands in this run, where these commits were told durable; or it works no longer, and these are the events that it had made by then.
abbrev pub Standing : (In : List Done → List Name → Type 0) → List Event → List Done → Option (List Name) → Type 0
Standing In events calls (Some names) = In calls names
Standing In events calls None = events ≡ front calls

-- how the engine stands then: all lines that are due were told; unless the sink failed, behind the lines of some, or it works no longer
abbrev pub EngineStands : Stop → (Option (List Name) → Type 0) → Opening → List Done → Type 0
EngineStands End Stands g calls = Stands (Some (durables g (moments calls)))
EngineStands (Refused line) Stands g calls = Stands (Some (durables g (moments calls)))
EngineStands ReadFault Stands g calls = Stands (Some (durables g (moments calls)))
EngineStands WriteFault Stands g calls = (names : List Name) × Stands (Some names)
EngineStands DiskFault Stands g calls = Stands None
EngineStands (Damaged place) Stands g calls = Stands None
