-- What private functions say: what a line asks, and what was put of a call; and a run of one line, wherever it comes from.
use Rattle.std.specs.Prelude.{◌≡◌, ◌⊎◌, ◌<◌, ◌≤◌, ◌+◌, ◌^◌, ◌++◌, ℕ, Bool, true, false, List, [], ◌∷◌, length, Option, Some, None, Result, Ok, Err, IsTrue}
use Rattle.map_model.specs.declared.call.Answer.{Answer}
use Rattle.map_model.specs.declared.call.Answer.TheVariants as answer
use Rattle.map_model.specs.declared.call.Call.{Call}
use Rattle.map_model.specs.Journals.{Name}
use Rattle.map_model.specs.Outputs.{Reply}
use Rattle.map_model.specs.Pairings.{is_last, is_open_line, script_of}
use Rattle.call_parts.specs.core_state.Openings.{Opening}
use Rattle.lean_edge.specs.Outside.{Feed, Held}
use Rattle.lean_disk.specs.Area.{Leaves}
use Rattle.lean_disk.specs.Moments.{LeavesOnly}
use Rattle.lean_disk.specs.Story.{Crash, Story, Tells}
use Rattle.call_parts.specs.disk_slots.declared.master.Master.{Master}
use Rattle.call_parts.specs.disk_image.Laws.{EveryAgreement, EverySealed}
use Rattle.call_parts.specs.worker_log.Laws.{EveryKept, EveryPrefix}
use Rattle.call_parts.specs.core_calls.Crashes.{EveryRunCrash}
use Rattle.call_parts.specs.core_calls.Deeds.{answered, asked}
use Rattle.call_parts.specs.core_calls.Durables.{durables, moments}
use Rattle.call_parts.specs.core_calls.Fronts.{Done, front}
use Rattle.call_parts.specs.core_calls.Printed.{durable_lines, printed}
use Rattle.call_parts.specs.core_calls.Steps.{hindered_in}
use Rattle.call_parts.specs.core_disk.Shows.{EveryShown}
use Rattle.call_parts.specs.disk_runs.Masters.{IsOfRunBy}
use Rattle.call_parts.specs.disk_runs.Stands.{Known}
use Rattle.call_parts.specs.engine_calls.Clauses.{Between}
use Rattle.call_parts.specs.engine_trait.Limits.{limits}
use Rattle.call_parts.specs.Memory.{IsOf, Memory}
use Rattle.script_lang.specs.Reading.{Unread, Reading}
use Rattle.script_lang.specs.declared.line.Line.{Line}
use Rattle.transcripts.specs.Told.{ask, EachReplyFits, LineFits}
use Rattle.script_run.specs.Runs.{DiskTo, EngineStands, Executes, Hand, Holds, IsLastCut, IsOutside, OthersStand, PrintsTo, ReadsTo, ScriptRuns, StaysAside, calls_of, works_behind}
use Rattle.script_run.specs.declared.stop.Stop.{Stop}
use Rattle.script_run.specs.declared.stop.Stop.TheVariants.{End, Refused, ReadFault, WriteFault, DiskFault, Damaged}

-- the laws of other crates that a run stands on
pub record Laws : Type 0 where
  pub shown : EveryShown
  pub crashes : EveryRunCrash
  pub agrees : EveryAgreement
  pub keeps : EveryKept
  pub prefixes : EveryPrefix
  pub seals : EverySealed

-- ## What a line asks

-- the line of this number asks the call
pub record IsAsk (sessions : ℕ) (bytes : List ℕ) (number : ℕ) (line : Line) : Type 0 where
  pub spelled : bytes ≡ ask line.session line.call
  pub fits : LineFits sessions line.session line.call
  pub few : number < 2 ^ 40

-- it asks none
pub record IsNoAsk (sessions : ℕ) (bytes : List ℕ) (number : ℕ) (stop : Stop) : Type 0 where
  pub stop_is : stop ≡ Refused number
  pub cause : IsOutside sessions bytes ⊎ (number ≡ 2 ^ 40)

-- a reader stops for this
abbrev pub IsOfReading : Stop → Type 0
IsOfReading End = Unit {0}
IsOfReading (Refused line) = Unit {0}
IsOfReading ReadFault = Unit {0}
IsOfReading WriteFault = ⊥
IsOfReading DiskFault = ⊥
IsOfReading (Damaged place) = ⊥

-- a call stops for this
abbrev pub IsOfRunning : Stop → Type 0
IsOfRunning End = ⊥
IsOfRunning (Refused line) = ⊥
IsOfRunning ReadFault = ⊥
IsOfRunning WriteFault = Unit {0}
IsOfRunning DiskFault = Unit {0}
IsOfRunning (Damaged place) = Unit {0}

-- and may go on
abbrev pub MayRun : Option Stop → Type 0
MayRun None = Unit {0}
MayRun (Some stop) = IsOfRunning stop

-- what the next line asks was handed out, or why it asks nothing
abbrev pub AskIs : (sessions : ℕ) → Result Line Stop → ℕ → Feed → Feed → Unread → List ℕ → Type 0
AskIs sessions (Ok line) number start now reader seen = Reading start now reader (seen ++ (ask line.session line.call ++ 10 ∷ []))
AskIs sessions (Err stop) number start now reader seen = (newer : List Done) → (hand : Hand) → ReadsTo (Some stop) sessions newer hand number start now reader seen

-- ## What was put

-- lines were put: a note more for each, and nothing else
pub record OnlyNotes (told : List Reply) (old new : Story) : Type 0 where
  pub later : old.moment ≤ new.moment
  pub counts : new.counts ≡ old.counts
  pub tells : (a : ℕ) → new.tells a ≡ old.tells a
  pub areas : new.areas ≡ old.areas
  pub area : (a : ℕ) → new.area a ≡ old.area a
  pub notes : IsTrue old.counts → old.notes + length told < 2 ^ 64 → new.notes ≡ old.notes + length told

-- a crash meanwhile
pub record PutLeaves (told : List Reply) (old : Story) (c : Crash) : Type 0 where
  pub first : List Reply
  pub later : List Reply
  pub split : later ++ first ≡ told
  pub notes : IsTrue old.counts → old.notes + length first < 2 ^ 64 → c.notes ≡ old.notes + length first
  pub writes : (a : ℕ) → Tells old a → c.writes a ≡ (old.area a).writes
  pub leaves : (a : ℕ) → Tells old a → Leaves (old.area a) (c.image a)

-- the sink alone stops this
abbrev pub IsOfPutting : Option Stop → Type 0
IsOfPutting None = Unit {0}
IsOfPutting (Some stop) = stop ≡ WriteFault

-- These replies were put, or some of them.
pub record Says (all : List Reply) (stop : Option Stop) (held0 held1 : Held) (old new : Story) : Type 0 where
  pub of_putting : IsOfPutting stop
  pub told : List Reply
  pub tail : List ℕ
  pub fit : EachReplyFits told
  pub prints : PrintsTo stop all told tail
  pub holds : Holds told tail held0 held1
  pub notes : OnlyNotes told old new
  pub any_moment : LeavesOnly old new (PutLeaves told old)

-- the engine has told these durable, or some of them
abbrev pub HasTold : Option Stop → (List Name → Type 0) → List Name → Type 0
HasTold None Stands names = Stands names
HasTold (Some stop) Stands names = (some : List Name) × Stands some

-- Of the durable lines that are due, some were put so far.
pub record Taking (due : List Name → List Name) (Stands : List Name → Type 0) (names : List Name) (held0 held1 : Held) (old new : Story) : Type 0 where
  pub taken : List Name
  pub is : due names ≡ due (taken ++ names) ++ taken
  pub says : Says (durable_lines taken) None held0 held1 old new
  pub stands : Stands (taken ++ names)

-- ## Calls

-- the engine alone stops this
abbrev pub IsOfEngine : Stop → Type 0
IsOfEngine End = ⊥
IsOfEngine (Refused line) = ⊥
IsOfEngine ReadFault = ⊥
IsOfEngine WriteFault = ⊥
IsOfEngine DiskFault = Unit {0}
IsOfEngine (Damaged place) = Unit {0}

-- why it did not answer: where its disk failed this; where a page of it was damaged this too, and it stood for no run
abbrev pub StopsFor : Stop → (fails never : Type 0) → Type 0
StopsFor End fails never = ⊥
StopsFor (Refused line) fails never = ⊥
StopsFor ReadFault fails never = ⊥
StopsFor WriteFault fails never = ⊥
StopsFor DiskFault fails never = fails
StopsFor (Damaged place) fails never = fails × never

-- ## Calls behind others

-- What was done for these outcomes, as ScriptRuns says it, but for what was read.
pub record CallsRun (newer : List Done) (stop : Option Stop) (hand : Hand) (group : ℕ) (g : Opening) (xs : List Done) (m0 m1 : Memory) (held0 held1 : Held) (old new : Story) : Type 0 where
  pub memory : Memory
  pub executes : Executes g group xs m0 newer memory
  pub memory_is : works_behind stop ≡ true → m1 ≡ memory
  pub replies : List Reply
  pub lines : printed g (newer ++ xs) ≡ replies ++ printed g xs
  pub told : List Reply
  pub tail : List ℕ
  pub reply_fits : EachReplyFits told
  pub prints : PrintsTo stop replies told tail
  pub cut : stop ≡ Some WriteFault → IsLastCut g xs newer told
  pub holds : Holds told tail held0 held1
  pub others : OthersStand g.workers told old new
  pub disk : (s0 : Crash) (m : Master) (k : Known) → Between limits g group xs s0 k old → IsOfRunBy (front xs) m k.master → IsOf g m0 k → old.notes + length told < 2 ^ 64
      → LeavesOnly old new (StaysAside g.workers (length told) old) × DiskTo stop hand g group (newer ++ xs) (front newer) s0 m k old new memory

-- how the engine stands, where it goes on or stops
abbrev pub EngineGoes : Option Stop → (Option (List Name) → Type 0) → Opening → List Done → Type 0
EngineGoes None Stands g calls = Stands (Some (durables g (moments calls)))
EngineGoes (Some stop) Stands g calls = EngineStands stop Stands g calls

-- ## The further answers to a line

-- a pair of a scan
abbrev pub is_pair : Answer → Bool
is_pair (answer.Pair key value) = true
is_pair _ = false

-- the newest of these is of this session, and has this answer
abbrev pub IsNewest : (session : ℕ) → Answer → List Done → Type 0
IsNewest session a [] = ⊥
IsNewest session a (y ∷ earlier) = (y.outcome.session ≡ session) × (answered y.outcome.deed ≡ a)

-- This is due to an outcome: the abort of its transaction, if it met a conflict, or the next step of its scan, if it is a pair.
pub data IsDueTo (y : Done) (hand : Hand) : Type 0 where
  Abort : y.outcome.session ≡ hand.session → hindered_in y.outcome.deed ≡ Some hand.call → IsDueTo y hand
  Step : y.outcome.session ≡ hand.session → asked y.outcome.deed ≡ hand.call → is_last (answered y.outcome.deed) ≡ false → hindered_in y.outcome.deed ≡ None → IsDueTo y hand

-- and to the newest of these
abbrev pub IsDueBehind : List Done → Hand → Type 0
IsDueBehind [] hand = ⊥
IsDueBehind (y ∷ earlier) hand = IsDueTo y hand

-- each of the newer outcomes goes on with the line of the one before
abbrev pub GoOn : (newer xs : List Done) → Type 0
GoOn [] xs = Unit {0}
GoOn (x ∷ newer) xs = GoOn newer xs × (is_open_line (calls_of (newer ++ xs)) ≡ true)

-- Further answers to the line of the newest of these outcomes, which were put; or it stopped there.
pub record AnswersRun (Stands : List Done → Option (List Name) → Type 0) (stop : Option Stop) (group : ℕ) (g : Opening) (xs : List Done) (m0 m1 : Memory) (held0 held1 : Held) (old new : Story) : Type 0 where
  pub newer : List Done
  pub go_on : GoOn newer xs
  -- the call that was not answered, if one was not
  pub hand : Hand
  pub due : works_behind stop ≡ false → IsDueBehind (newer ++ xs) hand
  pub calls : CallsRun newer stop hand group g xs m0 m1 held0 held1 old new
  pub stands : EngineGoes stop (Stands (newer ++ xs)) g (newer ++ xs)

-- they were put up to this one
pub record AnsweredTo (Stands : List Done → Option (List Name) → Type 0) (session : ℕ) (a : Answer) (group : ℕ) (g : Opening) (xs : List Done) (m0 m1 : Memory) (held0 held1 : Held) (old new : Story) : Type 0 where
  pub run : AnswersRun Stands None group g xs m0 m1 held0 held1 old new
  pub newest : IsNewest session a (run.newer ++ xs)

-- all of them were put; or it stopped there
pub record LineRuns (Stands : List Done → Option (List Name) → Type 0) (stop : Option Stop) (group : ℕ) (g : Opening) (xs : List Done) (m0 m1 : Memory) (held0 held1 : Held) (old new : Story) : Type 0 where
  pub run : AnswersRun Stands stop group g xs m0 m1 held0 held1 old new
  pub closed : stop ≡ None → is_open_line (calls_of (run.newer ++ xs)) ≡ false

-- A run of lines, which are so many where it goes on.
pub record Stepped (Stands : List Done → Option (List Name) → Type 0) (count : ℕ) (stop : Option Stop) (sessions group : ℕ) (g : Opening) (xs : List Done) (before : ℕ) (start : Feed) (seen : List ℕ) (m0 m1 : Memory) (reader : Unread) (feed : Feed) (held0 held1 : Held) (old new : Story) : Type 0 where
  pub run : ScriptRuns stop sessions group g xs before start seen m0 m1 reader feed held0 held1 old new
  pub stands : EngineGoes stop (Stands (run.newer ++ xs)) g (run.newer ++ xs)
  pub count_is : stop ≡ None → length (script_of (calls_of run.newer)) ≡ count
  pub closed : stop ≡ None → is_open_line (calls_of run.newer) ≡ false

-- a run of this one line, which is all that was executed where it goes on
pub record LineSteps (Stands : List Done → Option (List Name) → Type 0) (session : ℕ) (call : Call) (stop : Option Stop) (sessions group : ℕ) (g : Opening) (xs : List Done) (before : ℕ) (start : Feed) (seen : List ℕ) (m0 m1 : Memory) (reader : Unread) (feed : Feed) (held0 held1 : Held) (old new : Story) : Type 0 where
  pub step : Stepped Stands 1 stop sessions group g xs before start seen m0 m1 reader feed held0 held1 old new
  pub asks : stop ≡ None → script_of (calls_of step.run.newer) ≡ (session, call) ∷ []
