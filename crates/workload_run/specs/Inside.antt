-- What private functions say: what is counted so far, and how far the lines were executed.
use Rattle.std.specs.Prelude.{◌≡◌, ◌≤◌, ◌<◌, ◌+◌, ◌*◌, ◌^◌, ◌++◌, ℕ, Bool, false, List, [], ◌∷◌, length, Option, Some, None}
use Rattle.call_parts.specs.core_state.Openings.{Opening}
use Rattle.call_parts.specs.core_calls.Fronts.{Done}
use Rattle.call_parts.specs.core_calls.LineCounts.{EveryLineCount}
use Rattle.call_parts.specs.Memory.{Memory}
use Rattle.lean_disk.specs.Story.{Story}
use Rattle.map_model.specs.declared.call.Answer.{Answer}
use Rattle.map_model.specs.declared.call.Answered.{Answered}
use Rattle.map_model.specs.declared.call.Call.{Call}
use Rattle.map_model.specs.declared.call.Call.TheVariants.{Begin, Sync}
use Rattle.map_model.specs.Journals.{Name}
use Rattle.map_model.specs.Pairings.{script_of}
use Rattle.script_lang.specs.declared.line.Line.{Line}
use Rattle.script_run.specs.Inside.{Laws as RunLaws, Stepped}
use Rattle.script_run.specs.Runs.{EngineStands, ScriptRuns, calls_of}
use Rattle.script_run.specs.declared.stop.Stop.{Stop}
use Rattle.transcripts.specs.Told.{asked_text}
use Rattle.workload.specs.Laws.{EveryLength, EveryLine}
use Rattle.workload.specs.Lines.{lines_of}
use Rattle.workload_run.specs.Counts.{begun_in, goes_on, goes_on_in, pairs_by, pairs_in, refused_in, sum_by, sum_in}
use Rattle.workload_run.specs.Makes.{ending, feed_of, quiet, reader_of}
use Rattle.workload_run.specs.Plans.{EachFollows, EachScansOn, IsMade, IsWalked, asked_of}
use Rattle.workload_run.specs.declared.plan.Stage.{Stage}
use Rattle.workload_run.specs.declared.plan.Stage.TheVariants as stage
use Rattle.workload_run.specs.declared.tally.Tally.{Tally}

-- the laws of other crates that it stands on
pub record Laws : Type 0 where
  pub run : RunLaws
  pub counts : EveryLineCount
  pub lines : EveryLine
  pub lengths : EveryLength

-- ## What is counted

-- what is counted of these answers, the newest first, as far as a number fits its type
pub record IsTally (t : Tally) (answered : List Answered) : Type 0 where
  pub begun : t.begun ≡ begun_in answered
  pub refused : refused_in answered < 2 ^ 64 → t.refused ≡ refused_in answered
  pub pairs : pairs_in answered < 2 ^ 64 → t.pairs ≡ pairs_in answered
  pub sum : sum_in answered < 2 ^ 128 → t.sum ≡ sum_in answered
  pub low : sum_in answered ≤ pairs_in answered * 2 ^ 64
  pub on : t.on ≡ goes_on_in answered

-- an engine stands in a run, whose answers are counted
abbrev pub Both : (List Done → List Name → Type 0) → Tally → List Done → List Name → Type 0
Both Stands t xs names = Stands xs names × IsTally t (calls_of xs)

-- a number more, as far as it fits
pub record Counts (a : Answer) (old new : Tally) : Type 0 where
  pub begun : new.begun ≡ old.begun
  pub refused : new.refused ≡ old.refused
  pub pairs : old.pairs + pairs_by a < 2 ^ 64 → new.pairs ≡ old.pairs + pairs_by a
  pub sum : old.sum + sum_by a < 2 ^ 128 → new.sum ≡ old.sum + sum_by a
  pub low : sum_by a ≤ pairs_by a * 2 ^ 64
  pub on : new.on ≡ goes_on a

-- ## How far

-- these lines were taken, and these are left of the workload's
abbrev pub IsAt : (number count sessions : ℕ) → (done : List (ℕ × Call)) → (left : List Line) → Stage → Type 0
IsAt number count sessions done left stage.Sync = (earlier : List Line) × (earlier ++ left ≡ lines_of number count sessions) × (done ≡ asked_of earlier)
IsAt number count sessions done left stage.Begin = (left ≡ []) × (done ≡ asked_of (lines_of number count sessions) ++ (0, Sync) ∷ [])
IsAt number count sessions done left stage.Walk = (left ≡ []) × (walk : List (ℕ × Call)) × EachScansOn walk × (done ≡ asked_of (lines_of number count sessions) ++ (0, Sync) ∷ (1, Begin) ∷ walk)

-- These lines were taken of a script, of which these others are left; all of them were executed where it goes on.
pub record Goes (Stands : List Done → Option (List Name) → Type 0) (done others : List (ℕ × Call)) (stop : Option Stop) (sessions group : ℕ) (g : Opening) (m0 m1 : Memory) (old new : Story) : Type 0 where
  pub step : Stepped Stands (length done) stop sessions group g [] 0 (feed_of (asked_text (done ++ others))) [] m0 m1 (reader_of false) (feed_of (asked_text others)) quiet quiet old new
  pub asks : stop ≡ None → script_of (calls_of step.run.newer) ≡ done
  pub follows : stop ≡ None → EachFollows (calls_of step.run.newer)

-- All were executed, or it stopped there.
pub record MadeRuns (number count : ℕ) (stop : Option Stop) (Stands : List Done → Option (List Name) → Type 0) (sessions group : ℕ) (g : Opening) (m0 m1 : Memory) (old new : Story) : Type 0 where
  pub script : List (ℕ × Call)
  pub is : IsMade number count sessions script
  pub left : List ℕ
  pub ended : Bool
  pub ran : ScriptRuns (Some (ending stop)) sessions group g [] 0 (feed_of (asked_text script)) [] m0 m1 (reader_of ended) (feed_of left) quiet quiet old new
  pub stands : EngineStands (ending stop) (Stands (ran.newer ++ [])) g (ran.newer ++ [])
  pub walked : stop ≡ None → IsWalked script (calls_of ran.newer)
