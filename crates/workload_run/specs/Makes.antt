-- How the lines that are made of a number were executed on an engine.
use Rattle.std.specs.Prelude.{◌≡◌, ◌++◌, ℕ, Bool, true, false, List, [], Option, Some, None, Result, Ok, Err}
use Rattle.call_parts.specs.core_state.Openings.{Opening}
use Rattle.call_parts.specs.core_calls.Fronts.{Done}
use Rattle.call_parts.specs.Memory.{Memory}
use Rattle.lean_disk.specs.Story.{Story}
use Rattle.lean_edge.specs.Outside.{Feed, Held}
use Rattle.map_model.specs.declared.call.Answered.{Answered}
use Rattle.map_model.specs.declared.call.Call.{Call}
use Rattle.map_model.specs.Journals.{Name}
use Rattle.script_lang.specs.Reading.{Unread}
use Rattle.script_run.specs.Runs.{EngineStands, ScriptRuns, calls_of}
use Rattle.script_run.specs.declared.stop.Stop.{Stop}
use Rattle.script_run.specs.declared.stop.Stop.TheVariants.{End}
use Rattle.transcripts.specs.Told.{asked_text}
use Rattle.workload_run.specs.Counts.{pairs_in, refused_in, sum_in}
use Rattle.workload_run.specs.Plans.{IsMade, IsWalked}
use Rattle.workload_run.specs.declared.run.Made.{Made}

-- why it stopped, if it did
abbrev pub stop_in : Result Made Stop → Option Stop
stop_in (Ok made) = None
stop_in (Err stop) = Some stop

-- in a script's words: all lines were executed, or it stopped there
abbrev pub ending : Option Stop → Stop
ending None = End
ending (Some stop) = stop

-- a source that tells and has this left, a sink that tells and holds this, and a reader that has handed out all that it took
abbrev pub feed_of : List ℕ → Feed
feed_of bytes = record { tells = true; left = bytes }

abbrev pub held_of : List ℕ → Held
held_of bytes = record { tells = true; bytes = bytes }

-- one that tells nothing
abbrev pub quiet : Held
quiet = record { tells = false; bytes = [] }

abbrev pub reader_of : (ended : Bool) → Unread
reader_of ended = record { line = []; bytes = []; ended = ended }

-- the counts of these answers, the newest first
pub record IsCount (made : Made) (answered : List Answered) : Type 0 where
  pub refused : made.refused ≡ refused_in answered
  pub pairs : made.pairs ≡ pairs_in answered
  pub sum : made.sum ≡ sum_in answered

abbrev pub CountsIn : Result Made Stop → List Answered → Type 0
CountsIn (Ok made) answered = IsCount made answered
CountsIn (Err stop) answered = Unit {0}

-- It ran as a script with the text of these lines, which a source tells, with replies that a sink told of would hold: from an opening on, on an engine with this
-- memory of the disk, so far as the lines were executed. They are those that the number makes.
pub record MakeRuns (number count : ℕ) (made : Result Made Stop) (Stands : List Done → Option (List Name) → Type 0) (sessions group : ℕ) (g : Opening) (m0 m1 : Memory) (old new : Story) : Type 0 where
  pub script : List (ℕ × Call)
  pub is : IsMade number count sessions script
  pub left : List ℕ
  pub ended : Bool
  pub output : List ℕ
  pub ran : ScriptRuns (Some (ending (stop_in made))) sessions group g [] 0 (feed_of (asked_text script)) [] m0 m1 (reader_of ended) (feed_of left) (held_of []) (held_of output) old new
  pub stands : EngineStands (ending (stop_in made)) (Stands (ran.newer ++ [])) g (ran.newer ++ [])
  pub walked : stop_in made ≡ None → IsWalked script (calls_of ran.newer)
  pub counts : CountsIn made (calls_of ran.newer)
