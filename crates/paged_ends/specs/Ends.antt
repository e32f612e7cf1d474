-- A begin, a commit and a sync: where a begin may come, and results as answers.
use Rattle.paged_desks.specs.engine_trait.Serving.{unserved_answer}
use Rattle.paged_desks.specs.engine_trait.declared.unserved.Unanswered.{Unanswered}
use Rattle.std.specs.Prelude.{◌≡◌, ℕ, Bool, List, Result, Ok, Err}
use Rattle.map_model.specs.declared.call.Answer.{Answer}
use Rattle.map_model.specs.declared.call.Answer.TheVariants as answer
use Rattle.map_model.specs.declared.call.Call.TheVariants as call
use Rattle.paged_desks.specs.engine_trait.declared.unserved.Unserved.{Unserved}
use Rattle.paged_desks.specs.core_state.Openings.{Opening}
use Rattle.paged_desks.specs.core_calls.Fronts.{Done, outcomes}
use Rattle.paged_desks.specs.engine_calls.Clauses.{IsNewLine}
use Rattle.paged_desks.specs.engine_trait.Rooms.{needs_sync}
use Rattle.row_ends.specs.declared.ending.Ended.{Ended}
use Rattle.paged_desks.specs.session_desks.Parts.{logs}
use Rattle.paged_desks.specs.declared.machine.PagedMachine.{PagedMachine}

-- a begin on a new line, where so many ends of the session wait that a sync is due, or not
abbrev pub OnBegin : (own : ℕ) → (is_long : Bool) → Opening → List Done → Type 0
OnBegin own is_long g xs = IsNewLine (outcomes xs) × (needs_sync g xs own call.Begin ≡ is_long)

-- each log is flushed as far as it was
abbrev pub KeepsFlushed : {D : Type 0} → (m n : PagedMachine D) → Type 0
KeepsFlushed m n = (w : ℕ) → (logs n.machine w).flushed ≡ (logs m.machine w).flushed

-- ## Answers

abbrev pub begin_answer : Result ℕ Unserved → Result Answer Unanswered
begin_answer (Ok number) = Ok (answer.Begun number)
begin_answer (Err why) = unserved_answer why

abbrev pub commit_answer : Result Ended Unserved → Result Answer Unanswered
commit_answer (Ok ended) = Ok (answer.Committed ended.number ended.at)
commit_answer (Err why) = unserved_answer why

abbrev pub sync_answer : Result ℕ Unserved → Result Answer Unanswered
sync_answer (Ok at) = Ok (answer.Synced at)
sync_answer (Err why) = unserved_answer why
