-- Results of calls as answers, and which refusals of a call that changes its key come first.
use Rattle.std.specs.Prelude.{ℕ, Option, Result, Ok, Err}
use Rattle.map_model.specs.declared.call.Answer.{Answer}
use Rattle.map_model.specs.declared.call.Answer.TheVariants as answer
use Rattle.map_model.specs.declared.call.Refusal.TheVariants as refusal
use Rattle.paged_desks.specs.engine_trait.Serving.{unserved_answer}
use Rattle.paged_desks.specs.engine_trait.declared.unserved.Unanswered.{Unanswered}
use Rattle.paged_desks.specs.engine_trait.declared.unserved.Unanswered.TheVariants as unanswered
use Rattle.paged_desks.specs.engine_trait.declared.unserved.Unserved.{Unserved}
use Rattle.paged_desks.specs.engine_trait.declared.unserved.Unserved.TheVariants as unserved

abbrev pub get_answer : Result (Option ℕ) Unserved → Result Answer Unanswered
get_answer (Ok value) = Ok (answer.Value value)
get_answer (Err why) = unserved_answer why

abbrev pub del_answer : Result (Option ℕ) Unserved → Result Answer Unanswered
del_answer (Ok was) = Ok (answer.Was was)
del_answer (Err why) = unserved_answer why

abbrev pub put_answer : Result (Option ℕ) Unserved → Result Answer Unanswered
put_answer (Ok was) = Ok (answer.Was was)
put_answer (Err why) = unserved_answer why

-- a call that changes its key was not served by a test that comes before all that is done; one of its clock may come behind the coming of pages
abbrev pub IsEarly : Unserved → Type 0
IsEarly (unserved.Unanswered unanswered.Broken) = Unit {0}
IsEarly (unserved.Refused refusal.NoTransaction) = Unit {0}
IsEarly (unserved.Refused refusal.TooLong) = Unit {0}
IsEarly (unserved.Refused (refusal.LogFull used limit)) = Unit {0}
IsEarly _ = ⊥
