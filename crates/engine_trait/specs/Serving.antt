-- A call that was not served: what it is answered, and the faults by name.
use Rattle.std.specs.Prelude.{ℕ, Option, Some, None, Result, Ok, Err}
use Rattle.map_model.specs.declared.call.Answer.{Answer}
use Rattle.map_model.specs.declared.call.Answer.TheVariants as answer
use Rattle.map_model.specs.declared.call.Refusal.{Refusal}
use Rattle.engine_trait.specs.Calls.{MayCome}
use Rattle.engine_trait.specs.declared.unserved.Unanswered.{Unanswered}
use Rattle.engine_trait.specs.declared.unserved.Unanswered.TheVariants as unanswered
use Rattle.engine_trait.specs.declared.unserved.Unserved.{Unserved}
use Rattle.engine_trait.specs.declared.unserved.Unserved.TheVariants as unserved

-- the engine worked no longer
abbrev pub broken : Unserved
broken = unserved.Unanswered unanswered.Broken

-- the disk failed
abbrev pub disk_fault : Unserved
disk_fault = unserved.Unanswered unanswered.DiskFault

-- the page at this place is damaged
abbrev pub damaged : (place : ℕ) → Unserved
damaged place = unserved.Unanswered (unanswered.Damaged place)

-- a refusal is an answer
abbrev pub unserved_answer : Unserved → Result Answer Unanswered
unserved_answer (unserved.Refused why) = Ok (answer.Refused why)
unserved_answer (unserved.Unanswered why) = Err why

-- a refusal that may come where there are so many sessions
abbrev pub MayRefuse : (sessions : ℕ) → Unserved → Type 0
MayRefuse sessions (unserved.Refused why) = MayCome sessions why
MayRefuse sessions (unserved.Unanswered why) = ⊥

-- a call that a test refuses was not served
abbrev pub refused_by : Option Refusal → Option Unserved
refused_by None = None
refused_by (Some why) = Some (unserved.Refused why)
