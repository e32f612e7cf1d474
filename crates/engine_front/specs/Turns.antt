-- What may be asked of an engine next, and what a call that is due says.
use Rattle.std.specs.Prelude.{◌≡◌, ℕ, Bool, true, false, List, [], ◌∷◌, ◌++◌, Option, Some, None}
use Rattle.map_model.specs.Journals.{Name}
use Rattle.map_model.specs.declared.call.Answer.{Answer}
use Rattle.map_model.specs.declared.call.Answer.TheVariants as answer
use Rattle.map_model.specs.declared.call.Call.{Call}
use Rattle.map_model.specs.declared.call.Call.TheVariants as call
use Rattle.map_model.specs.Pairings.{is_last}
use Rattle.call_parts.specs.core_state.Openings.{Opening}
use Rattle.call_parts.specs.core_state.Steps.{state_after}
use Rattle.call_parts.specs.core_calls.Deeds.{answered, asked}
use Rattle.call_parts.specs.core_calls.Durables.{due}
use Rattle.call_parts.specs.core_calls.Fronts.{Done, front, outcomes}
use Rattle.call_parts.specs.core_calls.Steps.{hindered_in, is_conflict}
use Rattle.call_parts.specs.engine_calls.Clauses.{IsNewLine}
use Rattle.engine_front.specs.declared.calls.Durable.{Durable}
use Rattle.engine_front.specs.declared.calls.Next.{Next}
use Rattle.engine_front.specs.declared.calls.Next.TheVariants.{Abort, Durables, Line, Scan}

-- it is that a row is held by another session
abbrev pub is_conflict_in : Answer → Bool
is_conflict_in (answer.Refused why) = is_conflict why
is_conflict_in _ = false

-- behind the last answer to a line come the durable lines; behind a conflict the abort of its call
abbrev pub behind_last : Bool → Next
behind_last true = Abort
behind_last false = Durables

-- and behind a pair of a scan what follows it
abbrev pub behind_answer : Answer → Next
behind_answer (answer.Pair key value) = Scan
behind_answer a = behind_last (is_conflict_in a)

-- behind the durable lines comes a new line
abbrev pub behind_durables : Next → Next
behind_durables Durables = Line
behind_durables n = n

-- the newest outcome is a call that met a conflict, and its abort is due
pub record IsHindered (xs : List Done) : Type 0 where
  pub newest : Done
  pub earlier : List Done
  pub are : xs ≡ newest ∷ earlier
  pub hindered : Call
  pub is : hindered_in newest.outcome.deed ≡ Some hindered

-- the newest outcome is a pair of a scan, which goes on
pub record IsScanning (xs : List Done) : Type 0 where
  pub newest : Done
  pub earlier : List Done
  pub are : xs ≡ newest ∷ earlier
  pub from : ℕ
  pub to : ℕ
  pub asked_is : asked newest.outcome.deed ≡ call.Scan from to
  pub more : is_last (answered newest.outcome.deed) ≡ false
  pub hindered : hindered_in newest.outcome.deed ≡ None

-- what may be asked next, by the newest outcome
abbrev pub IsNext : Next → List Done → Type 0
IsNext Line xs = IsNewLine (outcomes xs)
IsNext Durables xs = IsNewLine (outcomes xs)
IsNext Scan xs = IsScanning xs
IsNext Abort xs = IsHindered xs

-- as a name in the core's words
abbrev pub name_of : Durable → Name
name_of d = record { session = d.session; number = d.number }

-- Behind these outcomes, where these lines are out, the durable line that is due first is taken, or none is due.
abbrev pub IsTaken : Opening → List Done → List Name → Option Durable → Type 0
IsTaken g xs told None = due g (state_after g (front xs)) told ≡ []
IsTaken g xs told (Some d) = due g (state_after g (front xs)) told ≡ due g (state_after g (front xs)) (name_of d ∷ told) ++ name_of d ∷ []

-- and then it is out
abbrev pub told_with : Option Durable → List Name → List Name
told_with None told = told
told_with (Some d) told = name_of d ∷ told
