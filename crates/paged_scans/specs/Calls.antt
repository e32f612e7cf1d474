-- Where in a run a scan stands, and what its steps answer.
use Rattle.paged_calls.specs.engine_trait.Serving.{unserved_answer}
use Rattle.paged_calls.specs.engine_trait.declared.unserved.Unanswered.{Unanswered}
use Rattle.std.specs.Prelude.{◌≡◌, ◌⊎◌, ◌≤◌, ◌<◌, ◌-◌, ◌^◌, ℕ, suc, false, List, [], ◌∷◌, None, Result, Ok, Err}
use Rattle.map_model.specs.Pairings.{is_last}
use Rattle.map_model.specs.declared.call.Answer.{Answer}
use Rattle.map_model.specs.declared.call.Answer.TheVariants as answer
use Rattle.map_model.specs.declared.call.Call.{Call}
use Rattle.map_model.specs.declared.call.Call.TheVariants as call
use Rattle.paged_calls.specs.engine_trait.declared.unserved.Unserved.{Unserved}
use Rattle.paged_calls.specs.core_state.Openings.{Opening}
use Rattle.paged_calls.specs.core_calls.Deeds.{Outcome, answered, asked}
use Rattle.paged_calls.specs.core_calls.Fronts.{Done, outcomes}
use Rattle.paged_calls.specs.core_calls.Steps.{hindered_in, met_last, scan_from}
use Rattle.paged_calls.specs.engine_calls.Clauses.{IsNewLine}
use Rattle.paged_scans.specs.declared.scans.Scan.{Scan}
use Rattle.paged_scans.specs.declared.scans.Step.{Step}
use Rattle.paged_scans.specs.declared.scans.Step.TheVariants as step

-- its keys are ones that a key can be, it stands at none below its first one, and it has told no more pairs than it may
pub record IsIn (x : Scan) : Type 0 where
  pub from : x.from < 2 ^ 64 - 1
  pub to : x.to < 2 ^ 64 - 1
  pub at : x.at < 2 ^ 64
  pub low : x.from ≤ x.at
  pub met : x.met ≤ 64

-- the newest outcome is a pair of this call of session `own`
abbrev pub IsBehindPair : (own : ℕ) → Call → List Outcome → Type 0
IsBehindPair own c [] = ⊥
IsBehindPair own c (y ∷ earlier) = (hindered_in y.deed ≡ None) × (is_last (answered y.deed) ≡ false) × (y.session ≡ own) × (asked y.deed ≡ c)

-- The run has come to where the scan of session `own` stands: on a new line, or behind a pair of it.
pub record StandsAt (own : ℕ) (x : Scan) (g : Opening) (xs : List Done) : Type 0 where
  pub line : IsNewLine (outcomes xs) ⊎ IsBehindPair own (call.Scan x.from x.to) (outcomes xs)
  pub at : scan_from (outcomes xs) x.from ≡ x.at
  pub met : met_last (outcomes xs) ≡ x.met

abbrev pub step_answer : Result Step Unserved → Result Answer Unanswered
step_answer (Ok (step.Pair key value)) = Ok (answer.Pair key value)
step_answer (Ok (step.More from)) = Ok (answer.More from)
step_answer (Ok step.End) = Ok answer.End
step_answer (Err why) = unserved_answer why

-- where it stands behind a step
abbrev pub step_behind : Result Step Unserved → Scan → Scan
step_behind (Ok (step.Pair key value)) x = record x { at = suc key; met = suc x.met }
step_behind _ x = x
