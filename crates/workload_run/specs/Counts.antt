-- What is counted of the answers to a workload. Lists of answers have the newest first.
use Rattle.std.specs.Prelude.{if◌then◌else◌, ◌+◌, ℕ, Bool, true, false, not, List, [], ◌∷◌, Option, Some, None}
use Rattle.map_model.specs.declared.call.Call.{Call}
use Rattle.map_model.specs.declared.call.Call.TheVariants as call
use Rattle.map_model.specs.declared.call.Answer.{Answer}
use Rattle.map_model.specs.declared.call.Answer.TheVariants as answer
use Rattle.map_model.specs.declared.call.Answered.{Answered}
use Rattle.map_model.specs.Pairings.{is_open_line}

abbrev pub is_refusal : Answer → Bool
is_refusal (answer.Refused why) = true
is_refusal _ = false

-- ## Refused draws

-- whether the transaction in hand was begun, behind the first answer to a line
abbrev pub begun_by : Bool → Call → Answer → Bool
begun_by begun call.Begin a = not (is_refusal a)
begun_by begun _ a = begun

abbrev pub begun_in : List Answered → Bool
begun_in [] = true
begun_in (x ∷ earlier) = if is_open_line earlier then begun_in earlier else begun_by (begun_in earlier) x.call x.answer

-- A draw is refused by its first answer, and counts as refused where the begin of its transaction was.
abbrev pub draw_refusals : (begun : Bool) → Answer → ℕ
draw_refusals true a = if is_refusal a then 1 else 0
draw_refusals false a = 1

abbrev pub refusals_by : (begun : Bool) → Call → Answer → ℕ
refusals_by begun (call.Get key) a = draw_refusals begun a
refusals_by begun (call.Put key value) a = draw_refusals begun a
refusals_by begun (call.Del key) a = draw_refusals begun a
refusals_by begun _ a = 0

abbrev pub refused_in : List Answered → ℕ
refused_in [] = 0
refused_in (x ∷ earlier) = if is_open_line earlier then refused_in earlier else refusals_by (begun_in earlier) x.call x.answer + refused_in earlier

-- ## Pairs that were met

abbrev pub pairs_by : Answer → ℕ
pairs_by (answer.Pair key value) = 1
pairs_by _ = 0

abbrev pub sum_by : Answer → ℕ
sum_by (answer.Pair key value) = value
sum_by _ = 0

abbrev pub pairs_in : List Answered → ℕ
pairs_in [] = 0
pairs_in (x ∷ earlier) = pairs_by x.answer + pairs_in earlier

-- the sum of their values
abbrev pub sum_in : List Answered → ℕ
sum_in [] = 0
sum_in (x ∷ earlier) = sum_by x.answer + sum_in earlier

-- ## The walk

-- a walk begins at the least key, and goes on where a scan has stopped
abbrev pub goes_on : Answer → Option ℕ
goes_on (answer.Begun number) = Some 0
goes_on (answer.More from) = Some from
goes_on _ = None

abbrev pub goes_on_in : List Answered → Option ℕ
goes_on_in [] = None
goes_on_in (x ∷ earlier) = goes_on x.answer
