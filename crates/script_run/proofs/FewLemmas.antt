-- A script has so few answers, and so few lines are put.
use Rattle.std.proofs.Common.{◌≡◌, ◌++◌, ◌∷◌, [], ◌≤◌, ◌<◌, ◌+◌, ◌*◌, ◌^◌, ℕ, List, Option, length, sym, ap, ◌∙◌, subst, arith}
use Rattle.std.proofs.lemmas.List.{append-nil, length-append}
use Rattle.map_model.specs.Outputs.{Reply}
use Rattle.map_model.specs.Pairings.{script_of}
use Rattle.call_parts.specs.core_state.Openings.{Opening}
use Rattle.call_parts.specs.core_calls.Durables.{durables, moments}
use Rattle.call_parts.specs.core_calls.Fronts.{Done}
use Rattle.call_parts.specs.core_calls.LineCounts.{EveryLineCount, LineCountLaws}
use Rattle.call_parts.specs.core_calls.Printed.{printed}
use Rattle.call_parts.specs.core_calls.Runs.{EachTells, Tells}
use Rattle.call_parts.specs.engine_trait.Limits.{limits}
use Rattle.call_parts.specs.Memory.{Memory}
use Rattle.lean_edge.specs.Outside.{Feed, Held}
use Rattle.lean_disk.specs.Story.{Story}
use Rattle.script_lang.specs.Reading.{Unread}
use Rattle.script_run.specs.Runs.{Executes, ScriptRuns, calls_of}
use Rattle.script_run.specs.declared.stop.Stop.{Stop}
use Rattle.script_run.proofs.StopLemmas.{FirstOf, first_of}

each_tells : (group : ℕ) (g : Opening) (first : Memory) (xs : List Done) (last : Memory) → Executes g group [] first xs last → EachTells limits g group xs
each_tells group g first [] last e = tt
each_tells group g first (x ∷ earlier) last e = (each_tells group g first earlier e.0 e.1, subst (λ (ys : List Done). Tells limits g group ys x) (append-nil earlier) e.2.tells)

-- a line is answered 66 times at most
pub few_outcomes : EveryLineCount → (group : ℕ) (g : Opening) (first : Memory) (xs : List Done) (last : Memory) → Executes g group [] first xs last → length xs ≤ 66 * length (script_of (calls_of xs))
few_outcomes every group g first xs last e = let laws : LineCountLaws limits g xs = every limits g group xs (each_tells group g first xs last e) in laws.answers

-- fewer than 2^48 lines were put in a run from the opening on
pub few_told : EveryLineCount → (stop : Option Stop) (sessions group : ℕ) (g : Opening) (start feed : Feed) (seen : List ℕ) (m0 m1 : Memory) (reader : Unread) (h0 h1 : Held) (old new : Story)
    → (a : ScriptRuns stop sessions group g [] 0 start seen m0 m1 reader feed h0 h1 old new) → length a.told < 2 ^ 48
few_told every stop sessions group g start feed seen m0 m1 reader h0 h1 old new a =
    let f : FirstOf a.replies a.told = first_of stop a.replies a.told a.tail a.prints in
    let parts : length (f.later ++ a.told) ≡ length f.later + length a.told = length-append f.later a.told in
    let whole : length (f.later ++ a.told) ≡ length a.replies = ap (λ (rs : List Reply). length rs) f.is in
    let lines : length (printed g a.newer) ≡ length a.replies = ap (λ (rs : List Reply). length rs) (ap (printed g) (sym (append-nil a.newer)) ∙ (a.lines ∙ append-nil a.replies)) in
    let laws : LineCountLaws limits g a.newer = every limits g group a.newer (each_tells group g m0 a.newer a.memory a.executes) in
    let size : length (printed g a.newer) ≡ length a.newer + length (durables g (moments a.newer)) = laws.printed_are in
    let durable : length (durables g (moments a.newer)) ≤ length a.newer = laws.reported in
    let outcomes = few_outcomes every group g m0 a.newer a.memory a.executes in
    let few : 0 + length (script_of (calls_of a.newer)) < 2 ^ 40 = a.few in
    omega (arith, parts, whole, lines, size, durable, outcomes, few)
