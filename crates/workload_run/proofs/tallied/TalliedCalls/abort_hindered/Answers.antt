use Rattle.std.proofs.Common.{◌∷◌, true, cond, false, ap}
use Rattle.call_parts.specs.core_calls.Deeds.{in_words}
use Rattle.script_run.specs.Runs.{calls_of}
use Rattle.script_run.proofs.FitLemmas.{hindered_open}
use Rattle.workload_run.proofs.tallied.TalliedCalls.abort_hindered.Goals as goal

pub returns-in-Ok-clause-does : goal.returns-in-Ok-clause-does
returns-in-Ok-clause-does g c o y earlier names run asks hindered =
    let does = (c.in-Ok.ensures).does o y earlier names run.0 asks hindered in
    (does.0, (does.1, c.go_on.ensures (calls_of (y ∷ earlier)) (in_words does.0.done.outcome) run.1 (ap (λ b. cond b false true) (hindered_open y.outcome.deed asks hindered)) does.0.answer_is))
