use Rattle.std.proofs.Common.{◌∷◌}
use Rattle.call_parts.specs.core_calls.Deeds.{in_words}
use Rattle.script_run.specs.Runs.{calls_of}
use Rattle.workload_run.proofs.TallyLemmas.{scan_line}
use Rattle.workload_run.proofs.tallied.TalliedCalls.scan_on.Goals as goal

pub returns-in-Ok-clause-does : goal.returns-in-Ok-clause-does
returns-in-Ok-clause-does g c o y earlier names run =
    let does = (c.in-Ok.ensures).does o y earlier names run.0 in
    let told = c.told.ensures.told o (y ∷ earlier) names run.0 in
    (does.0, (does.1, c.go_on.ensures (calls_of (y ∷ earlier)) (in_words does.0.done.outcome) run.1 (scan_line (g.E.Calls.next c.args.self.now.engine) (y ∷ earlier) c.requires.next told.1) does.0.answer_is))
