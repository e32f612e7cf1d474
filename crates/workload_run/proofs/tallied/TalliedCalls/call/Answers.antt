use Rattle.call_parts.specs.core_calls.Deeds.{in_words}
use Rattle.script_run.specs.Runs.{calls_of}
use Rattle.workload_run.proofs.TallyLemmas.{new_line}
use Rattle.workload_run.proofs.tallied.TalliedCalls.call.Goals as goal

pub returns-in-Ok-clause-does : goal.returns-in-Ok-clause-does
returns-in-Ok-clause-does g c o xs names run =
    let does = (c.in-Ok.ensures).does o xs names run.0 in
    let told = c.told.ensures.told o xs names run.0 in
    (does.0, (does.1, c.begin_line.ensures (calls_of xs) (in_words does.0.done.outcome) run.1 (new_line (g.E.Calls.next c.args.self.now.engine) xs c.requires.next told.1) does.0.asked_is does.0.answer_is))
