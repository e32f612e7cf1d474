use Rattle.std.proofs.Common.{Err, ap, ◌∙◌}
use Rattle.master_store.proofs.ReadLemmas.{no_master}
use Rattle.master_store.proofs.choice.take_master.Goals as goal

pub returns-in-Err-clause-answer : goal.returns-in-Err-clause-answer
returns-in-Err-clause-answer c =
    no_master c.every_master.ensures c.every_master_in.ensures c.args.slot c.args.bytes.now c.in-Err.field-0
    (λ e. c.read_master.ensures.cause_no_seal (c.in-Err.is ∙ ap Err e)) (λ e. c.read_master.ensures.cause_malformed (c.in-Err.is ∙ ap Err e))
