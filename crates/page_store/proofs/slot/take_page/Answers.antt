use Rattle.std.proofs.Common.{Err, ap, ◌∙◌}
use Rattle.page_store.proofs.SlotLemmas.{malformed}
use Rattle.page_store.proofs.slot.take_page.Goals as goal

pub returns-in-Err-Malformed-clause-answer : goal.returns-in-Err-Malformed-clause-answer
returns-in-Err-Malformed-clause-answer c = let it = c.read_page.ensures.cause_malformed (c.in-Err-Malformed.is ∙ ap Err c.in-Err-Malformed.field-0-is) in (it.0, malformed c.args.page c.args.bounds.pages c.args.bytes.now it.1)
