use Rattle.core_calls.proofs.ToldLemmas.{every_told}
use Rattle.core_calls.proofs.every_told.Goals as goal

pub returns : goal.returns
returns c = every_told c.every_order.ensures c.every_closed.ensures c.every_serial.ensures c.every_crash.ensures
