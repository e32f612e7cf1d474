use Rattle.row_saver.proofs.PagerLemmas.{ready_is}
use Rattle.row_saver.proofs.laws.every_ready.Goals as goal

pub returns : goal.returns
returns c = ready_is c.every_queue.ensures
