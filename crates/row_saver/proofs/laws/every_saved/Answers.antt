use Rattle.row_saver.proofs.PagerLemmas.{saved_is}
use Rattle.row_saver.proofs.laws.every_saved.Goals as goal

pub returns : goal.returns
returns c = saved_is c.every_pool.ensures c.every_standing.ensures
