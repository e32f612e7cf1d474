use Rattle.page_pool.proofs.every_take.Goals as goal
use Rattle.page_pool.proofs.Queueing.{every_take}

pub returns : goal.returns
returns c = every_take
