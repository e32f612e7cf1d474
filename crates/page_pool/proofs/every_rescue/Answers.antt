use Rattle.page_pool.proofs.every_rescue.Goals as goal
use Rattle.page_pool.proofs.Queueing.{every_rescue}

pub returns : goal.returns
returns c = every_rescue
