use Rattle.page_pool.proofs.every_queue.Goals as goal
use Rattle.page_pool.proofs.Queueing.{every_queue}

pub returns : goal.returns
returns c = every_queue
