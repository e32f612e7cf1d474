use Rattle.page_pool.proofs.every_frame.Goals as goal
use Rattle.page_pool.proofs.Counting.{every_frame}

pub returns : goal.returns
returns c = every_frame
