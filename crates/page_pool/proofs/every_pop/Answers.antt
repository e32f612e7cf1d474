use Rattle.page_pool.proofs.every_pop.Goals as goal
use Rattle.page_pool.proofs.Numbers.{every_pop}

pub returns : goal.returns
returns c = every_pop
