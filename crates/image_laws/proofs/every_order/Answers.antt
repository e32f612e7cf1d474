use Rattle.image_laws.proofs.every_order.Goals as goal
use Rattle.image_laws.proofs.OrderLemmas.{every_order}

pub returns : goal.returns
returns c = every_order
