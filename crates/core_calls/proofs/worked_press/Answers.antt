use Rattle.core_calls.proofs.PressByHand.{worked}
use Rattle.core_calls.proofs.worked_press.Goals as goal

pub returns : goal.returns
returns c = worked c.every_press.ensures
