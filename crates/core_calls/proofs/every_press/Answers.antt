use Rattle.core_calls.proofs.PressLemmas.{every_press}
use Rattle.core_calls.proofs.every_press.Goals as goal

pub returns : goal.returns
returns c = every_press c.every_residence.ensures c.every_saved.ensures
