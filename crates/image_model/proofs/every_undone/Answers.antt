use Rattle.image_model.proofs.every_undone.Goals as goal
use Rattle.image_model.proofs.UndoLemmas.{every_undone}

pub returns : goal.returns
returns c = every_undone
