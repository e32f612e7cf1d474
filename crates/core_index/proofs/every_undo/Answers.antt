use Rattle.core_index.proofs.every_undo.Goals as goal
use Rattle.core_index.proofs.UndoLemmas.{every_undo}

pub returns : goal.returns
returns c = every_undo
