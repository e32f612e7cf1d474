use Rattle.core_index.proofs.every_tree.Goals as goal
use Rattle.core_index.proofs.Legal.{every_tree}

pub returns : goal.returns
returns c = every_tree
