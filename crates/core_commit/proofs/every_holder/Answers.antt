use Rattle.core_commit.proofs.every_holder.Goals as goal
use Rattle.core_commit.proofs.HolderLemmas.{every_holder}

pub returns : goal.returns
returns c = every_holder
