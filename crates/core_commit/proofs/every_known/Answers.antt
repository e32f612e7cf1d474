use Rattle.core_commit.proofs.every_known.Goals as goal
use Rattle.core_commit.proofs.KnownLemmas.{every_known}

pub returns : goal.returns
returns c = every_known
