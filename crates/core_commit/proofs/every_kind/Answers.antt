use Rattle.core_commit.proofs.every_kind.Goals as goal
use Rattle.core_commit.proofs.KindLemmas.{every_kind}

pub returns : goal.returns
returns c = every_kind
