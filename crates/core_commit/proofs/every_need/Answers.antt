use Rattle.core_commit.proofs.every_need.Goals as goal
use Rattle.core_commit.proofs.Debts.{every_need}

pub returns : goal.returns
returns c = every_need
