use Rattle.core_commit.proofs.every_debt.Goals as goal
use Rattle.core_commit.proofs.Debts.{every_debt}

pub returns : goal.returns
returns c = every_debt
