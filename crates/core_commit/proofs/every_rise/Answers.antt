use Rattle.core_commit.proofs.every_rise.Goals as goal
use Rattle.core_commit.proofs.RiseLemmas.{every_rise}

pub returns : goal.returns
returns c = every_rise
