use Rattle.group_commit.proofs.OutcomeLemmas.{every_outcome}
use Rattle.group_commit.proofs.every_outcome.Goals as goal

pub returns : goal.returns
returns c = every_outcome c.every_rise.ensures
