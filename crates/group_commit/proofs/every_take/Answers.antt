use Rattle.group_commit.proofs.TakeLemmas.{every_take}
use Rattle.group_commit.proofs.every_take.Goals as goal

pub returns : goal.returns
returns c = every_take
