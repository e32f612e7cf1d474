use Rattle.group_commit.proofs.RipeLemmas.{every_ripe}
use Rattle.group_commit.proofs.every_ripe.Goals as goal

pub returns : goal.returns
returns c = every_ripe
