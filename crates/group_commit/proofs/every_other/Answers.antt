use Rattle.group_commit.proofs.TrackLemmas.{every_other}
use Rattle.group_commit.proofs.every_other.Goals as goal

pub returns : goal.returns
returns c = every_other c.every_rise.ensures
