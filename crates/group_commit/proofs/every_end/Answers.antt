use Rattle.group_commit.proofs.TrackLemmas.{every_end}
use Rattle.group_commit.proofs.every_end.Goals as goal

pub returns : goal.returns
returns c = every_end c.every_rise.ensures
