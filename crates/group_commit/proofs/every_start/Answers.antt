use Rattle.group_commit.proofs.TrackLemmas.{every_start}
use Rattle.group_commit.proofs.every_start.Goals as goal

pub returns : goal.returns
returns c = every_start
