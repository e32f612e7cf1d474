use Rattle.sync_counts.proofs.every_tight.Goals as goal
use Rattle.sync_counts.proofs.SyncLemmas.{every_tight}

pub returns : goal.returns
returns c = every_tight c.every_residence.ensures
