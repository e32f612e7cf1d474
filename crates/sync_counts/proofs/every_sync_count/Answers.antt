use Rattle.sync_counts.proofs.every_sync_count.Goals as goal
use Rattle.sync_counts.proofs.SyncLemmas.{every_sync_count}

pub returns : goal.returns
returns c = every_sync_count c.every_tight.ensures c.every_high.ensures c.every_sync.ensures
