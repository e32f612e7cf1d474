use Rattle.event_counts.proofs.every_scan_count.Goals as goal
use Rattle.event_counts.proofs.ScanLemmas.{every_scan_count}

pub returns : goal.returns
returns c = every_scan_count c.every_sync_count.ensures
