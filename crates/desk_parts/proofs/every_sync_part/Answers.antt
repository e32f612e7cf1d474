use Rattle.desk_parts.proofs.SyncLemmas.{every_sync_part, sync_slots}
use Rattle.desk_parts.proofs.every_sync_part.Goals as goal

pub returns-clause-parts : goal.returns-clause-parts
returns-clause-parts g c = every_sync_part (g.D.Disk.story c.args.old.now) (g.D.Disk.story c.args.new.now) c.every_still.ensures

pub returns-clause-slots : goal.returns-clause-slots
returns-clause-slots g c = sync_slots g.D.Disk.story c.args.old.now c.args.new.now
