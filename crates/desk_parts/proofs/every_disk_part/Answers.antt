use Rattle.call_parts.proofs.AreaLemmas.{every_area}
use Rattle.call_parts.proofs.StepLemmas.{every_step}
use Rattle.call_parts.proofs.StillLemmas.{every_still}
use Rattle.desk_parts.proofs.PageLemmas.{every_page_part}
use Rattle.desk_parts.proofs.SyncLemmas.{every_sync_part, sync_slots}
use Rattle.desk_parts.proofs.every_disk_part.Goals as goal

pub returns-clause-pages : goal.returns-clause-pages
returns-clause-pages g c old new = every_page_part (g.D.Disk.story old) (g.D.Disk.story new) (every_area (g.D.Disk.story old) (g.D.Disk.story new))
    (every_step c.laws.ensures.reached c.laws.ensures.needs c.laws.ensures.versions c.laws.ensures.kept c.laws.ensures.prefixes c.laws.ensures.seals (g.D.Disk.story old) (g.D.Disk.story new)
    ((g.met.D.Disk g.world.𝓛 g.world.𝓜 g.world.𝓡 ((λ s x. x), (λ x. x), (λ x. x), (λ x. x))).lawful old))

pub returns-clause-syncs : goal.returns-clause-syncs
returns-clause-syncs g c old new = every_sync_part (g.D.Disk.story old) (g.D.Disk.story new) (every_still (g.D.Disk.story old) (g.D.Disk.story new))

pub returns-clause-slots : goal.returns-clause-slots
returns-clause-slots g c old new = sync_slots g.D.Disk.story old new
