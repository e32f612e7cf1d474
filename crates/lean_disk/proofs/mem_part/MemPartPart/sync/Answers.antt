use Rattle.std.proofs.Common.{refl}
use Rattle.lean_disk.specs.Area.{synced}
use Rattle.lean_disk.proofs.PartLemmas.{part_in_time, part_synced, part_not_synced}
use Rattle.lean_disk.proofs.mem_part.MemPartPart.sync.Goals as goal

pub sync-requires : goal.sync-requires
sync-requires c = part_in_time c.args.self.now.log c.args.self.now.made c.args.self.now.notes c.args.self.now.dated

pub returns-in-Ok-Done-clause-synced : goal.returns-in-Ok-Done-clause-synced
returns-in-Ok-Done-clause-synced c =
    let p = c.args.self.now in
    part_synced p.area p.log c.sync.new.self p.made p.notes p.dated synced (c.in-Ok-Done.ensures.done c.in-Ok-Done.field-0-is) (λ x. refl)

pub returns-in-Ok-Failed-clause-synced : goal.returns-in-Ok-Failed-clause-synced
returns-in-Ok-Failed-clause-synced c =
    let p = c.args.self.now in
    part_not_synced p.area p.log c.sync.new.self p.made p.notes p.dated (λ x. x) (c.in-Ok-Failed.ensures.failed c.in-Ok-Failed.field-0-is) (λ x. refl)
