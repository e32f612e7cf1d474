use Rattle.std.proofs.Common.{refl}
use Rattle.lean_disk.specs.Area.{written, torn}
use Rattle.lean_disk.proofs.PartLemmas.{part_in_time, part_written, part_torn}
use Rattle.lean_disk.proofs.mem_part.MemPartPart.write.Goals as goal

pub write-requires : goal.write-requires
write-requires c = part_in_time c.args.self.now.log c.args.self.now.made c.args.self.now.notes c.args.self.now.dated

pub returns-in-Ok-Done-clause-wrote : goal.returns-in-Ok-Done-clause-wrote
returns-in-Ok-Done-clause-wrote c =
    let p = c.args.self.now in
    part_written p.area p.log c.write.new.self p.made p.notes p.dated (written c.args.at c.args.bytes.now) (c.in-Ok-Done.ensures.done c.in-Ok-Done.field-0-is) c.args.at c.args.bytes.now (λ x. refl)

pub returns-in-Ok-Failed-clause-wrote : goal.returns-in-Ok-Failed-clause-wrote
returns-in-Ok-Failed-clause-wrote c =
    let p = c.args.self.now in
    part_torn p.area p.log c.write.new.self p.made p.notes p.dated (torn c.args.at c.args.bytes.now) (c.in-Ok-Failed.ensures.failed c.in-Ok-Failed.field-0-is) c.args.at c.args.bytes.now (λ x. refl)
