use Rattle.std.proofs.Common.{refl, subst}
use Rattle.lean_disk.specs.Calls.{Gave}
use Rattle.lean_disk.specs.Memory.{area_now, log_view}
use Rattle.lean_disk.specs.declared.disk.Read.{Read}
use Rattle.lean_disk.specs.declared.disk.Read.TheVariants as read
use Rattle.lean_disk.proofs.PartLemmas.{part_in_time, part_looked}
use Rattle.lean_disk.proofs.mem_part.MemPartPart.read.Goals as goal

pub read-requires : goal.read-requires
read-requires c = part_in_time c.args.self.now.log c.args.self.now.made c.args.self.now.notes c.args.self.now.dated

pub returns-in-Ok-Got-clause-looked : goal.returns-in-Ok-Got-clause-looked
returns-in-Ok-Got-clause-looked c =
    let p = c.args.self.now in
    part_looked p.area p.log c.read.new.self p.made p.notes p.dated (λ x. x) c.in-Ok-Got.ensures.grew c.args.at c.args.into.now c.read.new.into (read.Got c.in-Ok-Got.n) (λ x. refl) (subst (λ (r : Read). Gave c.args.at (area_now (log_view p.log)).bytes c.args.into.now c.read.new.into r) c.in-Ok-Got.field-0-is c.in-Ok-Got.ensures.bytes)

pub returns-in-Ok-Failed-clause-looked : goal.returns-in-Ok-Failed-clause-looked
returns-in-Ok-Failed-clause-looked c =
    let p = c.args.self.now in
    part_looked p.area p.log c.read.new.self p.made p.notes p.dated (λ x. x) c.in-Ok-Failed.ensures.grew c.args.at c.args.into.now c.read.new.into read.Failed (λ x. refl) tt
