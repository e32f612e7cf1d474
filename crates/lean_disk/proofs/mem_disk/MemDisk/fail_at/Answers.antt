use Rattle.std.proofs.Common.{◌<◌, length, set, arith}
use Rattle.lean_disk.specs.Memory.{areas_story}
use Rattle.lean_disk.proofs.DiskLemmas.{same_dated, same_in_step, same_story, tells_same}
use Rattle.lean_disk.proofs.mem_disk.MemDisk.fail_at.Goals as goal

pub invariant_of-self : goal.invariant_of-self
invariant_of-self c =
    let d = c.args.self.now in
    let lt : c.args.area < length d.areas.items = omega arith in
    record { some = d.some; dated = same_dated d.own d.areas.items d.made d.notes c.args.area c.index_mut.result.now c.set_fails.new.self lt c.index_mut.ensures.value d.dated c.set_fails.ensures; in_step = λ is. same_in_step d.own d.areas.items d.made d.notes c.args.area c.index_mut.result.now c.set_fails.new.self lt c.index_mut.ensures.value d.dated c.set_fails.ensures (d.in_step is) }

pub returns-then-area-len : goal.returns-then-area-len
returns-then-area-len c =
    let d = c.args.self.now in
    let lt : c.args.area < length d.areas.items = omega arith in
    tells_same (areas_story d.own d.areas.items d.made d.notes) (areas_story d.own (set d.areas.items c.args.area c.set_fails.new.self) d.made d.notes)
    (same_story d.own d.areas.items d.made d.notes c.args.area c.index_mut.result.now c.set_fails.new.self lt c.index_mut.ensures.value d.dated c.set_fails.ensures)
