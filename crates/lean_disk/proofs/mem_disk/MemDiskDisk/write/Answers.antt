use Rattle.std.proofs.Common.{◌<◌, length, refl, subst, sym, arith}
use Rattle.lean_disk.specs.Area.{written, torn}
use Rattle.lean_disk.specs.Calls.{Wrote}
use Rattle.lean_disk.specs.Story.{Story}
use Rattle.lean_disk.specs.Memory.{areas_story}
use Rattle.lean_disk.specs.Inside.Laws.{areas_lawful}
use Rattle.lean_disk.specs.declared.disk.Did.TheVariants as did
use Rattle.lean_disk.proofs.DiskLemmas.{in_time, same_dated, same_in_step, same_story, grew_dated, grew_in_step, story_written, story_torn}
use Rattle.lean_disk.proofs.TellingLemmas.{wrote_nothing}
use Rattle.lean_disk.proofs.mem_disk.MemDiskDisk.write.Goals as goal

pub write-requires : goal.write-requires
write-requires c =
    let d = c.args.self.now in
    let lt : c.args.area < length d.areas.items = omega arith in
    in_time d.own d.areas.items d.made d.notes c.args.area c.index_mut.result.now c.index_mut.result.now lt c.index_mut.ensures.value d.dated

pub invariant_of-self-in-Ok-Done : goal.invariant_of-self-in-Ok-Done
invariant_of-self-in-Ok-Done c =
    let d = c.args.self.now in
    let lt : c.args.area < length d.areas.items = omega arith in
    record { some = d.some; dated = grew_dated d.own d.areas.items d.made d.notes c.args.area c.index_mut.result.now c.write.new.self lt c.index_mut.ensures.value d.dated c.next_made-after.result c.next_made-after.ensures (written c.args.at c.args.bytes.now) (c.in-Ok-Done.ensures.done c.in-Ok-Done.field-0-is); in_step = λ is. grew_in_step d.own d.areas.items d.made d.notes c.args.area c.index_mut.result.now c.write.new.self lt c.index_mut.ensures.value d.dated c.next_made-after.result c.next_made-after.ensures (written c.args.at c.args.bytes.now) (c.in-Ok-Done.ensures.done c.in-Ok-Done.field-0-is) (d.in_step is) }

pub invariant_of-self-in-Ok-Failed : goal.invariant_of-self-in-Ok-Failed
invariant_of-self-in-Ok-Failed c =
    let d = c.args.self.now in
    let lt : c.args.area < length d.areas.items = omega arith in
    record { some = d.some; dated = grew_dated d.own d.areas.items d.made d.notes c.args.area c.index_mut.result.now c.write.new.self lt c.index_mut.ensures.value d.dated c.next_made-after.result c.next_made-after.ensures (torn c.args.at c.args.bytes.now) (c.in-Ok-Failed.ensures.failed c.in-Ok-Failed.field-0-is); in_step = λ is. grew_in_step d.own d.areas.items d.made d.notes c.args.area c.index_mut.result.now c.write.new.self lt c.index_mut.ensures.value d.dated c.next_made-after.result c.next_made-after.ensures (torn c.args.at c.args.bytes.now) (c.in-Ok-Failed.ensures.failed c.in-Ok-Failed.field-0-is) (d.in_step is) }

pub invariant_of-self-in-Err : goal.invariant_of-self-in-Err
invariant_of-self-in-Err c =
    let d = c.args.self.now in
    let lt : c.args.area < length d.areas.items = omega arith in
    record { some = d.some; dated = same_dated d.own d.areas.items d.made d.notes c.args.area c.index_mut.result.now c.write.new.self lt c.index_mut.ensures.value d.dated c.in-Err.ensures.refused; in_step = λ is. same_in_step d.own d.areas.items d.made d.notes c.args.area c.index_mut.result.now c.write.new.self lt c.index_mut.ensures.value d.dated c.in-Err.ensures.refused (d.in_step is) }

pub returns-in-Ok-Done-clause-wrote : goal.returns-in-Ok-Done-clause-wrote
returns-in-Ok-Done-clause-wrote c =
    let d = c.args.self.now in
    let lt : c.args.area < length d.areas.items = omega arith in
    story_written d.own d.areas.items d.made d.notes c.args.area c.index_mut.result.now c.write.new.self lt c.index_mut.ensures.value d.dated c.next_made-after.result c.next_made-after.ensures (written c.args.at c.args.bytes.now) (c.in-Ok-Done.ensures.done c.in-Ok-Done.field-0-is) c.args.at c.args.bytes.now (λ x. refl)

pub returns-in-Ok-Failed-clause-wrote : goal.returns-in-Ok-Failed-clause-wrote
returns-in-Ok-Failed-clause-wrote c =
    let d = c.args.self.now in
    let lt : c.args.area < length d.areas.items = omega arith in
    story_torn d.own d.areas.items d.made d.notes c.args.area c.index_mut.result.now c.write.new.self lt c.index_mut.ensures.value d.dated c.next_made-after.result c.next_made-after.ensures (torn c.args.at c.args.bytes.now) (c.in-Ok-Failed.ensures.failed c.in-Ok-Failed.field-0-is) c.args.at c.args.bytes.now (λ x. refl)

pub returns-in-Err-clause-wrote : goal.returns-in-Err-clause-wrote
returns-in-Err-clause-wrote c =
    let d = c.args.self.now in
    let lt : c.args.area < length d.areas.items = omega arith in
    let old = areas_story d.own d.areas.items d.made d.notes in
    subst (λ (s : Story). Wrote c.args.area c.args.at c.args.bytes.now did.Failed old s) (sym (same_story d.own d.areas.items d.made d.notes c.args.area c.index_mut.result.now c.write.new.self lt c.index_mut.ensures.value d.dated c.in-Err.ensures.refused)) (wrote_nothing c.args.area c.args.at c.args.bytes.now old (areas_lawful d.own d.areas.items d.made d.notes d.dated))
