use Rattle.std.proofs.Common.{◌<◌, length, refl, subst, sym, arith}
use Rattle.lean_disk.specs.Area.{synced}
use Rattle.lean_disk.specs.Calls.{Synced}
use Rattle.lean_disk.specs.Story.{Story}
use Rattle.lean_disk.specs.Memory.{areas_story}
use Rattle.lean_disk.specs.Inside.Laws.{areas_lawful}
use Rattle.lean_disk.specs.declared.disk.Did.TheVariants as did
use Rattle.lean_disk.proofs.DiskLemmas.{in_time, same_dated, same_in_step, same_story, grew_dated, grew_in_step, story_synced, story_not_synced}
use Rattle.lean_disk.proofs.TellingLemmas.{synced_nothing}
use Rattle.lean_disk.proofs.mem_disk.MemDiskDisk.sync.Goals as goal

pub sync-requires : goal.sync-requires
sync-requires c =
    let d = c.args.self.now in
    let lt : c.args.area < length d.areas.items = omega arith in
    in_time d.own d.areas.items d.made d.notes c.args.area c.index_mut.result.now c.index_mut.result.now lt c.index_mut.ensures.value d.dated

pub invariant_of-self-in-Ok-Done : goal.invariant_of-self-in-Ok-Done
invariant_of-self-in-Ok-Done c =
    let d = c.args.self.now in
    let lt : c.args.area < length d.areas.items = omega arith in
    record { some = d.some; dated = grew_dated d.own d.areas.items d.made d.notes c.args.area c.index_mut.result.now c.sync.new.self lt c.index_mut.ensures.value d.dated c.next_made-after.result c.next_made-after.ensures synced (c.in-Ok-Done.ensures.done c.in-Ok-Done.field-0-is); in_step = λ is. grew_in_step d.own d.areas.items d.made d.notes c.args.area c.index_mut.result.now c.sync.new.self lt c.index_mut.ensures.value d.dated c.next_made-after.result c.next_made-after.ensures synced (c.in-Ok-Done.ensures.done c.in-Ok-Done.field-0-is) (d.in_step is) }

pub invariant_of-self-in-Ok-Failed : goal.invariant_of-self-in-Ok-Failed
invariant_of-self-in-Ok-Failed c =
    let d = c.args.self.now in
    let lt : c.args.area < length d.areas.items = omega arith in
    record { some = d.some; dated = grew_dated d.own d.areas.items d.made d.notes c.args.area c.index_mut.result.now c.sync.new.self lt c.index_mut.ensures.value d.dated c.next_made-after.result c.next_made-after.ensures (λ x. x) (c.in-Ok-Failed.ensures.failed c.in-Ok-Failed.field-0-is); in_step = λ is. grew_in_step d.own d.areas.items d.made d.notes c.args.area c.index_mut.result.now c.sync.new.self lt c.index_mut.ensures.value d.dated c.next_made-after.result c.next_made-after.ensures (λ x. x) (c.in-Ok-Failed.ensures.failed c.in-Ok-Failed.field-0-is) (d.in_step is) }

pub invariant_of-self-in-Err : goal.invariant_of-self-in-Err
invariant_of-self-in-Err c =
    let d = c.args.self.now in
    let lt : c.args.area < length d.areas.items = omega arith in
    record { some = d.some; dated = same_dated d.own d.areas.items d.made d.notes c.args.area c.index_mut.result.now c.sync.new.self lt c.index_mut.ensures.value d.dated c.in-Err.ensures.refused; in_step = λ is. same_in_step d.own d.areas.items d.made d.notes c.args.area c.index_mut.result.now c.sync.new.self lt c.index_mut.ensures.value d.dated c.in-Err.ensures.refused (d.in_step is) }

pub returns-in-Ok-Done-clause-synced : goal.returns-in-Ok-Done-clause-synced
returns-in-Ok-Done-clause-synced c =
    let d = c.args.self.now in
    let lt : c.args.area < length d.areas.items = omega arith in
    story_synced d.own d.areas.items d.made d.notes c.args.area c.index_mut.result.now c.sync.new.self lt c.index_mut.ensures.value d.dated c.next_made-after.result c.next_made-after.ensures synced (c.in-Ok-Done.ensures.done c.in-Ok-Done.field-0-is) (λ x. refl)

pub returns-in-Ok-Failed-clause-synced : goal.returns-in-Ok-Failed-clause-synced
returns-in-Ok-Failed-clause-synced c =
    let d = c.args.self.now in
    let lt : c.args.area < length d.areas.items = omega arith in
    story_not_synced d.own d.areas.items d.made d.notes c.args.area c.index_mut.result.now c.sync.new.self lt c.index_mut.ensures.value d.dated c.next_made-after.result c.next_made-after.ensures (λ x. x) (c.in-Ok-Failed.ensures.failed c.in-Ok-Failed.field-0-is) (λ x. refl)

pub returns-in-Err-clause-synced : goal.returns-in-Err-clause-synced
returns-in-Err-clause-synced c =
    let d = c.args.self.now in
    let lt : c.args.area < length d.areas.items = omega arith in
    let old = areas_story d.own d.areas.items d.made d.notes in
    subst (λ (s : Story). Synced c.args.area did.Failed old s) (sym (same_story d.own d.areas.items d.made d.notes c.args.area c.index_mut.result.now c.sync.new.self lt c.index_mut.ensures.value d.dated c.in-Err.ensures.refused)) (synced_nothing c.args.area old (areas_lawful d.own d.areas.items d.made d.notes d.dated))
