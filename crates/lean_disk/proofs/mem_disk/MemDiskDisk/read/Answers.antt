use Rattle.std.proofs.Common.{◌<◌, length, refl, subst, sym, arith}
use Rattle.lean_disk.specs.Calls.{Gave, Looked}
use Rattle.lean_disk.specs.Story.{Story}
use Rattle.lean_disk.specs.Memory.{areas_story, area_now, slot_view}
use Rattle.lean_disk.specs.Inside.Laws.{areas_lawful}
use Rattle.lean_disk.specs.declared.disk.Read.{Read}
use Rattle.lean_disk.specs.declared.disk.Read.TheVariants as read
use Rattle.lean_disk.proofs.DiskLemmas.{in_time, same_dated, same_in_step, same_story, grew_dated, grew_in_step, story_looked}
use Rattle.lean_disk.proofs.TellingLemmas.{looked_nothing}
use Rattle.lean_disk.proofs.mem_disk.MemDiskDisk.read.Goals as goal

pub read-requires : goal.read-requires
read-requires c =
    let d = c.args.self.now in
    let lt : c.args.area < length d.areas.items = omega arith in
    in_time d.own d.areas.items d.made d.notes c.args.area c.index_mut.result.now c.index_mut.result.now lt c.index_mut.ensures.value d.dated

pub invariant_of-self-in-Ok-Got : goal.invariant_of-self-in-Ok-Got
invariant_of-self-in-Ok-Got c =
    let d = c.args.self.now in
    let lt : c.args.area < length d.areas.items = omega arith in
    record { some = d.some; dated = grew_dated d.own d.areas.items d.made d.notes c.args.area c.index_mut.result.now c.read.new.self lt c.index_mut.ensures.value d.dated c.next_made-after.result c.next_made-after.ensures (λ x. x) c.in-Ok-Got.ensures.grew; in_step = λ is. grew_in_step d.own d.areas.items d.made d.notes c.args.area c.index_mut.result.now c.read.new.self lt c.index_mut.ensures.value d.dated c.next_made-after.result c.next_made-after.ensures (λ x. x) c.in-Ok-Got.ensures.grew (d.in_step is) }

pub invariant_of-self-in-Ok-Failed : goal.invariant_of-self-in-Ok-Failed
invariant_of-self-in-Ok-Failed c =
    let d = c.args.self.now in
    let lt : c.args.area < length d.areas.items = omega arith in
    record { some = d.some; dated = grew_dated d.own d.areas.items d.made d.notes c.args.area c.index_mut.result.now c.read.new.self lt c.index_mut.ensures.value d.dated c.next_made-after.result c.next_made-after.ensures (λ x. x) c.in-Ok-Failed.ensures.grew; in_step = λ is. grew_in_step d.own d.areas.items d.made d.notes c.args.area c.index_mut.result.now c.read.new.self lt c.index_mut.ensures.value d.dated c.next_made-after.result c.next_made-after.ensures (λ x. x) c.in-Ok-Failed.ensures.grew (d.in_step is) }

pub invariant_of-self-in-Err : goal.invariant_of-self-in-Err
invariant_of-self-in-Err c =
    let d = c.args.self.now in
    let lt : c.args.area < length d.areas.items = omega arith in
    record { some = d.some; dated = same_dated d.own d.areas.items d.made d.notes c.args.area c.index_mut.result.now c.read.new.self lt c.index_mut.ensures.value d.dated c.in-Err.ensures.refused; in_step = λ is. same_in_step d.own d.areas.items d.made d.notes c.args.area c.index_mut.result.now c.read.new.self lt c.index_mut.ensures.value d.dated c.in-Err.ensures.refused (d.in_step is) }

pub returns-in-Ok-Got-clause-looked : goal.returns-in-Ok-Got-clause-looked
returns-in-Ok-Got-clause-looked c =
    let d = c.args.self.now in
    let lt : c.args.area < length d.areas.items = omega arith in
    story_looked d.own d.areas.items d.made d.notes c.args.area c.index_mut.result.now c.read.new.self lt c.index_mut.ensures.value d.dated c.next_made-after.result c.next_made-after.ensures (λ x. x) c.in-Ok-Got.ensures.grew c.args.at c.args.into.now c.read.new.into (read.Got c.in-Ok-Got.n) (λ x. refl) (subst (λ (r : Read). Gave c.args.at (area_now (slot_view c.index_mut.result.now)).bytes c.args.into.now c.read.new.into r) c.in-Ok-Got.field-0-is c.in-Ok-Got.ensures.bytes)

pub returns-in-Ok-Failed-clause-looked : goal.returns-in-Ok-Failed-clause-looked
returns-in-Ok-Failed-clause-looked c =
    let d = c.args.self.now in
    let lt : c.args.area < length d.areas.items = omega arith in
    story_looked d.own d.areas.items d.made d.notes c.args.area c.index_mut.result.now c.read.new.self lt c.index_mut.ensures.value d.dated c.next_made-after.result c.next_made-after.ensures (λ x. x) c.in-Ok-Failed.ensures.grew c.args.at c.args.into.now c.read.new.into read.Failed (λ x. refl) tt

pub returns-in-Err-clause-looked : goal.returns-in-Err-clause-looked
returns-in-Err-clause-looked c =
    let d = c.args.self.now in
    let lt : c.args.area < length d.areas.items = omega arith in
    let old = areas_story d.own d.areas.items d.made d.notes in
    subst (λ (s : Story). Looked c.args.area c.args.at c.args.into.now c.read.new.into read.Failed old s) (sym (same_story d.own d.areas.items d.made d.notes c.args.area c.index_mut.result.now c.read.new.self lt c.index_mut.ensures.value d.dated c.in-Err.ensures.refused)) (looked_nothing c.args.area c.args.at c.args.into.now c.read.new.into old (areas_lawful d.own d.areas.items d.made d.notes d.dated))
