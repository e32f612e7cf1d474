use Rattle.std.proofs.Common.{◌≡◌, ◌<◌, ◌+◌, ◌∙◌, length, sym, ap, arith, false, IsTrue, set}
use Rattle.lean_disk.specs.Memory.{all_own, slot_view, view_at}
use Rattle.lean_disk.specs.Inside.Kept.{is_late}
use Rattle.lean_disk.specs.Inside.Slots.{view_get}
use Rattle.lean_disk.proofs.LoanLemmas.{split_counts, split_dated, split_in_step, part_dated, areas_split}
use Rattle.lean_disk.proofs.mem_disk.MemDiskDisk.split.Goals as goal

pub invariant_of-self : goal.invariant_of-self
invariant_of-self c =
    let d = c.args.self.now in
    let some : 0 < length d.areas.items = omega (arith, d.some) in
    let lt : c.args.area < length d.areas.items = (c.requires.here some).0 in
    record { some = d.some; dated = split_dated d.own d.areas.items d.made d.notes c.args.area c.replace.new.dest lt c.replace.ensures.after d.dated; in_step = λ is. split_in_step d.own d.areas.items d.made d.notes c.args.area c.replace.new.dest lt c.replace.ensures.after d.dated (d.in_step is) }

pub unreachable-requires : goal.unreachable-requires
unreachable-requires c =
    let d = c.args.self.now in
    let some : 0 < length d.areas.items = omega (arith, d.some) in
    let lt : c.args.area < length d.areas.items = (c.requires.here some).0 in
    let told : IsTrue (view_at d.areas.items c.args.area).here = (c.requires.here some).1 in
    let was : (view_at d.areas.items c.args.area).here ≡ false =
    ap (λ v. v.here) (view_get d.areas.items c.args.area c.index_mut.result.now lt ∙ ap slot_view (sym c.index_mut.ensures.value) ∙ ap slot_view (sym c.in-Out.ensures.value)) in
    cc

pub invariant_of-result : goal.invariant_of-result
invariant_of-result c =
    let d = c.args.self.now in
    let some : 0 < length d.areas.items = omega (arith, d.some) in
    let lt : c.args.area < length d.areas.items = (c.requires.here some).0 in
    record { dated = part_dated d.own d.areas.items d.made d.notes c.args.area c.replace.new.dest lt c.in-Here.ensures.after d.dated c.index_mut.result.now c.in-Here.log c.index_mut.ensures.value (sym c.in-Here.ensures.value) }

pub returns-clause-split : goal.returns-clause-split
returns-clause-split c =
    let d = c.args.self.now in
    let some : 0 < length d.areas.items = omega (arith, d.some) in
    let lt : c.args.area < length d.areas.items = (c.requires.here some).0 in
    areas_split d.own d.areas.items d.made d.notes c.args.area c.replace.new.dest lt c.in-Here.ensures.after d.dated c.index_mut.result.now c.in-Here.log c.index_mut.ensures.value (sym c.in-Here.ensures.value)

pub returns-clause-since : goal.returns-clause-since
returns-clause-since c told =
    let d = c.args.self.now in
    let some : 0 < length d.areas.items = omega (arith, d.some) in
    let lt : c.args.area < length d.areas.items = (c.requires.here some).0 in
    sym (ap (λ n. d.made + d.notes + n) (is_late (all_own d.own (set d.areas.items c.args.area c.replace.new.dest)) (split_counts d.own d.areas.items d.made d.notes c.args.area c.replace.new.dest lt c.in-Here.ensures.after d.dated)))
