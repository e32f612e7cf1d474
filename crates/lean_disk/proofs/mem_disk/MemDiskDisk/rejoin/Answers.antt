use Rattle.std.proofs.Common.{◌≡◌, ◌<◌, ◌∙◌, List, subst, length, sym, ap, arith, true}
use Rattle.lean_disk.specs.Memory.{all_own}
use Rattle.lean_disk.specs.Inside.Over.{IsNewest}
use Rattle.lean_disk.specs.Inside.Steps.{stays_own}
use Rattle.lean_disk.specs.declared.area_log.Call.{Call}
use Rattle.lean_disk.specs.declared.slot.Slot.{Slot}
use Rattle.lean_disk.specs.Inside.Slots.{out_inside}
use Rattle.lean_disk.proofs.LoanLemmas.{still_dated, areas_rejoined, end_dated, round_ended, back_in_step}
use Rattle.lean_disk.proofs.StepLemmas.{own_is}
use Rattle.lean_disk.proofs.mem_disk.MemDiskDisk.rejoin.Goals as goal

pub index_mut-requires : goal.index_mut-requires
index_mut-requires c =
    let d = c.args.self.now in
    let some : 0 < length d.areas.items = omega (arith, d.some) in
    let lt : c.args.area < length d.areas.items = out_inside d.areas.items c.args.area (c.requires.out some).0 in
    omega (arith, lt)

pub invariant_of-self : goal.invariant_of-self
invariant_of-self c =
    let d = c.args.self.now in
    let p = c.args.part in
    let some : 0 < length d.areas.items = omega (arith, d.some) in
    let out = (c.requires.out some).0 in
    let told = (c.requires.out some).1 in
    record {
      some = d.some;
      dated = still_dated d.own c.stays_own-self.result d.areas.items d.made d.notes c.args.area p.area p.made p.notes p.log out c.requires.seat (c.requires.notes told) (c.requires.since told) d.dated p.dated (sym (ap (all_own c.stays_own-self.result) c.deref-3.ensures.value) ∙ sym c.is_told.ensures ∙ c.if-not-is_told.true);
      in_step = λ (is : c.stays_own-self.result ≡ true).
          let fits : stays_own d.own p.log.calls.items d.areas.items ≡ true = sym (ap (λ (l : List Call). stays_own d.own l d.areas.items) c.deref.ensures.value)
          ∙ sym (ap (λ (xs : List Slot). stays_own d.own c.deref.result.now xs) c.deref-2.ensures.value) ∙ sym c.stays_own-self.ensures ∙ is in
          let own = own_is d.own p.log.calls.items d.areas.items fits in
          back_in_step d.own c.stays_own-self.result d.areas.items d.made d.notes c.args.area p.area p.made p.notes p.log out c.requires.seat (c.requires.notes told) (c.requires.since told) d.dated p.dated own.itself own.others (d.in_step own.before);
    }

pub returns-then-not-is_told-clause-rejoined : goal.returns-then-not-is_told-clause-rejoined
returns-then-not-is_told-clause-rejoined c =
    let d = c.args.self.now in
    let p = c.args.part in
    let some : 0 < length d.areas.items = omega (arith, d.some) in
    let out = (c.requires.out some).0 in
    let told = (c.requires.out some).1 in
    areas_rejoined d.own c.stays_own-self.result d.areas.items d.made d.notes c.args.area p.area p.made p.notes p.log out c.requires.seat (c.requires.notes told) (c.requires.since told) d.dated p.dated

pub invariant_of-self-2 : goal.invariant_of-self-2
invariant_of-self-2 c =
    let d = c.args.self.now in
    let p = c.args.part in
    let some : 0 < length d.areas.items = omega (arith, d.some) in
    let out = (c.requires.out some).0 in
    let told = (c.requires.out some).1 in
    record {
      some = d.some;
      dated = end_dated d.own c.stays_own-self.result d.areas.items d.made d.notes c.args.area p.area p.made p.notes p.log out c.requires.seat (c.requires.notes told) (c.requires.since told) d.dated p.dated c.newest-self.result (sym (ap (all_own c.stays_own-self.result) c.deref-3.ensures.value) ∙ sym c.is_told.ensures ∙ c.if-not-is_told.false) (subst (λ (xs : List Slot). IsNewest d.made xs c.newest-self.result) c.deref-4.ensures.value c.newest-self.ensures);
      in_step = λ (is : c.stays_own-self.result ≡ true).
          let fits : stays_own d.own p.log.calls.items d.areas.items ≡ true = sym (ap (λ (l : List Call). stays_own d.own l d.areas.items) c.deref.ensures.value)
          ∙ sym (ap (λ (xs : List Slot). stays_own d.own c.deref.result.now xs) c.deref-2.ensures.value) ∙ sym c.stays_own-self.ensures ∙ is in
          let own = own_is d.own p.log.calls.items d.areas.items fits in
          back_in_step d.own c.stays_own-self.result d.areas.items d.made d.notes c.args.area p.area p.made p.notes p.log out c.requires.seat (c.requires.notes told) (c.requires.since told) d.dated p.dated own.itself own.others (d.in_step own.before);
    }

pub returns-clause-rejoined : goal.returns-clause-rejoined
returns-clause-rejoined c =
    let d = c.args.self.now in
    let p = c.args.part in
    let some : 0 < length d.areas.items = omega (arith, d.some) in
    let out = (c.requires.out some).0 in
    let told = (c.requires.out some).1 in
    round_ended d.own c.stays_own-self.result d.areas.items d.made d.notes c.args.area p.area p.made p.notes p.log out c.requires.seat (c.requires.notes told) (c.requires.since told) d.dated p.dated c.newest-self.result (sym (ap (all_own c.stays_own-self.result) c.deref-3.ensures.value) ∙ sym c.is_told.ensures ∙ c.if-not-is_told.false) (subst (λ (xs : List Slot). IsNewest d.made xs c.newest-self.result) c.deref-4.ensures.value c.newest-self.ensures)
