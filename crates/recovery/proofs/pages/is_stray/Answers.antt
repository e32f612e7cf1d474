use Rattle.std.proofs.Common.{◌+◌, ◌-◌, IsTrue, sym, subst}
use Rattle.lean_disk.specs.Story.{areas_of}
use Rattle.master_store.specs.page_store.Slots.{HoldsIn, IsHeldOf, slot_bytes}
use Rattle.master_store.specs.page_store.declared.slot.Bounds.{Bounds}
use Rattle.recovery.proofs.StrayLemmas.{seen_no_page}
use Rattle.recovery.proofs.pages.is_stray.Goals as goal

pub returns-in-Ok-NoPage-clause-answer : goal.returns-in-Ok-NoPage-clause-answer
returns-in-Ok-NoPage-clause-answer g c told is =
    let s0 = g.P.Part.story c.args.dev.now in
    let base = c.args.seen.now.base in
    let m = c.args.master.now in
    let b : Bounds = record { pages = m.pages; generation = m.generation + 1 } in
    let e = c.in-Ok-NoPage.ensures in
    let seat = c.requires.seat in
    let holds : HoldsIn b c.args.page (slot_bytes c.args.page c.spare.result (s0.area 1).bytes) c.in-Ok-NoPage.field-0 =
    subst (λ a. HoldsIn b c.args.page (slot_bytes c.args.page c.spare.result (s0.area a).bytes) c.in-Ok-NoPage.field-0) seat (e.answer (subst (λ a. IsTrue (s0.tells a)) (sym seat) told)) in
    let other : HoldsIn b c.args.page (slot_bytes c.args.page (1 - base.slot) (s0.area 1).bytes) c.in-Ok-NoPage.field-0 =
    subst (λ i. HoldsIn b c.args.page (slot_bytes c.args.page i (s0.area 1).bytes) c.in-Ok-NoPage.field-0) c.spare.ensures.answer holds in
    seen_no_page m c.args.page (areas_of s0) base c.every_seal.ensures c.args.seen.now.ahead c.if-not-seen.false is c.in-Ok-NoPage.field-0-0
    (subst (HoldsIn b c.args.page (slot_bytes c.args.page (1 - base.slot) (s0.area 1).bytes)) c.in-Ok-NoPage.field-0-is other)
    (subst (IsHeldOf b c.args.page) c.in-Ok-NoPage.field-0-is e.own)
