use Rattle.std.proofs.Common.{◌≡◌, ◌∙◌, ◌+◌, Bool, sym, ap, drop, get_or, if◌then◌else◌, true, false}
use Rattle.lean_disk.specs.Memory.{all_here, slot_view}
use Rattle.lean_disk.specs.declared.slot.Slot.{Slot}
use Rattle.lean_disk.proofs.BeginLemmas.{whole_drop}
use Rattle.lean_disk.proofs.slots.is_whole.Goals as goal

pub returns-then-not-is_here : goal.returns-then-not-is_here
returns-then-not-is_here c =
    let areas = c.args.areas.now in
    let i = c.loop-slot.slot-index in
    let slot = c.slot-item.result in
    let here : (slot_view (get_or areas i slot)).here ≡ false = ap (λ (s : Slot). (slot_view s).here) (sym c.slot-item.is) ∙ sym c.is_here.ensures ∙ c.if-not-is_here.true in
    sym (sym c.loop-slot.invariant ∙ whole_drop areas i slot c.loop-slot-test.true ∙ ap (λ (h : Bool). if h then all_here (drop (i + 1) areas) else false) here)

pub loop-slot-preserved : goal.loop-slot-preserved
loop-slot-preserved c =
    let areas = c.args.areas.now in
    let i = c.loop-slot.slot-index in
    let slot = c.slot-item.result in
    let here : (slot_view (get_or areas i slot)).here ≡ true = ap (λ (s : Slot). (slot_view s).here) (sym c.slot-item.is) ∙ sym c.is_here.ensures ∙ c.if-not-is_here.false in
    sym (sym c.loop-slot.invariant ∙ whole_drop areas i slot c.loop-slot-test.true ∙ ap (λ (h : Bool). if h then all_here (drop (i + 1) areas) else false) here)
