use Rattle.std.proofs.Common.{◌≡◌, ◌∙◌, ◌+◌, Bool, sym, ap, drop, get_or, if◌then◌else◌, true, false}
use Rattle.lean_disk.specs.Memory.{slot_view}
use Rattle.lean_disk.specs.declared.slot.Slot.{Slot}
use Rattle.lean_disk.specs.Inside.Steps.{areas_step, lines_step}
use Rattle.lean_disk.proofs.StepLemmas.{areas_drop}
use Rattle.lean_disk.proofs.order.areas_step.Goals as goal

pub returns-then-not-lines_step : goal.returns-then-not-lines_step
returns-then-not-lines_step c =
    let xs = c.args.areas.now in
    let i = c.loop-slot.slot-index in
    let slot = c.slot-item.result in
    let here : lines_step c.args.calls.now (slot_view (get_or xs i slot)).line ≡ false = ap (λ (s : Slot). lines_step c.args.calls.now (slot_view s).line) (sym c.slot-item.is) ∙ ap (lines_step c.args.calls.now) (sym c.calls.ensures) ∙ sym c.lines_step.ensures ∙ c.if-not-lines_step.true in
    sym (sym c.loop-slot.invariant ∙ areas_drop c.args.calls.now xs i slot c.loop-slot-test.true ∙ ap (λ (h : Bool). if h then areas_step c.args.calls.now (drop (i + 1) xs) else false) here)

pub loop-slot-preserved : goal.loop-slot-preserved
loop-slot-preserved c =
    let xs = c.args.areas.now in
    let i = c.loop-slot.slot-index in
    let slot = c.slot-item.result in
    let here : lines_step c.args.calls.now (slot_view (get_or xs i slot)).line ≡ true = ap (λ (s : Slot). lines_step c.args.calls.now (slot_view s).line) (sym c.slot-item.is) ∙ ap (lines_step c.args.calls.now) (sym c.calls.ensures) ∙ sym c.lines_step.ensures ∙ c.if-not-lines_step.false in
    sym (sym c.loop-slot.invariant ∙ areas_drop c.args.calls.now xs i slot c.loop-slot-test.true ∙ ap (λ (h : Bool). if h then areas_step c.args.calls.now (drop (i + 1) xs) else false) here)
