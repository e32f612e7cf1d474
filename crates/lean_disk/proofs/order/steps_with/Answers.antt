use Rattle.std.proofs.Common.{◌≡◌, ◌∙◌, ◌+◌, Bool, sym, ap, drop, get_or, if◌then◌else◌, true, false}
use Rattle.lean_disk.specs.declared.area_log.Call.{Call}
use Rattle.lean_disk.specs.Inside.Steps.{step_together, steps_with}
use Rattle.lean_disk.proofs.StepLemmas.{with_drop}
use Rattle.lean_disk.proofs.order.steps_with.Goals as goal

pub returns-then-not-step_together : goal.returns-then-not-step_together
returns-then-not-step_together c =
    let xs = c.args.calls.now in
    let i = c.loop-other.other-index in
    let other = c.other-item.result in
    let here : step_together c.args.call.now (get_or xs i other) ≡ false = ap (λ (s : Call). step_together c.args.call.now s) (sym c.other-item.is) ∙ sym c.step_together.ensures ∙ c.if-not-step_together.true in
    sym (sym c.loop-other.invariant ∙ with_drop c.args.call.now xs i other c.loop-other-test.true ∙ ap (λ (h : Bool). if h then steps_with c.args.call.now (drop (i + 1) xs) else false) here)

pub loop-other-preserved : goal.loop-other-preserved
loop-other-preserved c =
    let xs = c.args.calls.now in
    let i = c.loop-other.other-index in
    let other = c.other-item.result in
    let here : step_together c.args.call.now (get_or xs i other) ≡ true = ap (λ (s : Call). step_together c.args.call.now s) (sym c.other-item.is) ∙ sym c.step_together.ensures ∙ c.if-not-step_together.false in
    sym (sym c.loop-other.invariant ∙ with_drop c.args.call.now xs i other c.loop-other-test.true ∙ ap (λ (h : Bool). if h then steps_with c.args.call.now (drop (i + 1) xs) else false) here)
