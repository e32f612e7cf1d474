use Rattle.std.proofs.Common.{◌≡◌, ◌∙◌, ◌+◌, Bool, sym, ap, drop, get_or, if◌then◌else◌, true, false}
use Rattle.lean_disk.specs.declared.area_log.Call.{Call}
use Rattle.lean_disk.specs.Inside.Steps.{lines_step, steps_with}
use Rattle.lean_disk.proofs.StepLemmas.{lines_drop}
use Rattle.lean_disk.proofs.order.lines_step.Goals as goal

pub returns-then-not-steps_with : goal.returns-then-not-steps_with
returns-then-not-steps_with c =
    let xs = c.args.calls.now in
    let i = c.loop-call.call-index in
    let call = c.call-item.result in
    let here : steps_with (get_or xs i call) c.args.others.now ≡ false = ap (λ (s : Call). steps_with s c.args.others.now) (sym c.call-item.is) ∙ sym c.steps_with.ensures ∙ c.if-not-steps_with.true in
    sym (sym c.loop-call.invariant ∙ lines_drop xs c.args.others.now i call c.loop-call-test.true ∙ ap (λ (h : Bool). if h then lines_step (drop (i + 1) xs) c.args.others.now else false) here)

pub loop-call-preserved : goal.loop-call-preserved
loop-call-preserved c =
    let xs = c.args.calls.now in
    let i = c.loop-call.call-index in
    let call = c.call-item.result in
    let here : steps_with (get_or xs i call) c.args.others.now ≡ true = ap (λ (s : Call). steps_with s c.args.others.now) (sym c.call-item.is) ∙ sym c.steps_with.ensures ∙ c.if-not-steps_with.false in
    sym (sym c.loop-call.invariant ∙ lines_drop xs c.args.others.now i call c.loop-call-test.true ∙ ap (λ (h : Bool). if h then lines_step (drop (i + 1) xs) c.args.others.now else false) here)
