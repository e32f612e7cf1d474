use Rattle.std.proofs.Common.{◌+◌, ◌-◌, max, get_or, refl, ◌∙◌, ap, arith}
use Rattle.recovery_redo.proofs.LogLemmas.{nothing}
use Rattle.recovery_redo.proofs.OutcomeLemmas.{greatest_more}
use Rattle.recovery_redo.proofs.outcome.find_greatest.Goals as goal

pub loop-i-preserved : goal.loop-i-preserved
loop-i-preserved c =
    let k = c.loop-i.i in
    let row = c.loop-i.greatest in
    let h = c.head_in-head.ensures.head nothing in
    let same = h.2 in
    let w = c.head_in-head.ensures.log in
    let some = w.0 in let most = w.1 in
    greatest_more c.args.index.now k (k + 1) (get_or c.args.index.now k nothing) nothing row (c.head_in-head.result.log - 1) c.max.result
    (omega arith) (let l = c.loop-i-test.true in let e = c.len-i-end.ensures in omega arith) refl (omega arith) (omega arith) (omega arith)
    (c.max.ensures ∙ ap (max (get_or row (c.head_in-head.result.log - 1) 0)) h.0) c.loop-i.invariant
