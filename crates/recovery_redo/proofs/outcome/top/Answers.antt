use Rattle.std.proofs.Common.{◌+◌, max, get_or, refl, ◌∙◌, ap, arith}
use Rattle.log_index.specs.declared.head.Head.{Head}
use Rattle.recovery_redo.proofs.LogLemmas.{nothing}
use Rattle.recovery_redo.proofs.OutcomeLemmas.{top_none, top_more, top_all}
use Rattle.recovery_redo.proofs.outcome.top.Goals as goal

pub loop-i-init : goal.loop-i-init
loop-i-init c = top_none c.args.floor

pub loop-i-preserved : goal.loop-i-preserved
loop-i-preserved c =
    let k = c.loop-i.i in
    top_more c.args.floor c.args.index.now k (k + 1) (get_or c.args.index.now k nothing) nothing c.loop-i.top c.max-top.result (omega arith) (let l = c.loop-i-test.true in let e = c.len-i-end.ensures in omega arith) refl c.loop-i.invariant
    (c.max-top.ensures ∙ ap (λ (h : Head). max c.loop-i.top h.number) (c.head.ensures nothing))

pub returns : goal.returns
returns c = top_all c.args.floor c.args.index.now c.loop-i.i c.loop-i.top (let l = c.loop-i-test.false in let e = c.len-i-end.ensures in omega arith) c.loop-i.invariant
