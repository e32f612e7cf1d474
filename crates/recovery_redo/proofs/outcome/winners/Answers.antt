use Rattle.std.proofs.Common.{◌≡◌, ◌+◌, cond, get_or, refl, ◌∙◌, ap, sym, arith}
use Rattle.recovery_redo.proofs.LogLemmas.{nothing}
use Rattle.recovery_redo.proofs.OutcomeLemmas.{winners_more}
use Rattle.recovery_redo.proofs.outcome.winners.Goals as goal
use Rattle.recovery_redo.proofs.outcome.winners.Goals.{then-wins, else-wins}

pub loop-i-preserved : goal.loop-i-preserved
loop-i-preserved c =
    let k = c.loop-i.i in
    let n = c.loop-i.winners in
    let made : c.if-wins.winners ≡ cond c.wins.result (n + 1) n =
    elim c.if-wins.branch [ then-wins w ↦ w.winners-is ∙ ap (λ b. cond b (n + 1) n) (sym w.if-wins.true) | else-wins w ↦ w.winners-is ∙ ap (λ b. cond b (n + 1) n) (sym w.if-wins.false) ] in (
      winners_more c.args.far c.args.index.now k (k + 1) (get_or c.args.index.now k nothing) nothing c.wins.result n c.if-wins.winners (omega arith) (let l = c.loop-i-test.true in let e = c.len-i-end.ensures in omega arith) refl c.loop-i.invariant.0 (c.wins.ensures nothing) made,
      elim c.if-wins.branch [ then-wins w ↦ omega (arith, c.loop-i.invariant.1, w.winners-is) | else-wins w ↦ omega (arith, c.loop-i.invariant.1, w.winners-is) ],
    )
