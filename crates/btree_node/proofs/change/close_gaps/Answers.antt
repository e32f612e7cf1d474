use Rattle.std.proofs.Common.{◌+◌, ◌*◌, get_or, set, sym, ◌∙◌, subst, arith}
use Rattle.btree_node.proofs.PurgeLemmas.{Closed, closed-gone, closed-kept}
use Rattle.btree_node.proofs.change.close_gaps.Goals as goal
use Rattle.btree_node.proofs.change.close_gaps.Goals.{then-not-has, else-not-has}

pub loop-i-preserved : goal.loop-i-preserved
loop-i-preserved c =
    let keys = c.args.keys.now in
    let os = c.args.words.now in
    let ws = c.loop-i.words in
    let i = c.loop-i.i in
    let kept = c.loop-i.kept in
    let us = set (set ws (6 + 2 * kept) (get_or ws (6 + 2 * i) 0)) (7 + 2 * kept) (get_or ws (7 + 2 * i) 0) in
    elim c.if-not-has.branch [
      | then-not-has w ↦
          subst (λ zs. Closed keys os zs (i + 1) c.if-not-has.kept) (sym w.words-is)
          (subst (λ k. Closed keys os us (i + 1) k) (sym w.kept-is) (closed-kept keys os ws i kept (omega arith) c.loop-i.invariant (sym c.has.ensures ∙ w.if-not-has.true)))
      | else-not-has w ↦
          subst (λ zs. Closed keys os zs (i + 1) c.if-not-has.kept) (sym w.words-is)
          (subst (λ k. Closed keys os ws (i + 1) k) (sym w.kept-is) (closed-gone keys os ws i kept c.loop-i.invariant (sym c.has.ensures ∙ w.if-not-has.false)))
    ]
