use Rattle.std.proofs.Common.{◌≡◌, ◌<◌, ◌≤◌, ◌+◌, ◌*◌, ◌^◌, length, get_or, sym, ap, subst, ◌∙◌, arith}
use Rattle.row_opening.proofs.Links.{plain_long, turned_long, turned_at, turned_more}
use Rattle.row_opening.proofs.frame.link.Goals as goal

pub bounds-pairs-pair : goal.bounds-pairs-pair
bounds-pairs-pair c =
    let a = plain_long c.args.count c.args.pairs.now c.requires.plain in
    let b = ap length c.loop-pair.invariant ∙ turned_long c.loop-pair.pair c.args.pairs.now in
    let l = c.loop-pair-test.true in
    omega arith

pub bounds-pairs-pair-in-loop-pair : goal.bounds-pairs-pair-in-loop-pair
bounds-pairs-pair-in-loop-pair c =
    let a = plain_long c.args.count c.args.pairs.now c.requires.plain in
    let b = ap length c.loop-pair.invariant ∙ turned_long c.loop-pair.pair c.args.pairs.now in
    let l = c.loop-pair-test.true in
    omega arith

pub overflow_add-pairs : goal.overflow_add-pairs
overflow_add-pairs c =
    let a = subst (λ ws. get_or ws (2 * c.loop-pair.pair + 1) 0 < 2 ^ 63) (sym c.loop-pair.invariant) (turned_at c.args.count c.loop-pair.pair c.args.pairs.now c.requires.plain c.loop-pair-test.true) in
    omega arith

pub loop-pair-preserved : goal.loop-pair-preserved
loop-pair-preserved c = ap (λ ws. Rattle.std.proofs.Common.set ws (2 * c.loop-pair.pair + 1) (2 ^ 63 + get_or ws (2 * c.loop-pair.pair + 1) 0)) c.loop-pair.invariant
    ∙ turned_more c.args.count c.loop-pair.pair c.args.pairs.now c.requires.plain c.loop-pair-test.true
