use Rattle.std.proofs.Common.{◌<◌, sym, ◌∙◌, length, arith}
use Rattle.std.proofs.lemmas.Bool.{lt-ltb}
use Rattle.node_tree.proofs.PairLemmas.{ordered_rising}
use Rattle.node_tree.proofs.form.is_rising.Goals as goal

pub returns-then-count-gt0 : goal.returns-then-count-gt0
returns-then-count-gt0 c =
    let v = c.args.node.now.node in
    let some : 0 < length v.pairs = omega arith in
    lt-ltb 0 c.count.result c.if-count-gt0.true ∙ sym (ordered_rising v.low v.high v.pairs some c.words.ensures.answer.fits.ordered)
