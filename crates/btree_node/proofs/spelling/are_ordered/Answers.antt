use Rattle.std.proofs.Common.{sym, ◌∙◌}
use Rattle.btree_node.proofs.OrderLemmas.{words-rise, words-from_rise}
use Rattle.btree_node.proofs.spelling.are_ordered.Goals as goal

pub returns : goal.returns
returns c = ((λ h. words-from_rise c.args.low c.args.high c.args.pairs.now c.requires (sym c.is_rising.ensures ∙ h)), (λ o. c.is_rising.ensures ∙ words-rise c.args.low c.args.high c.args.pairs.now c.requires o))
