use Rattle.std.proofs.Common.{◌∙◌, arith}
use Rattle.node_tree.proofs.PairLemmas.{fence-next, fence-last}
use Rattle.node_tree.proofs.check.fence_behind.Goals as goal

pub returns-then-i-count : goal.returns-then-i-count
returns-then-i-count c = c.key_at.ensures ∙ fence-next c.args.node.now.node.pairs c.args.node.now.node.high c.args.i (omega arith)

pub returns-else-i-count : goal.returns-else-i-count
returns-else-i-count c = c.high.ensures ∙ fence-last c.args.node.now.node.pairs c.args.node.now.node.high c.args.i c.requires (omega arith)
