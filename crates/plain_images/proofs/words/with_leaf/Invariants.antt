use Rattle.std.proofs.Common.{ℕ, not}
use Rattle.page_model.specs.Pairs.{keep}
use Rattle.page_model.specs.Nodes.{holds}
use Rattle.plain_images.specs.Pages.{node_of, pairs_of}
use Rattle.plain_images.proofs.LoopFacts.{IsLeafOnto}
use Rattle.plain_images.proofs.words.with_leaf.Given as goal

abbrev pub invariant-loop-left : goal.invariant-loop-left
invariant-loop-left l = IsLeafOnto (node_of l.node) l.node.pairs.items (keep (λ (k : ℕ). not (holds (node_of l.node) k)) (pairs_of l.words)) l.left (pairs_of l.with.items)

abbrev pub decreases-loop-left : goal.decreases-loop-left
decreases-loop-left l = l.left
