use Rattle.std.proofs.Common.{◌≡◌, drop}
use Rattle.page_model.specs.Pairs as pairs
use Rattle.page_model.specs.Check as check
use Rattle.plain_images.specs.Pages.{node_of, pairs_of, nodes}
use Rattle.plain_images.proofs.tree.has_children.Given as goal

abbrev pub invariant-loop-place : goal.invariant-loop-place
invariant-loop-place l =
    let g = λ (s : pairs.Span). check.is_child (node_of l.node) (nodes l.pages s.child) s in
    check.all g (pairs.spans (pairs_of l.node.pairs.items) l.node.high) ≡ check.all g (pairs.spans (pairs_of (drop l.place l.node.pairs.items)) l.node.high)
