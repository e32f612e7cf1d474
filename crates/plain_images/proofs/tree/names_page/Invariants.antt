use Rattle.std.proofs.Common.{◌≡◌, drop, ◌==◌}
use Rattle.page_model.specs.Pairs as pairs
use Rattle.page_model.specs.Records.{any}
use Rattle.plain_images.specs.Pages.{pairs_of}
use Rattle.plain_images.proofs.tree.names_page.Given as goal

abbrev pub invariant-loop-pair : goal.invariant-loop-pair
invariant-loop-pair l =
    let g = λ (s : pairs.Span). s.child == l.page in
    any g (pairs.spans (pairs_of l.node.pairs.items) l.node.high) ≡ any g (pairs.spans (pairs_of (drop l.pair-index l.node.pairs.items)) l.node.high)
