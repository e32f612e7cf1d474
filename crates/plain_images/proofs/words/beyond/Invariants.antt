use Rattle.std.proofs.Common.{drop, not, ℕ}
use Rattle.page_model.specs.Pairs as pairs
use Rattle.page_model.specs.Nodes.{holds}
use Rattle.plain_images.specs.Pages.{node_of, pairs_of}
use Rattle.plain_images.proofs.LoopFacts.{HasMade}
use Rattle.plain_images.proofs.words.beyond.Given as goal

abbrev pub invariant-loop-pair : goal.invariant-loop-pair
invariant-loop-pair l =
    let g = λ (k : ℕ). not (holds (node_of l.node) k) in
    HasMade l.beyond.items (pairs.keep g (pairs_of (drop l.pair-index l.words))) (pairs.keep g (pairs_of l.words))
