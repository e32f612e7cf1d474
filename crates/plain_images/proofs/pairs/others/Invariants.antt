use Rattle.std.proofs.Common.{drop, not, ℕ}
use Rattle.page_model.specs.Pairs as pairs
use Rattle.plain_images.specs.Pages.{pairs_of}
use Rattle.plain_images.proofs.LoopFacts.{HasMade}
use Rattle.plain_images.proofs.pairs.others.Given as goal

abbrev pub invariant-loop-pair : goal.invariant-loop-pair
invariant-loop-pair l =
    let g = λ (k : ℕ). not (pairs.is_in k l.keys) in
    HasMade l.others.items (pairs.keep g (pairs_of (drop l.pair-index l.pairs))) (pairs.keep g (pairs_of l.pairs))
