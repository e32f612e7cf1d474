use Rattle.std.proofs.Common.{drop}
use Rattle.page_model.specs.Pairs as pairs
use Rattle.plain_images.specs.Pages.{pairs_of}
use Rattle.plain_images.proofs.LoopFacts.{HasMade}
use Rattle.plain_images.proofs.pairs.below.Given as goal

abbrev pub invariant-loop-pair : goal.invariant-loop-pair
invariant-loop-pair l = HasMade l.below.items (pairs.below l.sep (pairs_of (drop l.pair-index l.pairs))) (pairs.below l.sep (pairs_of l.pairs))
