use Rattle.std.proofs.Common.{drop}
use Rattle.page_model.specs.Pairs as pairs
use Rattle.plain_images.specs.Pages.{pairs_of}
use Rattle.plain_images.proofs.LoopFacts.{HasMade}
use Rattle.plain_images.proofs.pairs.without.Given as goal

abbrev pub invariant-loop-pair : goal.invariant-loop-pair
invariant-loop-pair l = HasMade l.without.items (pairs.without l.sep (pairs_of (drop l.pair-index l.pairs))) (pairs.without l.sep (pairs_of l.pairs))
