use Rattle.std.proofs.Common.{drop}
use Rattle.page_model.specs.Pairs as pairs
use Rattle.plain_images.specs.Pages.{pairs_of}
use Rattle.plain_images.proofs.LoopFacts.{HasMade, put_in}
use Rattle.plain_images.proofs.pairs.put.Given as goal

abbrev pub invariant-loop-pair : goal.invariant-loop-pair
invariant-loop-pair l = HasMade l.put.items (put_in l.done l.key l.word (pairs_of (drop l.pair-index l.pairs))) (pairs.put l.key l.word (pairs_of l.pairs))
