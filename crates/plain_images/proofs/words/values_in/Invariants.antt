use Rattle.std.proofs.Common.{drop}
use Rattle.plain_images.specs.Pages.{pairs_of, format_of}
use Rattle.plain_images.specs.Words as listed
use Rattle.plain_images.proofs.LoopFacts.{HasMade}
use Rattle.plain_images.proofs.words.values_in.Given as goal

abbrev pub invariant-loop-pair : goal.invariant-loop-pair
invariant-loop-pair l = HasMade l.values.items (listed.values_in (format_of 0) (pairs_of (drop l.pair-index l.words))) (listed.values_in (format_of 0) (pairs_of l.words))
