use Rattle.std.proofs.Common.{◌≡◌, drop}
use Rattle.page_model.specs.Check as check
use Rattle.plain_images.specs.Pages.{pairs_of, word_fits}
use Rattle.plain_images.proofs.tree.are_words.Given as goal

abbrev pub invariant-loop-pair : goal.invariant-loop-pair
invariant-loop-pair l = check.all (word_fits l.fn.pages l.level) (pairs_of l.pairs) ≡ check.all (word_fits l.fn.pages l.level) (pairs_of (drop l.pair-index l.pairs))
