use Rattle.std.proofs.Common.{◌≡◌, drop}
use Rattle.page_model.specs.Check as check
use Rattle.plain_images.specs.Pages.{pairs_of}
use Rattle.plain_images.proofs.tree.is_rising.Given as goal

abbrev pub invariant-loop-pair : goal.invariant-loop-pair
invariant-loop-pair l = check.is_rising l.low (pairs_of l.pairs) l.high ≡ check.is_rising l.from (pairs_of (drop l.pair-index l.pairs)) l.high
