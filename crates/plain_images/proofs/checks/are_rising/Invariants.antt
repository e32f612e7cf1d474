use Rattle.std.proofs.Common.{◌≡◌, ◌++◌, drop}
use Rattle.page_model.specs.Check as check
use Rattle.plain_images.specs.Pages.{pairs_of}
use Rattle.plain_images.proofs.checks.are_rising.Given as goal

abbrev pub invariant-loop-pair : goal.invariant-loop-pair
invariant-loop-pair l = check.is_rising l.low (pairs_of l.left ++ pairs_of l.right) l.high ≡ check.is_rising l.from (pairs_of (drop l.pair-index l.left) ++ pairs_of l.right) l.high
