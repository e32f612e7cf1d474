use Rattle.std.proofs.Common.{◌≡◌, map, drop}
use Rattle.page_model.specs.Check as check
use Rattle.plain_images.specs.Pages.{pair_of}
use Rattle.plain_core.proofs.pairs.is_rising.Given as goal

abbrev pub invariant-loop-pair : goal.invariant-loop-pair
invariant-loop-pair l = check.is_rising l.low (map pair_of l.pairs) l.high ≡ check.is_rising l.from (map pair_of (drop l.pair-index l.pairs)) l.high
