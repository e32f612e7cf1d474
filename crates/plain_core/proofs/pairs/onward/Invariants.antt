use Rattle.std.proofs.Common.{◌≡◌, ◌++◌, map, drop}
use Rattle.page_model.specs.Pairs as paired
use Rattle.plain_images.specs.Pages.{pair_of}
use Rattle.plain_core.proofs.pairs.onward.Given as goal

abbrev pub invariant-loop-pair : goal.invariant-loop-pair
invariant-loop-pair l = map pair_of l.onward.items ++ paired.onward l.separator (map pair_of (drop l.pair-index l.pairs)) ≡ paired.onward l.separator (map pair_of l.pairs)
