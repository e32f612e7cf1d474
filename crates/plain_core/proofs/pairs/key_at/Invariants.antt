use Rattle.std.proofs.Common.{◌≡◌, map, drop}
use Rattle.page_model.specs.Needs.{key_at}
use Rattle.plain_images.specs.Pages.{pair_of}
use Rattle.plain_core.proofs.pairs.key_at.Given as goal

abbrev pub invariant-loop-pair : goal.invariant-loop-pair
invariant-loop-pair l = key_at l.place (map pair_of l.pairs) ≡ key_at l.left (map pair_of (drop l.pair-index l.pairs))
