use Rattle.std.proofs.Common.{◌≡◌, drop}
use Rattle.page_model.specs.Pairs as pairs
use Rattle.plain_images.proofs.pairs.is_in.Given as goal

abbrev pub invariant-loop-other : goal.invariant-loop-other
invariant-loop-other l = pairs.is_in l.key l.keys ≡ pairs.is_in l.key (drop l.other-index l.keys)
