use Rattle.std.proofs.Common.{◌≡◌, drop}
use Rattle.page_model.specs.Pairs.{find}
use Rattle.plain_images.specs.Pages.{pairs_of}
use Rattle.plain_images.proofs.pairs.find.Given as goal

abbrev pub invariant-loop-pair : goal.invariant-loop-pair
invariant-loop-pair l = find l.key (pairs_of l.pairs) ≡ find l.key (pairs_of (drop l.pair-index l.pairs))
