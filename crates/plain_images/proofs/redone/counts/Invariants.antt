use Rattle.std.proofs.Common.{◌≡◌, drop}
use Rattle.plain_images.specs.Images.{counted}
use Rattle.plain_images.proofs.redone.counts.Given as goal

abbrev pub invariant-loop-mark : goal.invariant-loop-mark
invariant-loop-mark l = counted l.marks l.log l.number ≡ counted (drop l.mark-index l.marks) l.log l.number
