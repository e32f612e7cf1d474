use Rattle.std.proofs.Common.{length, drop}
use Rattle.plain_images.specs.Records.{entries_of}
use Rattle.plain_images.specs.Damages.{told, unordered_in}
use Rattle.plain_images.proofs.LoopFacts.{IsFirst}
use Rattle.plain_images.proofs.damages.unordered_among.Given as goal

abbrev pub invariant-loop-left : goal.invariant-loop-left
invariant-loop-left l = IsFirst (length l.log) l.left (told l.first) (unordered_in (entries_of (drop l.left l.log)))

abbrev pub decreases-loop-left : goal.decreases-loop-left
decreases-loop-left l = l.left
