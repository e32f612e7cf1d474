use Rattle.plain_images.specs.Images.{redone_of}
use Rattle.plain_images.proofs.LoopFacts.{IsRedone}
use Rattle.plain_images.proofs.redone.redo.Given as goal

abbrev pub invariant-loop-left : goal.invariant-loop-left
invariant-loop-left l = IsRedone l.bases l.records l.left (redone_of l.bases l.redone)

abbrev pub decreases-loop-left : goal.decreases-loop-left
decreases-loop-left l = l.left
