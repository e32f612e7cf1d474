use Rattle.plain_images.proofs.LoopFacts.{IsGreatest}
use Rattle.plain_images.proofs.ends.greatest.Given as goal

abbrev pub invariant-loop-left : goal.invariant-loop-left
invariant-loop-left l = IsGreatest l.log l.records l.left l.most

abbrev pub decreases-loop-left : goal.decreases-loop-left
decreases-loop-left l = l.left
