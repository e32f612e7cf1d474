use Rattle.recovery_redo.proofs.TopLemmas.{IsAtopOf}
use Rattle.recovery_redo.proofs.recover.base_number.Given as goal

abbrev pub invariant-loop-node : goal.invariant-loop-node
invariant-loop-node l = IsAtopOf l.top l.pages l.node-index l.most
