use Rattle.recovery_redo.proofs.RedoLemmas.{IsRedoing}
use Rattle.recovery_redo.proofs.redo.redo.Given as goal

abbrev pub invariant-loop-i : goal.invariant-loop-i
invariant-loop-i l = IsRedoing l.fn.pages l.pages l.fn.changed l.changed l.index l.counted l.i
