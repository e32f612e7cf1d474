use Rattle.recovery_redo.proofs.UndoLemmas.{IsUndoing}
use Rattle.recovery_redo.proofs.undo.undo.Given as goal

abbrev pub invariant-loop-left : goal.invariant-loop-left
invariant-loop-left l = IsUndoing l.fn.pages l.pages l.fn.changed l.changed l.index l.counted l.ended l.left

abbrev pub decreases-loop-left : goal.decreases-loop-left
decreases-loop-left l = l.left
