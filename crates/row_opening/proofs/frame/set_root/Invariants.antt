use Rattle.row_opening.specs.Inside.{root_row, AreTiled}
use Rattle.row_opening.proofs.frame.set_root.Given as goal

abbrev pub invariant-loop-frame : goal.invariant-loop-frame
invariant-loop-frame l = AreTiled (root_row l.root) l.first 129 l.frame l.fn.words l.words
