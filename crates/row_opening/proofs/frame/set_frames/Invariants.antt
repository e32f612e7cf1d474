use Rattle.std.specs.Prelude.{slice_get}
use Rattle.row_opening.specs.Inside.{frame_row, AreTiled}
use Rattle.row_opening.proofs.frame.set_frames.Given as goal

abbrev pub invariant-loop-frame : goal.invariant-loop-frame
invariant-loop-frame l = AreTiled (λ p. frame_row (slice_get l.pages p)) l.first 129 l.frame l.fn.words l.words
