use Rattle.std.proofs.Common.{◌≡◌}
use Rattle.row_opening.specs.Inside.{turned}
use Rattle.row_opening.proofs.frame.link.Given as goal

abbrev pub invariant-loop-pair : goal.invariant-loop-pair
invariant-loop-pair l = l.pairs ≡ turned l.pair l.fn.pairs
