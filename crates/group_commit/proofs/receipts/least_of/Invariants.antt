use Rattle.std.proofs.Common.{◌≡◌}
use Rattle.rfa_model.specs.Reaches.{least}
use Rattle.group_commit.specs.Ripeness.{flushed_of}
use Rattle.group_commit.proofs.receipts.least_of.Given as goal

abbrev pub invariant-loop-number : goal.invariant-loop-number
invariant-loop-number l = l.found ≡ least (flushed_of l.flushed) l.number-index
