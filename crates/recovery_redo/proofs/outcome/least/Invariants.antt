use Rattle.std.proofs.Common.{◌≡◌}
use Rattle.rfa_model.specs.Reaches.{reach_of}
use Rattle.recovery_redo.specs.Inside.{number_in}
use Rattle.recovery_redo.proofs.outcome.least.Given as goal

abbrev pub invariant-loop-log : goal.invariant-loop-log
invariant-loop-log l = l.far ≡ reach_of l.log l.floor (number_in l.greatest)
