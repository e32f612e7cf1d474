use Rattle.std.proofs.Common.{◌≤◌}
use Rattle.std.specs.Prelude.{vec_capacity}
use Rattle.recovery_redo.specs.Inside.{HasNone}
use Rattle.recovery_redo.proofs.txns.no_txns.Given as goal

abbrev pub invariant-loop : goal.invariant-loop
invariant-loop l = HasNone l.counter l.sets.items × (l.logs ≤ vec_capacity l.sets)
