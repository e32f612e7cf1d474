use Rattle.std.proofs.Common.{drop}
use Rattle.plain_core.specs.Inside.{raised}
use Rattle.plain_core.specs.States.{worker_of}
use Rattle.plain_core.proofs.Meanings.{HasMeant}
use Rattle.plain_core.proofs.effects.Table+Worker.raise.Given as goal

abbrev pub invariant-loop-change : goal.invariant-loop-change
invariant-loop-change l = HasMeant worker_of (λ a. raised l.number (worker_of a)) l.changes.items (drop l.change-index l.fn.self.changes.items) l.fn.self.changes.items
