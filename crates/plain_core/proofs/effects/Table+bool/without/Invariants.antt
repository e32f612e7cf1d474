use Rattle.std.proofs.Common.{◌≡◌, ◌++◌, drop}
use Rattle.plain_core.proofs.effects.Table+bool.without.Given as goal

abbrev pub invariant-loop-change : goal.invariant-loop-change
invariant-loop-change l = l.changes.items ++ drop l.change-index l.self.changes.items ≡ l.self.changes.items
