use Rattle.std.proofs.Common.{◌≡◌, drop}
use Rattle.plain_core.specs.Tables.{found}
use Rattle.plain_core.proofs.table.Table.get.Given as goal

abbrev pub invariant-loop-change : goal.invariant-loop-change
invariant-loop-change g l = found l.self.changes.items l.self.default l.place ≡ found (drop l.change-index l.self.changes.items) l.self.default l.place
