use Rattle.std.proofs.Common.{drop}
use Rattle.plain_core.specs.Records.{page_of}
use Rattle.plain_core.proofs.Meanings.{HasMeant}
use Rattle.plain_core.proofs.table.Table+Page.copy.Given as goal

abbrev pub invariant-loop-change : goal.invariant-loop-change
invariant-loop-change l = HasMeant page_of page_of l.changes.items (drop l.change-index l.self.changes.items) l.self.changes.items
