use Rattle.std.proofs.Common.{◌≡◌, ℕ, vec_len}
use Rattle.plain_core.specs.Tables.{at, found}
use Rattle.plain_core.proofs.table.Table.set_all.Given as goal

abbrev pub invariant-loop-change : goal.invariant-loop-change
invariant-loop-change g l = (i : ℕ) → found l.newer.items (at l.self i) i ≡ found l.initial.newer.items (at l.fn.self i) i

abbrev pub decreases-loop-change : goal.decreases-loop-change
decreases-loop-change g l = vec_len l.newer
