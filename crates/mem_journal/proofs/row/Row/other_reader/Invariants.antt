use Rattle.std.proofs.Common.{◌≡◌, ◌<◌, ◌==◌, ℕ, true}
use Rattle.mem_journal.specs.Rows.{has_reader}
use Rattle.mem_journal.proofs.row.Row.other_reader.Given as goal

abbrev pub invariant-loop-v : goal.invariant-loop-v
invariant-loop-v l = (u : ℕ) → u < l.v → has_reader l.self.readers u ≡ true → (u == l.w) ≡ true
