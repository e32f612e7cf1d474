use Rattle.std.proofs.Common.{◌≡◌, ℕ, length, slice_index_or, []}
use Rattle.mem_journal.specs.Logs.{records_of}
use Rattle.mem_journal.proofs.log.empty_logs.Given as goal

abbrev pub invariant-loop-log : goal.invariant-loop-log
invariant-loop-log l = (length l.logs.items ≡ l._log) × ((w : ℕ) → slice_index_or (records_of l.logs.items) w [] ≡ [])
