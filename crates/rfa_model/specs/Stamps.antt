-- Stamps: the number and the log of a page's last record, or of a lock's last exclusive end. What a worker owes is the
-- greatest number of another log that it touched and that may not be flushed yet.
use Rattle.std.specs.Prelude.{if◌then◌else◌, ℕ, max, Bool, ◌&&◌, not, ltb, leb, ◌==◌}

-- The stamp (number, log) is above the worker's floor, and of the log of another; log 0 is none.
abbrev pub is_remote : (own floor : ℕ) → (number log : ℕ) → Bool
is_remote own floor number log = ltb floor number && (not (log == own) && not (log == 0))

-- the debt after the stamp was touched
abbrev pub owed : (own floor debt : ℕ) → (number log : ℕ) → ℕ
owed own floor debt number log = if is_remote own floor number log then max debt number else debt

-- the debt after a begin that found all logs flushed up to f
abbrev pub debt_at_begin : (debt f : ℕ) → ℕ
debt_at_begin debt f = if leb debt f then 0 else debt

-- what an end needs to be flushed everywhere, where all logs were found flushed up to f
abbrev pub need_of : (debt f : ℕ) → ℕ
need_of debt f = if ltb f debt then debt else 0
