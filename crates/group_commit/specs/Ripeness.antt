-- When a commit is durable, by the numbers up to which logs 1, 2, .. are flushed.
use Rattle.std.specs.Prelude.{ℕ, suc, ◌-◌, leb, List, [], ◌∷◌, slice_index, if◌then◌else◌}
use Rattle.group_commit.specs.declared.receipts.Receipt.{Receipt}
use Rattle.group_commit.specs.declared.receipts.Ripeness.{Ripeness}
use Rattle.group_commit.specs.declared.receipts.Ripeness.TheVariants.{Durable, Waits}

-- the number up to which log w is flushed
abbrev pub flushed_of : List ℕ → ℕ → ℕ
flushed_of fs w = slice_index fs (w - 1)

-- of logs from this one on, the first that is not flushed up to the need, if there is one
abbrev pub waits_from : (log need : ℕ) → List ℕ → Ripeness
waits_from log need [] = Durable
waits_from log need (f ∷ fs) = if leb need f then waits_from (suc log) need fs else Waits log f

-- It waits for its own log, and then for the first that is below what it needs.
abbrev pub ripeness_of : List ℕ → Receipt → Ripeness
ripeness_of fs r = if leb r.gsn (flushed_of fs r.log) then waits_from 1 r.need fs else Waits r.log (flushed_of fs r.log)
