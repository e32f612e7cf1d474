-- What a worker knows to outlast a crash, if its own log does.
use Rattle.std.specs.Prelude.{◌≡◌, ◌⊎◌, ◌≤◌, ℕ, max}
use Rattle.rfa_model.specs.Stamps.{owed, debt_at_begin, need_of}

-- The record (number, log) stands in the worker's own log, or is not above its debt, or is flushed everywhere. Of an end
-- record the same is said with its need for the debt.
abbrev pub Knows : (own debt flushed : ℕ) → (number log : ℕ) → Type 0
Knows own debt flushed number log = (log ≡ own) ⊎ (number ≤ max debt flushed)

-- Who touches a stamp knows it, where its floor is flushed everywhere; and nothing known is lost by a touch, by a begin,
-- by a flush, or from the worker to its end.
pub record EveryKnown : Type 0 where
  pub touched : (own floor debt flushed number log : ℕ) → floor ≤ flushed → ¬ (log ≡ 0) → Knows own (owed own floor debt number log) flushed number log
  pub at_touch : (own floor debt flushed : ℕ) (number log : ℕ) (n l : ℕ) → Knows own debt flushed n l → Knows own (owed own floor debt number log) flushed n l
  pub at_begin : (own debt flushed f n l : ℕ) → f ≤ flushed → Knows own debt flushed n l → Knows own (debt_at_begin debt f) flushed n l
  pub at_flush : (own debt flushed later n l : ℕ) → flushed ≤ later → Knows own debt flushed n l → Knows own debt later n l
  pub at_end : (own debt flushed f n l : ℕ) → f ≤ flushed → Knows own debt flushed n l → Knows own (need_of debt f) flushed n l
