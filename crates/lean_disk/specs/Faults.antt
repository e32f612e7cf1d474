-- Counts of faults.
use Rattle.std.specs.Prelude.{◌≡◌, ℕ, ◌+◌, ◌-◌, ◌≤◌, ◌^◌, min}

-- The count of faults has risen, or stands at its type's end.
abbrev pub Rose : ℕ → ℕ → Type 0
Rose before now = min (before + 1) (2 ^ 64 - 1) ≤ now

-- it failed just where the count of faults has risen
pub record HasCause (before now : ℕ) (failed : Type 0) : Type 0 where
  pub later : before ≤ now
  pub cause : failed → Rose before now
  pub calm : (failed → ⊥) → now ≡ before

-- it tells of a fault only where the count has risen; another answer may hide a fault
pub record IsBlamed (before now : ℕ) (told : Type 0) : Type 0 where
  pub later : before ≤ now
  pub cause : told → Rose before now

-- both counts of faults in one, which may stand at its type's end
abbrev pub HasSum : ℕ → ℕ → ℕ → Type 0
HasSum one other sum = sum ≡ min (one + other) (2 ^ 64 - 1)
