-- Pages one after the other, as an area holds them.
use Rattle.std.specs.Prelude.{ℕ, zero, suc, List, [], ◌++◌}

-- the bytes of so many pages, from a number on
abbrev pub pages_from : (ℕ → List ℕ) → ℕ → ℕ → List ℕ
pages_from page first zero = []
pages_from page first (suc count) = page first ++ pages_from page (suc first) count
