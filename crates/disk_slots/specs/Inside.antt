-- Words of private functions: tests of a master's words.
use Rattle.std.specs.Prelude.{◌≡◌, ℕ, ◌+◌, ◌%◌, ◌^◌, ◌<◌, ◌≤◌, List, slice_index}

-- format, pages, blocks and logs are within their limits
pub record IsWithin (ws : List ℕ) : Type 0 where
  pub format : slice_index ws 0 ≡ 1
  pub pages : (16 ≤ slice_index ws 4) × (slice_index ws 4 ≤ 65536)
  pub blocks : (64 ≤ slice_index ws 5) × (slice_index ws 5 ≤ 4096)
  pub logs : (1 ≤ slice_index ws 6) × (slice_index ws 6 ≤ 16)

-- the words are those of a master of slot n
pub record IsSound (n : ℕ) (ws : List ℕ) : Type 0 where
  pub limits : IsWithin ws
  pub parity : slice_index ws 1 % 2 ≡ n
  pub sequence : slice_index ws 1 < 2 ^ 63
  pub generation : slice_index ws 2 < 2 ^ 63
  pub heads : (k : ℕ) → k < slice_index ws 6 → slice_index ws (7 + k) < 2 ^ 63
  pub rest : (k : ℕ) → 7 + slice_index ws 6 ≤ k → slice_index ws k ≡ 0
