-- Plain rows at their beginning.
use Rattle.std.specs.Prelude.{◌≡◌, ◌+◌, ◌<◌, ◌≤◌, ℕ, List, length, slice_index}
use Rattle.row_words.specs.declared.given.Given.{Given}
use Rattle.row_words.specs.Sealed.{begun, Shown, heard}
use Rattle.rows_trait.specs.Layout.{Sizes, rows_of, width, cell, count_of, control_at, size_of}

-- sizes of their parts
abbrev pub sizes : ℕ → ℕ → ℕ → Sizes
sizes frames locks workers = record { frames = frames; locks = locks; workers = workers }

-- No row is latched, and each word is that of what opening gives.
pub record IsOpening (z : Sizes) (v : Given) (words : List ℕ) : Type 0 where
  pub size : length words ≡ size_of z
  pub latch : (row : ℕ) → row < rows_of z → cell z words row 0 ≡ 0
  pub rows : (row : ℕ) → row < rows_of z → (i : ℕ) → i < width z row → Shown v (begun v) row i (cell z words row (i + 1))
  pub controls : (c i : ℕ) → c ≤ z.workers → i < count_of c → slice_index words (control_at c i) ≡ heard (begun v) c i
