-- Where the words lie: two common control words, four of each worker, then the frame rows, then the lock rows. A row has its latch
-- in front of its words.
use Rattle.std.specs.Prelude.{◌+◌, ◌-◌, ◌*◌, ℕ, zero, suc, ltb, List, slice_index, if◌then◌else◌}
use Rattle.row_words.specs.Layout.{width_of}

-- how many frame rows, lock rows and workers there are
pub record Sizes : Type 0 where
  pub frames : ℕ
  pub locks : ℕ
  pub workers : ℕ

-- how many rows
abbrev pub rows_of : Sizes → ℕ
rows_of z = z.frames + z.locks

-- how many words a row has beside its latch
abbrev pub width : Sizes → ℕ → ℕ
width z row = width_of z.frames row

-- where the first row begins
abbrev pub base : Sizes → ℕ
base z = 2 + 4 * z.workers

-- where word i of a row lies, its latch at 0; with its latch a frame row has 129 words, a lock row 6
abbrev pub row_at : Sizes → ℕ → ℕ → ℕ
row_at z row i = if ltb row z.frames then base z + row * 129 + i else base z + z.frames * 129 + (row - z.frames) * 6 + i

-- how many control words a worker has; 0 stands for the common ones
abbrev pub count_of : ℕ → ℕ
count_of zero = 2
count_of (suc w) = 4

-- where control word i of a worker lies
abbrev pub control_at : ℕ → ℕ → ℕ
control_at zero i = i
control_at (suc w) i = 2 + 4 * w + i

-- how many words in all
abbrev pub size_of : Sizes → ℕ
size_of z = base z + z.frames * 129 + z.locks * 6

-- a word of a row
abbrev pub cell : Sizes → List ℕ → ℕ → ℕ → ℕ
cell z words row i = slice_index words (row_at z row i)
