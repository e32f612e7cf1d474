-- The lock rows that a session holds.
use Rattle.std.specs.Prelude.{◌≡◌, ◌↔◌, ◌≤◌, ◌<◌, ◌^◌, ◌++◌, ℕ, suc, Bool, true, false, List, [], ◌∷◌, length, slice_index_or, if◌then◌else◌}
use Rattle.map_model.specs.Lists.{Has}
use Rattle.btree_descent.specs.core_state.Needs.{is_reader}

-- of so many lock rows these, each once, the first that was taken first
pub record Held : Type 0 where
  pub count : ℕ
  pub rows : List ℕ

-- how many marks stand
abbrev pub count_of : List Bool → ℕ
count_of [] = 0
count_of (b ∷ bs) = if b then suc (count_of bs) else count_of bs

-- the rows are those that are marked, each once, and there is room for all
pub record AreMarked (marks : List Bool) (rows : List ℕ) (most : ℕ) : Type 0 where
  pub few : length marks < 2 ^ 32
  pub room : length marks ≤ most
  pub count : length rows ≡ count_of marks
  pub marked : (i : ℕ) → (slice_index_or marks i false ≡ true) ↔ Has i rows
  pub within : (i : ℕ) → Has i rows → i < length marks

-- with this row too, if it is not among them
abbrev pub with_row : Held → ℕ → Held
with_row h row = if is_reader row h.rows then h else record { count = h.count; rows = h.rows ++ row ∷ [] }
