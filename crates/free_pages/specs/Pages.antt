-- A set of page numbers as a list with one mark a page, page 0 first.
use Rattle.std.specs.Prelude.{◌≡◌, ◌<◌, ℕ, suc, Bool, true, false, List, [], ◌∷◌, length, slice_index_or, if◌then◌else◌}

-- the page is in the set, which has no page past the marks
abbrev pub is_in : List Bool → ℕ → Bool
is_in marks page = slice_index_or marks page false

-- how many pages are in
abbrev pub count : List Bool → ℕ
count [] = 0
count (mark ∷ marks) = if mark then suc (count marks) else count marks

-- no page is in
abbrev pub IsEmpty : List Bool → Type 0
IsEmpty marks = (page : ℕ) → is_in marks page ≡ false

-- the page is in, and no lower one is
pub record IsLeast (marks : List Bool) (page : ℕ) : Type 0 where
  pub within : page < length marks
  pub here : is_in marks page ≡ true
  pub none_lower : (q : ℕ) → q < page → is_in marks q ≡ false
