-- Words of private functions.
use Rattle.std.specs.Prelude.{◌≡◌, ◌<◌, ◌≤◌, ◌*◌, ◌^◌, ℕ, Bool, List, length, take, drop, slice_index}
use Rattle.free_pages.specs.Pages.{count}

-- the marks of a block, with so many pages a block
abbrev pub part : (size : ℕ) → List Bool → (block : ℕ) → List Bool
part size marks block = take size (drop (block * size) marks)

-- the counts are those of the blocks and of all
pub record IsCounted (size : ℕ) (marks : List Bool) (in_block : List ℕ) (total : ℕ) : Type 0 where
  pub few : length marks < 2 ^ 32
  pub reach : length marks ≤ length in_block * size
  pub counted : (block : ℕ) → block < length in_block → slice_index in_block block ≡ count (part size marks block)
  pub sum : total ≡ count marks

-- no block has a page that is in
abbrev pub AreUnused : List ℕ → Type 0
AreUnused in_block = (block : ℕ) → block < length in_block → slice_index in_block block ≡ 0

-- it has one, and none before it does
pub record IsFirstUsed (in_block : List ℕ) (block : ℕ) : Type 0 where
  pub within : block < length in_block
  pub here : 0 < slice_index in_block block
  pub none_before : (b : ℕ) → b < block → slice_index in_block b ≡ 0
