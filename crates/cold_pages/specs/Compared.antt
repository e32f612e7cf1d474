-- When a page that was loaded is as it was kept.
use Rattle.std.specs.Prelude.{◌≡◌, ◌<◌, ℕ, false, List, length, Some}
use Rattle.page_model.specs.Pairs.{Pair}
use Rattle.page_model.specs.Needs.{key_at}
use Rattle.page_model.specs.Page.{Page, word_at}
use Rattle.cold_pages.specs.declared.kept.Kept.{Kept}
use Rattle.cold_pages.specs.Kept.{kept_of, level_of}

-- its numbers, its level and its fences are those kept
pub record HasFields (kept : Kept) (v : Page) : Type 0 where
  pub gsn : v.gsn ≡ kept.gsn
  pub last_log : v.last_log ≡ kept.last
  pub level : level_of v.node ≡ kept.level
  pub low : v.node.low ≡ kept.low
  pub high : v.node.high ≡ kept.high

-- the child is kept as one that this page names from this key on
pub record IsKeptUnder (table : List Kept) (page from child : ℕ) : Type 0 where
  pub within : child < length table
  pub parent : (kept_of table child).parent ≡ Some page
  pub low : (kept_of table child).low ≡ from

-- the page has as many pairs as were kept, and the child of each is kept under it, from the pair's key on
pub record AreAsKept (table : List Kept) (page : ℕ) (pairs : List Pair) : Type 0 where
  pub count : length pairs ≡ (kept_of table page).count
  pub each : (i : ℕ) → i < length pairs → IsKeptUnder table page (key_at i pairs) (word_at i pairs)

-- The page has the fields kept; a free one says nothing else, and an inner node has the children kept. Of a leaf's entries nothing is asked.
pub record IsAsKept (table : List Kept) (page : ℕ) (v : Page) : Type 0 where
  pub fields : HasFields (kept_of table page) v
  pub free : v.node.live ≡ false → (v.node.level ≡ 0) × (length v.node.pairs ≡ 0)
  pub pairs : 0 < v.node.level → AreAsKept table page v.node.pairs
