-- Nodes and free pages.
use Rattle.std.specs.Prelude.{length, ◌≡◌, ◌<◌, ◌≤◌, ℕ, Bool, true, false, ◌&&◌, leb, ltb, ◌==◌, List, []}
use Rattle.page_model.specs.Pairs.{Pair, Has, Rising, first_key}

-- The number of pages, the pairs that a node has room for, the greatest level, the word of a tombstone (a value's is
-- below it), and the high fence of the root.
pub record Format : Type 0 where
  pub pages : ℕ
  pub room : ℕ
  pub levels : ℕ
  pub dead : ℕ
  pub top : ℕ
  pub some : 0 < room
  pub wide : 0 < top

-- A free page is not live. A node of level 0 is a leaf, with values or tombstones; the words of the others are pages.
pub record Node : Type 0 where
  pub live : Bool
  pub level : ℕ
  pub low : ℕ
  pub high : ℕ
  pub pairs : List Pair

abbrev pub free : Node
free = record { live = false; level = 0; low = 0; high = 0; pairs = [] }

pub record NodeOk (f : Format) (v : Node) : Type 0 where
  pub sized : length v.pairs ≤ f.room
  pub tall : v.level ≤ f.levels
  pub rising : Rising v.low v.pairs v.high
  pub values : v.level ≡ 0 → (x : Pair) → Has x v.pairs → x.word ≤ f.dead
  pub children : 0 < v.level → (x : Pair) → Has x v.pairs → (0 < x.word) × (x.word < f.pages)
  pub first : 0 < v.level → (v.pairs ≡ [] → ⊥) × (first_key v.pairs v.high ≡ v.low)

pub record WellFormed (f : Format) (v : Node) : Type 0 where
  pub node : v.live ≡ true → NodeOk f v
  pub other : v.live ≡ false → v ≡ free

abbrev pub is_leaf : Node → Bool
is_leaf v = v.live && (v.level == 0)

abbrev pub covers : Node → ℕ → Bool
covers v k = v.live && (leb v.low k && ltb k v.high)

abbrev pub holds : Node → ℕ → Bool
holds v k = is_leaf v && covers v k
