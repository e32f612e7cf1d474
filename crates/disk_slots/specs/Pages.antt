-- A page slot: the words of a page, and a seal over them.
use Rattle.std.specs.Prelude.{◌≡◌, ℕ, ◌^◌, ◌<◌, ◌≤◌, true, false, List, [], codes}
use Rattle.page_model.specs.Pairs.{Pair, Has, first_key}
use Rattle.page_model.specs.Nodes.{Node, free}
use Rattle.page_model.specs.Page.{Page}
use Rattle.btree_node.specs.Words.{words_of, Fits}
use Rattle.lean_bytes.specs.Numbers.{AreWords}
use Rattle.disk_slots.specs.Slots.{slot_of}

-- the bytes of a page's slot
unfoldable pub page_slot : Page → List ℕ
page_slot p = slot_of (codes "LEANPAGE") (words_of p)

-- What a stored page may hold. A leaf has values and tombstones. An inner node has children from page 1 on, the first
-- of them at its low fence. A free page has nothing.
pub record IsStorable (pages : ℕ) (v : Node) : Type 0 where
  pub values : v.live ≡ true → v.level ≡ 0 → (x : Pair) → Has x v.pairs → x.word ≤ 2 ^ 63
  pub children : v.live ≡ true → 0 < v.level → (x : Pair) → Has x v.pairs → (0 < x.word) × (x.word < pages)
  pub first : v.live ≡ true → 0 < v.level → (v.pairs ≡ [] → ⊥) × (first_key v.pairs v.high ≡ v.low)
  pub other : v.live ≡ false → v ≡ free

-- the well formed contents of page n of so many pages
pub record IsPage (n pages : ℕ) (p : Page) : Type 0 where
  pub fits : Fits p
  pub words : AreWords (words_of p)
  pub number : p.number ≡ n
  pub node : IsStorable pages p.node

-- the bytes are the slot of page n with these contents
pub record IsPageSlot (n pages : ℕ) (bytes : List ℕ) (p : Page) : Type 0 where
  pub holds : IsPage n pages p
  pub spelled : bytes ≡ page_slot p

-- the slot is valid for a generation: it was saved by that one or one before
pub record IsValid (n pages generation : ℕ) (bytes : List ℕ) (p : Page) : Type 0 where
  pub slot : IsPageSlot n pages bytes p
  pub saved : p.generation ≤ generation
