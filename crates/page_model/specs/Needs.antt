-- What the events that write a record need of the pages, and the records that they write, but for those of writes.
use Rattle.std.specs.Prelude.{◌++◌, length, ◌≡◌, ◌<◌, ◌≤◌, ◌+◌, ℕ, zero, suc, true, false, List, [], ◌∷◌, Some, None}
use Rattle.page_model.specs.Pairs.{Pair, find, onward, Span, is_in}
use Rattle.page_model.specs.Nodes.{Format, Node, holds}
use Rattle.page_model.specs.Tree.{Names, IsTree}
use Rattle.page_model.specs.Records.{Record, nowhere, ref, write_record}
use Rattle.page_model.specs.Fits.{Fits}
use Rattle.page_model.specs.Records.Kind.{Change, Put_back, Split, Lift, Join, Drop, Purge}

abbrev pub key_at : ℕ → List Pair → ℕ
key_at i [] = 0
key_at zero (x ∷ xs) = x.key
key_at (suc i) (x ∷ xs) = key_at i xs

-- at the pair i of left
abbrev pub split_record : (ℕ → Node) → (ℕ → ℕ) → (l r q i : ℕ) → Record
split_record node gsn l r q i = record { kind = Split; left = ref gsn l; right = ref gsn r; parent = ref gsn q; key = 0; before = 0; after = 0; sep = key_at i (node l).pairs; high = (node l).high; level = (node l).level; pairs = onward (key_at i (node l).pairs) (node l).pairs; keys = [] }

abbrev pub lift_record : (ℕ → Node) → (ℕ → ℕ) → (c : ℕ) → Record
lift_record node gsn c = record { kind = Lift; left = ref gsn 0; right = ref gsn c; parent = nowhere; key = 0; before = 0; after = 0; sep = 0; high = (node 0).high; level = (node 0).level; pairs = (node 0).pairs; keys = [] }

abbrev pub join_record : (ℕ → Node) → (ℕ → ℕ) → (l r q : ℕ) → Record
join_record node gsn l r q = record { kind = Join; left = ref gsn l; right = ref gsn r; parent = ref gsn q; key = 0; before = 0; after = 0; sep = (node r).low; high = (node r).high; level = 0; pairs = (node r).pairs; keys = [] }

abbrev pub drop_record : (ℕ → Node) → (ℕ → ℕ) → (c : ℕ) → Record
drop_record node gsn c = record { kind = Drop; left = ref gsn 0; right = ref gsn c; parent = nowhere; key = 0; before = 0; after = 0; sep = 0; high = 0; level = (node c).level; pairs = (node c).pairs; keys = [] }

abbrev pub purge_record : (ℕ → ℕ) → (p : ℕ) → List ℕ → Record
purge_record gsn p keys = record { kind = Purge; left = ref gsn p; right = nowhere; parent = nowhere; key = 0; before = 0; after = 0; sep = 0; high = 0; level = 0; pairs = []; keys = keys }

-- p is a leaf with k in its fences; k is in p, or p is not full
pub record NeedsChange (f : Format) (node : ℕ → Node) (p k v : ℕ) : Type 0 where
  pub page : p < f.pages
  pub leaf : holds (node p) k ≡ true
  pub word : v ≤ f.dead
  pub room : find k (node p).pairs ≡ None → length (node p).pairs < f.room

-- k is in the leaf p
pub record NeedsBack (f : Format) (node : ℕ → Node) (p k v : ℕ) : Type 0 where
  pub page : p < f.pages
  pub leaf : holds (node p) k ≡ true
  pub word : v ≤ f.dead
  pub entry : find k (node p).pairs ≡ None → ⊥

-- r is free, q is the parent of l and not full, and the pair i of l is not its first one
pub record NeedsSplit (f : Format) (node : ℕ → Node) (l r q i : ℕ) : Type 0 where
  pub right : r < f.pages
  pub empty : (node r).live ≡ false
  pub parent : q < f.pages
  pub named : (s : Span) × Names (node q) s × (s.child ≡ l)
  pub room : length (node q).pairs < f.room
  pub middle : (0 < i) × (i < length (node l).pairs)

-- the root is below the greatest level, and c is free
pub record NeedsLift (f : Format) (node : ℕ → Node) (c : ℕ) : Type 0 where
  pub page : c < f.pages
  pub empty : (node c).live ≡ false
  pub low : (node 0).level < f.levels

-- l and r are neighbours under q, and fit together
pub record NeedsJoin (f : Format) (node : ℕ → Node) (l r q : ℕ) : Type 0 where
  pub parent : q < f.pages
  pub live : (node q).live ≡ true
  pub inner : 0 < (node q).level
  pub beside : (prefix back : List Pair) × ((x y : Pair) × ((node q).pairs ≡ (prefix ++ (x ∷ y ∷ back))) × (x.word ≡ l) × (y.word ≡ r))
  pub room : length (node l).pairs + length (node r).pairs ≤ f.room

-- c is the one child of the root
pub record NeedsDrop (f : Format) (node : ℕ → Node) (c : ℕ) : Type 0 where
  pub inner : 0 < (node 0).level
  pub one : (k : ℕ) × ((node 0).pairs ≡ record { key = k; word = c } ∷ [])

-- each key is a tombstone of the leaf p
pub record NeedsPurge (f : Format) (node : ℕ → Node) (p : ℕ) (keys : List ℕ) : Type 0 where
  pub page : p < f.pages
  pub live : (node p).live ≡ true
  pub leaf : (node p).level ≡ 0
  pub dead : (k : ℕ) → is_in k keys ≡ true → find k (node p).pairs ≡ Some f.dead

pub record NeedLaws (f : Format) (node : ℕ → Node) (gsn : ℕ → ℕ) : Type 0 where
  pub change : (p k v : ℕ) → NeedsChange f node p k v → Fits f node (write_record Change f node gsn p k v)
  pub back : (p k v : ℕ) → NeedsBack f node p k v → Fits f node (write_record Put_back f node gsn p k v)
  pub split : (l r q i : ℕ) → NeedsSplit f node l r q i → Fits f node (split_record node gsn l r q i)
  pub lift : (c : ℕ) → NeedsLift f node c → Fits f node (lift_record node gsn c)
  pub join : (l r q : ℕ) → NeedsJoin f node l r q → Fits f node (join_record node gsn l r q)
  pub drop : (c : ℕ) → NeedsDrop f node c → Fits f node (drop_record node gsn c)
  pub purge : (p : ℕ) (keys : List ℕ) → NeedsPurge f node p keys → Fits f node (purge_record gsn p keys)

-- In a tree, what an event needs makes its record fit.
abbrev pub EveryNeed : Type 0
EveryNeed = (f : Format) (node : ℕ → Node) (gsn : ℕ → ℕ) → IsTree f node → NeedLaws f node gsn
