-- What holds of each tree of pages, and of each record that fits.
use Rattle.std.specs.Prelude.{◌≡◌, ◌<◌, ◌≤◌, ℕ, suc, Bool, true, false, ◌&&◌, ◌==◌, Some, None}
use Rattle.page_model.specs.Pairs.{Span, route, is_in}
use Rattle.page_model.specs.Nodes.{Format, Node, holds}
use Rattle.page_model.specs.Tree.{Names, IsTree, entry, lookup}
use Rattle.page_model.specs.Records.{Kind, Record, touches, after}
use Rattle.page_model.specs.Fits.{Fits}
use Rattle.page_model.specs.Records.Kind.{Change, Put_back, Purge}

abbrev pub is_write : Kind → Bool
is_write Change = true
is_write Put_back = true
is_write _ = false

abbrev pub is_purge : Kind → Bool
is_purge Purge = true
is_purge _ = false

-- a write of this key
abbrev pub on_key : ℕ → Record → Bool
on_key k r = is_write r.kind && (r.key == k)

-- a purge of this key
abbrev pub takes_out : ℕ → Record → Bool
takes_out k r = is_purge r.kind && is_in k r.keys

pub record TreeLaws (f : Format) (node : ℕ → Node) : Type 0 where
  -- each key below the root's high fence is in a leaf, and no key is in two
  pub leaf : (k : ℕ) → k < f.top → (p : ℕ) × (p < f.pages) × (holds (node p) k ≡ true)
  pub one_leaf : (p q k : ℕ) → p < f.pages → q < f.pages → holds (node p) k ≡ true → holds (node q) k ≡ true → p ≡ q
  -- each node but the root is the child of exactly one pair
  pub named : (p : ℕ) → p < f.pages → (node p).live ≡ true → (p ≡ 0 → ⊥) → (q : ℕ) × (q < f.pages) × ((s : Span) × Names (node q) s × (s.child ≡ p))
  pub once : (q o : ℕ) (s z : Span) → q < f.pages → o < f.pages → Names (node q) s → Names (node o) z → s.child ≡ z.child → (q ≡ o) × (s ≡ z)
  -- where a node routes a key
  pub routed : (q k : ℕ) → q < f.pages → (node q).live ≡ true → (node q).low ≤ k → k < (node q).high → 0 < (node q).level →
      (route (node q).pairs k 0 < f.pages) × ((node (route (node q).pairs k 0)).live ≡ true) × ((node (route (node q).pairs k 0)).low ≤ k) × (k < (node (route (node q).pairs k 0)).high) × (suc (node (route (node q).pairs k 0)).level ≡ (node q).level)

abbrev pub EveryTree : Type 0
EveryTree = (f : Format) (node : ℕ → Node) → IsTree f node → TreeLaws f node

pub record RecordLaws (f : Format) (node : ℕ → Node) (r : Record) : Type 0 where
  -- the rule of the tree and of each page is kept
  pub tree : IsTree f (after node r)
  -- a write says the word before, and sets its key; all else keeps its word
  pub before : is_write r.kind ≡ true → r.before ≡ lookup f node r.key
  pub on : (k : ℕ) → on_key k r ≡ true → lookup f (after node r) k ≡ r.after
  pub off : (k : ℕ) → on_key k r ≡ false → lookup f (after node r) k ≡ lookup f node k
  -- the same of the entries, of which a purge takes out tombstones alone
  pub entered : (k : ℕ) → on_key k r ≡ true → entry f.pages (after node r) k ≡ Some r.after
  pub purged : (k : ℕ) → takes_out k r ≡ true → (entry f.pages node k ≡ Some f.dead) × (entry f.pages (after node r) k ≡ None)
  pub kept : (k : ℕ) → on_key k r ≡ false → takes_out k r ≡ false → entry f.pages (after node r) k ≡ entry f.pages node k

abbrev pub EveryRecord : Type 0
EveryRecord = (f : Format) (node : ℕ → Node) (r : Record) → IsTree f node → Fits f node r → RecordLaws f node r

-- A record asks of the pages that it names alone, and leaves the others.
abbrev pub EveryLocal : Type 0
EveryLocal = (f : Format) (node other : ℕ → Node) (r : Record) →
    (((p : ℕ) → touches p r ≡ true → node p ≡ other p) → Fits f node r → Fits f other r)
    × ((p : ℕ) → touches p r ≡ false → after node r p ≡ node p)
