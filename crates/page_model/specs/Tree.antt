-- The tree that nodes form, and the entries of its leaves.
use Rattle.std.specs.Prelude.{if◌then◌else◌, ◌≡◌, ◌<◌, ℕ, zero, suc, true, ltb, Option, Some, None}
use Rattle.page_model.specs.Pairs.{Has, find, Span, spans}
use Rattle.page_model.specs.Nodes.{Format, Node, WellFormed, holds}

-- an inner node names a child with these fences
pub record Names (v : Node) (s : Span) : Type 0 where
  pub live : v.live ≡ true
  pub inner : 0 < v.level
  pub has : Has s (spans v.pairs v.high)

-- c is a node of the level below v with the fences that its pair gives it
pub record IsChild (v c : Node) (s : Span) : Type 0 where
  pub live : c.live ≡ true
  pub level : suc c.level ≡ v.level
  pub low : c.low ≡ s.low
  pub high : c.high ≡ s.high

pub record Parent (f : Format) (node : ℕ → Node) (p : ℕ) : Type 0 where
  pub page : ℕ
  pub below : page < f.pages
  pub span : Span
  pub names : Names (node page) span
  pub child : span.child ≡ p

pub record IsTree (f : Format) (node : ℕ → Node) : Type 0 where
  pub some : 0 < f.pages
  pub root : ((node 0).live ≡ true) × ((node 0).low ≡ 0) × ((node 0).high ≡ f.top)
  pub formed : (p : ℕ) → p < f.pages → WellFormed f (node p)
  pub down : (q : ℕ) → q < f.pages → (s : Span) → Names (node q) s → IsChild (node q) (node s.child) s
  pub up : (p : ℕ) → p < f.pages → (node p).live ≡ true → (p ≡ 0 → ⊥) → Parent f node p

-- the word of a key in the leaf that has it, among the first n pages; a tombstone is a word too
abbrev pub entry : ℕ → (ℕ → Node) → ℕ → Option ℕ
entry zero node k = None
entry (suc p) node k = if holds (node p) k then find k (node p).pairs else entry p node k

-- what a word says: a value, or none
abbrev pub value_of : Format → Option ℕ → Option ℕ
value_of f None = None
value_of f (Some w) = if ltb w f.dead then Some w else None

abbrev pub value : Format → (ℕ → Node) → ℕ → Option ℕ
value f node k = value_of f (entry f.pages node k)

-- what a record says of a word: an absent one is said as a tombstone
abbrev pub word_or : ℕ → Option ℕ → ℕ
word_or d None = d
word_or d (Some w) = w

-- the word of a key, where an absent key has the word of a tombstone
abbrev pub lookup : Format → (ℕ → Node) → ℕ → ℕ
lookup f node k = word_or f.dead (entry f.pages node k)
