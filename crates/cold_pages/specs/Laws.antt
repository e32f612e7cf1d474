-- When what is kept is right, what a page is then that is as it was kept, and how it stays right.
use Rattle.std.specs.Prelude.{◌≡◌, ◌≢◌, ◌<◌, ℕ, Bool, true, false, List, length, replicate, Some}
use Rattle.image_model.specs.Entries.{Contents}
use Rattle.page_model.specs.Pairs.{Span}
use Rattle.page_model.specs.Nodes.{Format, Node, is_leaf}
use Rattle.page_model.specs.Tree.{Names, IsTree}
use Rattle.page_model.specs.Page.{Page}
use Rattle.btree_node.specs.Words.{IsOrdered}
use Rattle.cold_pages.specs.declared.kept.Kept.{Kept}
use Rattle.cold_pages.specs.Kept.{AreWithin, nothing, kept_of, level_of, left, come}
use Rattle.cold_pages.specs.Compared.{IsAsKept}

-- what is kept of the page itself is so; how many pairs an inner node has too
pub record IsOf (kept : Kept) (y : Contents) : Type 0 where
  pub gsn : kept.gsn ≡ y.gsn
  pub last : kept.last ≡ y.last
  pub level : kept.level ≡ level_of y.node
  pub low : kept.low ≡ y.node.low
  pub high : kept.high ≡ y.node.high
  pub count : 0 < y.node.level → kept.count ≡ length y.node.pairs

-- the node names the page from this key on
pub record NamesFrom (v : Node) (key p : ℕ) : Type 0 where
  pub span : Span
  pub names : Names v span
  pub child : span.child ≡ p
  pub low : span.low ≡ key

-- What is kept is right of the cold pages: of each of them its own fields are so; each page that they name is kept under the one that names it,
-- from where on it does, and no other page is kept under one. So of a page that is not cold nothing is kept but who names it.
pub record IsRight (f : Format) (page : ℕ → Contents) (cold : ℕ → Bool) (table : List Kept) : Type 0 where
  pub pages : length table ≡ f.pages
  pub own : (p : ℕ) → p < f.pages → cold p ≡ true → IsOf (kept_of table p) (page p)
  pub parent : (c q : ℕ) → c < f.pages → (kept_of table c).parent ≡ Some q → (q < f.pages) × (cold q ≡ true) × NamesFrom (page q).node (kept_of table c).low c
  pub children : (q : ℕ) (s : Span) → q < f.pages → cold q ≡ true → Names (page q).node s → ((kept_of table s.child).parent ≡ Some q) × ((kept_of table s.child).low ≡ s.low)

-- what a state has of a page that was loaded
abbrev pub contents : Page → Contents
contents v = record { gsn = v.gsn; last = v.last_log; node = v.node }

-- the page is the other one, but for the entries of a leaf
pub record IsButEntries (old new : Contents) : Type 0 where
  pub gsn : new.gsn ≡ old.gsn
  pub last : new.last ≡ old.last
  pub fields : new.node ≡ record old.node { pairs = new.node.pairs }
  pub other : is_leaf old.node ≡ false → new.node ≡ old.node

-- Each page names pages of the table. Of a page that is cold: what comes is what left, and what left passes. And the table is right of another
-- moment: where the same pages are cold, and they are as they were but for entries of leaves; where one more has left; and where one has come.
pub record KeptLaws (f : Format) (page : ℕ → Contents) (cold : ℕ → Bool) (table : List Kept) : Type 0 where
  pub within : (p : ℕ) → p < f.pages → AreWithin (length table) (page p).node
  pub came : (p : ℕ) (v : Page) → p < f.pages → cold p ≡ true → IsOrdered v.node.low v.node.pairs v.node.high → IsAsKept table p v → IsButEntries (page p) (contents v)
  pub passes : (p : ℕ) (v : Page) → p < f.pages → cold p ≡ true → contents v ≡ page p → IsAsKept table p v
  pub stays : (other : ℕ → Contents) (later : ℕ → Bool) → ((p : ℕ) → p < f.pages → later p ≡ cold p) → ((p : ℕ) → p < f.pages → cold p ≡ true → IsButEntries (page p) (other p)) → IsRight f other later table
  pub leaves : (p : ℕ) (v : Page) (later : ℕ → Bool) → p < f.pages → contents v ≡ page p → ((q : ℕ) → q < f.pages → q ≢ p → later q ≡ cold q) → later p ≡ true → IsRight f page later (left table p v)
  pub comes : (p : ℕ) (v : Node) (later : ℕ → Bool) → p < f.pages → v ≡ (page p).node → ((q : ℕ) → q < f.pages → q ≢ p → later q ≡ cold q) → later p ≡ false → IsRight f page later (come table v)

-- so it is in each tree with a right table
abbrev pub EveryKept : Type 0
EveryKept = (f : Format) (page : ℕ → Contents) (cold : ℕ → Bool) (table : List Kept) → IsTree f (λ p. (page p).node) → IsRight f page cold table → KeptLaws f page cold table

-- while no page is cold, a new table is right
abbrev pub EveryNew : Type 0
EveryNew = (f : Format) (page : ℕ → Contents) → IsRight f page (λ p. false) (replicate f.pages nothing)
