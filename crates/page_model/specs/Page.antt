-- A page as it is stored and as it stands in memory: its numbers, and what it holds.
use Rattle.std.specs.Prelude.{ℕ, zero, suc, List, [], ◌∷◌, true}
use Rattle.page_model.specs.Pairs.{Pair}
use Rattle.page_model.specs.Nodes.{Node}

-- Its own number, the number of its last record, the generation that saved it, the log of its last record (0 for none), and its node.
pub record Page : Type 0 where
  pub number : ℕ
  pub gsn : ℕ
  pub generation : ℕ
  pub last_log : ℕ
  pub node : Node

-- a page that no record has changed
abbrev pub new_page : ℕ → Node → Page
new_page number node = record { number = number; gsn = 0; generation = 0; last_log = 0; node = node }

-- a leaf without entries
abbrev pub empty_leaf : ℕ → ℕ → Node
empty_leaf low high = record { live = true; level = 0; low = low; high = high; pairs = [] }

-- the page with other pairs
abbrev pub with_pairs : Page → List Pair → Page
with_pairs page pairs = record page { node = record page.node { pairs = pairs } }

-- the word of the pair at a place
abbrev pub word_at : ℕ → List Pair → ℕ
word_at i [] = 0
word_at zero (x ∷ xs) = x.word
word_at (suc i) (x ∷ xs) = word_at i xs
