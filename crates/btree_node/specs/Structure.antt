-- What is left of pages whose pairs move as a whole.
use Rattle.std.specs.Prelude.{ℕ, suc, true, List, [], ◌∷◌, ◌++◌}
use Rattle.page_model.specs.Pairs.{Pair, below, onward}
use Rattle.page_model.specs.Nodes.{free}
use Rattle.page_model.specs.Page.{Page}

-- the left page keeps the pairs below the separator
abbrev pub left_half : Page → ℕ → Page
left_half p sep = record p { node = record p.node { high = sep; pairs = below sep p.node.pairs } }

-- the right page q becomes a node of p's level with p's pairs from the separator on
abbrev pub right_half : Page → Page → ℕ → Page
right_half p q sep = record q { node = record { live = true; level = p.node.level; low = sep; high = p.node.high; pairs = onward sep p.node.pairs } }

-- the left page gains the pairs and the high fence of its right neighbour
abbrev pub joined : Page → Page → Page
joined p q = record p { node = record p.node { high = q.node.high; pairs = (p.node.pairs ++ q.node.pairs) } }

-- the page holds nothing
abbrev pub freed : Page → Page
freed p = record p { node = free }

-- the page is a node of this level, with these fences and pairs
abbrev pub filled : Page → (level low high : ℕ) → List Pair → Page
filled p level low high pairs = record p { node = record { live = true; level = level; low = low; high = high; pairs = pairs } }

-- the node gains pairs behind its own, and has this high fence
abbrev pub extended : Page → List Pair → ℕ → Page
extended p pairs high = record p { node = record p.node { high = high; pairs = (p.node.pairs ++ pairs) } }

-- the root is one level higher, with one pair: key 0 and the word of its child
abbrev pub lifted : Page → ℕ → Page
lifted p word = record p { node = record p.node { level = suc p.node.level; pairs = record { key = 0; word = word } ∷ [] } }

-- the root has the level and the pairs of its child q
abbrev pub lowered : Page → Page → Page
lowered p q = record p { node = record p.node { level = q.node.level; pairs = q.node.pairs } }
