-- Free pages, the least first.
use Rattle.std.specs.Prelude.{ℕ, List, [], ◌∷◌, Option, Some, None}
use Rattle.page_model.specs.Nodes.{Node}
use Rattle.page_model.specs.Page as stored
use Rattle.row_opening.specs.Opened.{contents_of, page_at}

-- the nodes of these pages
abbrev pub nodes_in : List stored.Page → ℕ → Node
nodes_in pages p = (contents_of (page_at pages p)).node

-- the least one, if there is one
abbrev pub first_of : List ℕ → Option ℕ
first_of [] = None
first_of (p ∷ ps) = Some p

-- all but that
abbrev pub without_first : List ℕ → List ℕ
without_first [] = []
without_first (p ∷ ps) = ps
