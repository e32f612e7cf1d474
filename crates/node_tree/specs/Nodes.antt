-- Pages in memory as the nodes of a tree.
use Rattle.std.specs.Prelude.{ℕ, List, Option, Some, None, slice_get}
use Rattle.page_model.specs.Nodes.{Node, free}
use Rattle.page_model.specs.Page.{Page}

abbrev pub node_or : Option Page → Node
node_or (Some p) = p.node
node_or None = free

-- the nodes of pages, by their numbers; beyond the last there are free ones
abbrev pub nodes_of : List Page → ℕ → Node
nodes_of pages p = node_or (slice_get pages p)
