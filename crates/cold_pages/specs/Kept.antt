-- What is kept of the pages: a list with one entry a page, page 0 first; and what it is behind a page that leaves, or comes.
use Rattle.std.specs.Prelude.{◌<◌, ℕ, ltb, List, [], ◌∷◌, length, Option, Some, None, slice_index_or, slice_set, if◌then◌else◌}
use Rattle.page_model.specs.Nodes.{Node}
use Rattle.page_model.specs.Page.{Page}
use Rattle.page_model.specs.Pairs.{Has, Pair}
use Rattle.cold_pages.specs.declared.kept.Kept.{Kept}

-- of a page of which nothing was noted
abbrev pub nothing : Kept
nothing = record { gsn = 0; last = 0; level = None; low = 0; high = 0; count = 0; parent = None }

-- of this page
abbrev pub kept_of : List Kept → ℕ → Kept
kept_of table page = slice_index_or table page nothing

-- ## Changes

-- a free page has no level
abbrev pub level_of : Node → Option ℕ
level_of v = if v.live then Some v.level else None

-- the pairs that name pages: those of an inner node
abbrev pub children : Node → List Pair
children v = if ltb 0 v.level then v.pairs else []

-- each of them names one of so many pages
abbrev pub AreWithin : ℕ → Node → Type 0
AreWithin pages v = (x : Pair) → Has x (children v) → x.word < pages

-- what the page itself says; who names it is as before
abbrev pub own : Kept → Page → Kept
own was v = record was { gsn = v.gsn; last = v.last_log; level = level_of v.node; low = v.node.low; high = v.node.high; count = length v.node.pairs }

-- a child is named by this one, or by none, from the key on
abbrev pub named : Option ℕ → List Pair → List Kept → List Kept
named parent [] table = table
named parent (x ∷ xs) table = named parent xs (slice_set table x.word (record (kept_of table x.word) { low = x.key; parent = parent }))

-- the page has left its frame with these contents
abbrev pub left : List Kept → ℕ → Page → List Kept
left table page v = named (Some page) (children v.node) (slice_set table page (own (kept_of table page) v))

-- a page with this node has come into a frame
abbrev pub come : List Kept → Node → List Kept
come table v = named None (children v) table
