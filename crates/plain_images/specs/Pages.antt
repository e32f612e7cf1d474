-- What the program's pages stand for.
use Rattle.std.specs.Prelude.{◌-◌, ◌^◌, ℕ, Bool, ◌&&◌, leb, ltb, ◌==◌, List, map, Option, Some, None, slice_get, if◌then◌else◌}
use Rattle.std.proofs.Common.{lit<}
use Rattle.page_model.specs.Pairs as pairs
use Rattle.page_model.specs.Nodes as model
use Rattle.plain_images.specs.declared.pages.Pair.{Pair}
use Rattle.plain_images.specs.declared.pages.Node.{Node}

abbrev pub pair_of : Pair → pairs.Pair
pair_of x = record { key = x.key; word = x.word }

abbrev pub pairs_of : List Pair → List pairs.Pair
pairs_of xs = map pair_of xs

abbrev pub node_of : Node → model.Node
node_of v = record { live = v.live; level = v.level; low = v.low; high = v.high; pairs = pairs_of v.pairs.items }

abbrev pub node_or : Option Node → model.Node
node_or (Some v) = node_of v
node_or None = model.free

-- the pages by their numbers; beyond the last there are free ones
abbrev pub nodes : List Node → ℕ → model.Node
nodes vs p = node_or (slice_get vs p)

-- the numbers of the format, with so many pages
abbrev pub format_of : ℕ → model.Format
format_of n = record { pages = n; room = 60; levels = 7; dead = 2 ^ 63; top = 2 ^ 64 - 1; some = lit< tt; wide = lit< tt }

-- the child that a pair names, with the fences that it gives it
abbrev pub span : Pair → ℕ → pairs.Span
span x high = record { child = x.word; low = x.key; high = high }

abbrev pub word_fits : ℕ → ℕ → pairs.Pair → Bool
word_fits pages level x = if level == 0 then leb x.word (2 ^ 63) else (ltb 0 x.word && ltb x.word pages)
