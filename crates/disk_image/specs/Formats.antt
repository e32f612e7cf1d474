-- The numbers of the format that disks have.
use Rattle.std.specs.Prelude.{◌-◌, ◌^◌, ℕ}
use Rattle.std.proofs.Common.{lit<}
use Rattle.page_model.specs.Limits.{leaf_room, tombstone, top_level}
use Rattle.page_model.specs.Nodes.{Format}

-- of so many pages
abbrev pub format_of : ℕ → Format
format_of pages = record { pages = pages; room = leaf_room; levels = top_level; dead = tombstone; top = 2 ^ 64 - 1; some = lit< tt; wide = lit< tt }
