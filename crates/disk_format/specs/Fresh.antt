-- A page and a master as `format` writes them.
use Rattle.std.specs.Prelude.{ℕ, ◌^◌, ◌-◌, ◌==◌, List, ◌++◌, replicate, if◌then◌else◌}
use Rattle.page_model.specs.Nodes.{Node, free}
use Rattle.page_model.specs.Page.{empty_leaf, new_page}
use Rattle.master_store.specs.disk_slots.Masters.{master_slot}
use Rattle.master_store.specs.disk_slots.Pages.{page_slot}
use Rattle.master_store.specs.disk_slots.declared.master.Master.{Master}
use Rattle.disk_format.specs.declared.shape.Shape.{Shape}

-- page 0 is a leaf without entries that all keys are in, every other page is free
abbrev pub fresh_node : ℕ → Node
fresh_node p = if p == 0 then empty_leaf 0 (2 ^ 64 - 1) else free

-- its first slot, and zeros in the second one
unfoldable pub fresh_page : ℕ → List ℕ
fresh_page p = page_slot (new_page p (fresh_node p)) ++ replicate 1024 0

-- the first master: of a log for each worker, whose head is block 0
abbrev pub first_master : Shape → Master
first_master shape = record { sequence = 0; generation = 0; floor = 0; pages = shape.pages; blocks = shape.blocks; heads = replicate shape.workers 0 }

abbrev pub first_slot : Shape → List ℕ
first_slot shape = master_slot (first_master shape)
