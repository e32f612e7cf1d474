-- Masters of one run.
use Rattle.std.specs.Prelude.{◌≡◌, ◌⊎◌, ◌≤◌, suc, length}
use Rattle.disk_slots.specs.declared.master.Master.{Master}

-- n is of a run that began with m: for as many pages, blocks and logs, of m's generation or the next one, and written no earlier.
pub record IsOfRun (m n : Master) : Type 0 where
  pub pages : n.pages ≡ m.pages
  pub blocks : n.blocks ≡ m.blocks
  pub logs : length n.heads ≡ length m.heads
  pub generation : (n.generation ≡ m.generation) ⊎ (n.generation ≡ suc m.generation)
  pub sequence : m.sequence ≤ n.sequence
