-- The start that a disk gives to a run of the core.
use Rattle.std.specs.Prelude.{◌≡◌, ◌<◌, ℕ, length}
use Rattle.core_state.specs.Openings.{Opening, start_page}
use Rattle.core_state.specs.image_model.Images.{recovered_page}
use Rattle.master_store.specs.disk_slots.declared.master.Master.{Master}
use Rattle.master_store.specs.disk_image.Formats.{format_of}
use Rattle.master_store.specs.disk_image.Shown.{Areas, image_by}
use Rattle.recovery.specs.Opened.{IsGreatest}

-- The opening is the start that a disk gives by its master: its format and logs, the pages that recovery of its image gives, and the greatest number
-- there as base number.
pub record IsStartOf (m : Master) (area : Areas) (g : Opening) : Type 0 where
  pub format : g.format ≡ format_of m.pages
  pub logs : g.workers ≡ length m.heads
  pub base : IsGreatest (image_by m area) g.base
  pub pages : (p : ℕ) → p < m.pages → start_page g p ≡ recovered_page (image_by m area) p
