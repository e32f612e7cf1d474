-- What a disk is asked to tell for a promise about it.
use Rattle.std.specs.Prelude.{◌≡◌, ◌<◌, ◌≤◌, ℕ, suc, length, Some}
use Rattle.lean_disk.specs.Story.{Story, Tells}
use Rattle.master_store.specs.disk_slots.declared.master.Master.{Master}
use Rattle.master_store.specs.disk_image.MasterSlots.{master_on}
use Rattle.recovery.specs.Masters.{IsOpenable}

-- it tells of the areas of the master and of the pages, and, if the master that counts is one by which disks of at most so many logs are opened, of
-- each of its logs
pub record TellsAll (most : ℕ) (s : Story) : Type 0 where
  pub master : Tells s 0
  pub pages : Tells s 1
  pub logs : (m : Master) → master_on (s.area 0).bytes ≡ Some m → IsOpenable most m → (w : ℕ) → 0 < w → w ≤ length m.heads → Tells s (suc w)
