-- What the scan of the logs found.
use Rattle.std.specs.Prelude.{◌≡◌, ◌⊎◌, ◌<◌, ◌≤◌, ℕ, suc, List, length}
use Rattle.map_model.specs.Lists.{Has}
use Rattle.disk_image.specs.image_model.Images.{IsFalling, sorted}
use Rattle.lean_disk.specs.Story.{Story, Tells}
use Rattle.disk_image.specs.disk_slots.declared.master.Master.{Master}
use Rattle.disk_image.specs.Shown.{Areas, image_by, IsReadable}
use Rattle.disk_image.specs.Breaks.{IsNoBlock, IsUnordered, StandsAt}
use Rattle.log_index.specs.Items.{Item}
use Rattle.recovery_scan.specs.Records.{entry_of, entries_of}

-- These are the records of all logs, by number and then by log, each with the place of its block. All blocks are readable, and numbers rise
-- in each log.
pub record IsScanned (m : Master) (area : Areas) (items : List Item) : Type 0 where
  pub readable : IsReadable m area
  pub rising : (w : ℕ) → 0 < w → w ≤ length m.heads → IsFalling ((image_by m area).log w)
  pub records : entries_of items ≡ sorted (image_by m area)
  pub stands : (x : Item) → Has x items → StandsAt m area x.log x.place (entry_of x)

-- each is of one of so many logs
abbrev pub AreOfLogs : ℕ → List Item → Type 0
AreOfLogs logs items = (x : Item) → Has x items → (0 < x.log) × (x.log ≤ logs)

-- it tells of each log of the master
abbrev pub TellsLogs : Master → Story → Type 0
TellsLogs m s = (w : ℕ) → 0 < w → w ≤ length m.heads → Tells s (suc w)

-- the block at the place is the block of no records, or holds one that is out of order
abbrev pub IsBadLog : Master → ℕ → Areas → ℕ → Type 0
IsBadLog m w area place = IsNoBlock m area w place ⊎ IsUnordered m area w place
