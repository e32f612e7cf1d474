-- What is in memory before recovery, and what it makes of that.
use Rattle.std.specs.Prelude.{◌≡◌, ◌⊎◌, ◌<◌, ◌≤◌, ◌||◌, ℕ, Bool, List, length, slice_get, Some}
use Rattle.map_model.specs.Lists.{Has, any}
use Rattle.page_model.specs.Nodes.{Node, holds}
use Rattle.page_model.specs.Page.{Page}
use Rattle.disk_image.specs.image_model.Entries.{Entry, touches}
use Rattle.disk_image.specs.image_model.Images.{sorted, won_by, lost_by, recovered_page}
use Rattle.disk_image.specs.image_model.Slots.{base_of}
use Rattle.disk_image.specs.disk_slots.declared.master.Master.{Master}
use Rattle.disk_image.specs.MasterSlots.{master_on}
use Rattle.disk_image.specs.Shown.{Areas, shown_by, image_by, IsSoundDisk}
use Rattle.log_index.specs.Items.{Item}
use Rattle.record_redo.specs.Pages.{pages_of}
use Rattle.recovery_scan.specs.Records.{entries_of}
use Rattle.recovery_scan.specs.Scans.{IsScanned}
use Rattle.recovery_redo.specs.declared.recover.Outcome.{Outcome}

-- The bases of all pages of the disk, the records of its logs, and how many logs and which floor its master has, are in memory.
pub record IsLoaded (m : Master) (area : Areas) (pages : List Page) (items : List Item) (logs floor : ℕ) : Type 0 where
  pub master : master_on (area 0) ≡ Some m
  pub logs_is : logs ≡ length m.heads
  pub floor_is : floor ≡ m.floor
  pub count : length pages ≡ m.pages
  pub base : (p : ℕ) → p < m.pages → base_of (shown_by m area) p ≡ Some (pages_of pages p)
  pub scan : IsScanned m area items

-- n is the greatest of the floor, the numbers of records, and those of pages
pub record IsGreatest (floor : ℕ) (entries : List Entry) (pages : List Page) (n : ℕ) : Type 0 where
  pub above_floor : floor ≤ n
  pub above_entries : (r : Entry) → Has r entries → r.number ≤ n
  pub above_pages : (p : ℕ) → p < length pages → (pages_of pages p).gsn ≤ n
  pub met : (n ≡ floor) ⊎ (((r : Entry) × Has r entries × (n ≡ r.number)) ⊎ ((p : ℕ) × (p < length pages) × (n ≡ (pages_of pages p).gsn)))

-- No rule is broken, the pages are the recovered ones, and the counts and the base number are the disk's.
pub record IsRecovered (m : Master) (area : Areas) (old new : List Page) (outcome : Outcome) : Type 0 where
  pub sound : IsSoundDisk m area
  pub pages : (p : ℕ) → p < m.pages → pages_of new p ≡ recovered_page (image_by m area) p
  pub winners : outcome.winners ≡ length (won_by (image_by m area))
  pub undone : outcome.undone ≡ length (lost_by (image_by m area))
  pub base : IsGreatest m.floor (sorted (image_by m area)) old outcome.base

-- as many pages, each with its own number and its generation
pub record KeepsOwn (old new : List Page) : Type 0 where
  pub count : length new ≡ length old
  pub number : (p : ℕ) (x y : Page) → slice_get old p ≡ Some x → slice_get new p ≡ Some y → y.number ≡ x.number
  pub generation : (p : ℕ) (x y : Page) → slice_get old p ≡ Some x → slice_get new p ≡ Some y → y.generation ≡ x.generation

-- a record names the page, or its key is one that the page, a leaf, may hold
abbrev pub is_meant : List Item → (ℕ → Node) → ℕ → Bool
is_meant items node p = any (λ r. touches p r || holds (node p) r.key) (entries_of items)
