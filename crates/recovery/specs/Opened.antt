-- What recovery gives, and the disk that it leaves.
use Rattle.std.specs.Prelude.{◌≡◌, ◌⊎◌, ◌<◌, ◌≤◌, ◌+◌, ◌-◌, ℕ, suc, List, [], length, slice_get, slice_index, Some}
use Rattle.map_model.specs.Lists.{Has}
use Rattle.page_model.specs.Page.{Page}
use Rattle.page_model.specs.Tree.{IsTree}
use Rattle.core_state.specs.image_model.Entries.{Entry}
use Rattle.core_state.specs.image_model.Images.{Image, bases, sorted, won_by, lost_by, recovered_page}
use Rattle.core_state.specs.image_model.Slots.{Shown, Slot, base_of}
use Rattle.lean_disk.specs.Area.{Area}
use Rattle.lean_disk.specs.Story.{Story, areas_of}
use Rattle.master_store.specs.disk_slots.Masters.{IsMaster}
use Rattle.master_store.specs.disk_slots.declared.master.Master.{Master}
use Rattle.master_store.specs.disk_image.Formats.{format_of}
use Rattle.master_store.specs.disk_image.MasterSlots.{master_on}
use Rattle.master_store.specs.disk_image.Shown.{Areas, page_slot_in, shown_by, image_by, IsSoundDisk}
use Rattle.node_tree.specs.Nodes.{nodes_of}
use Rattle.record_redo.specs.Pages.{page_of}
use Rattle.master_store.specs.page_store.Bases.{YieldsTo, image_page}
use Rattle.recovery.specs.Masters.{next_master}
use Rattle.recovery.specs.declared.opening.Recovered.{Recovered}
use Rattle.recovery.specs.declared.opening.Unrecovered.{Unrecovered}
use Rattle.recovery.specs.declared.opening.Unrecovered.TheVariants as why
use Rattle.master_store.specs.disk_image.Runs.{HasNone}

-- this is page p as recovery gives it, saved by the generation or one before
pub record IsPageOf (i : Image) (generation p : ℕ) (v : Page) : Type 0 where
  pub own : v.number ≡ p
  pub is : page_of v ≡ recovered_page i p
  pub saved : v.generation ≤ generation

-- n is the greatest of the floor, of the numbers of records, and of those of the pages' bases; no recovered page is above it
pub record IsGreatest (i : Image) (n : ℕ) : Type 0 where
  pub floor : i.floor ≤ n
  pub records : (r : Entry) → Has r (sorted i) → r.number ≤ n
  pub stored : (p : ℕ) → p < i.format.pages → (bases i p).gsn ≤ n
  pub recovered : (p : ℕ) → p < i.format.pages → (recovered_page i p).gsn ≤ n
  pub met : (n ≡ i.floor) ⊎ (((r : Entry) × Has r (sorted i) × (n ≡ r.number)) ⊎ ((p : ℕ) × (p < i.format.pages) × (n ≡ (bases i p).gsn)))

-- The areas are those of a sound disk; the pages and the counts are its image's; the floor of the next master is the base
-- number.
pub record IsRecovered (m : Master) (area : Areas) (r : Recovered) : Type 0 where
  pub sound : IsSoundDisk m area
  pub count : length r.pages.items ≡ m.pages
  pub page : (p : ℕ) (v : Page) → slice_get r.pages.items p ≡ Some v → IsPageOf (image_by m area) (suc m.generation) p v
  pub won : r.winners ≡ length (won_by (image_by m area))
  pub lost : r.undone ≡ length (lost_by (image_by m area))
  pub base : IsGreatest (image_by m area) r.master.floor
  pub master : r.master ≡ next_master m r.master.floor

-- Slot `at` of page p counts: what is in memory of the page stands there, and a page in the other slot does not count beside it.
pub record Counts (pages : ℕ) (area : List ℕ) (p at : ℕ) (v : Page) : Type 0 where
  pub node : Page
  pub there : page_slot_in pages p at area ≡ Some node
  pub is : image_page node ≡ image_page v
  pub other : (y : Page) → page_slot_in pages p (1 - at) area ≡ Some y → YieldsTo (record { node = node; slot = at }) y

-- Whatever the disk told: as many pages as the master has, each with its own number, which form a tree; and the master is one of a
-- slot.
pub record IsWhole (r : Recovered) : Type 0 where
  pub count : length r.pages.items ≡ r.master.pages
  -- of each page a slot
  pub places : length r.slots.items ≡ r.master.pages
  pub halves : (p : ℕ) → p < r.master.pages → slice_index r.slots.items p < 2
  pub own : (p : ℕ) (v : Page) → slice_get r.pages.items p ≡ Some v → v.number ≡ p
  pub tree : IsTree (format_of r.master.pages) (nodes_of r.pages.items)
  -- no page has a number above the floor
  pub numbers : (p : ℕ) (v : Page) → slice_get r.pages.items p ≡ Some v → v.gsn ≤ r.master.floor
  -- and the log of each page's last record fits a byte
  pub logs : (p : ℕ) (v : Page) → slice_get r.pages.items p ≡ Some v → v.last_log < 256
  pub master : (slot : ℕ) × IsMaster slot r.master

-- a crash leaves nothing else of the area
pub record IsSettled (area : Area) : Type 0 where
  pub clean : area.unsynced ≡ []
  pub end : area.end ≡ length area.bytes

-- Of each page the slot that is given counts, by the master and, since no slot is of a later generation, by each later one; and all of
-- that is on the disk.
pub record HasSlots (r : Recovered) (s : Story) : Type 0 where
  pub counts : (p : ℕ) (v : Page) → slice_get r.pages.items p ≡ Some v → Counts r.master.pages (s.area 1).bytes p (slice_index r.slots.items p) v
  pub latest : (p i : ℕ) (y : Page) → p < r.master.pages → i < 2 → page_slot_in r.master.pages p i (s.area 1).bytes ≡ Some y → y.generation ≤ r.master.generation
  pub settled : IsSettled (s.area 1)

-- What is in memory of page p is what one of its slots holds, by the same generation. Where a slot of it is of a later one, that is the
-- master's, and the page is the same.
pub record IsHeld (i : Shown) (p : ℕ) (v : Page) : Type 0 where
  pub at : ℕ
  pub within : at < 2
  pub there : i.slot p at ≡ Some (record { generation = v.generation; page = page_of v })
  pub newest : (j : ℕ) (x : Slot) → j < 2 → i.slot p j ≡ Some x → (x.generation ≤ v.generation) ⊎ ((x.generation ≡ i.generation) × (x.page ≡ page_of v))

-- The disk then, where the areas were those of a clean one: the master is the new one; each page's base is the recovered page, and
-- what is in memory of it stands there; nothing is of a later generation than the master's, and no block of a log is of that one; and
-- all is settled.
pub record IsOpened (m : Master) (area : Areas) (r : Recovered) (s : Story) : Type 0 where
  pub master : master_on (s.area 0).bytes ≡ Some r.master
  pub base : (p : ℕ) → p < m.pages → base_of (shown_by r.master (areas_of s)) p ≡ Some (recovered_page (image_by m area) p)
  pub held : (p : ℕ) (v : Page) → slice_get r.pages.items p ≡ Some v → IsHeld (shown_by r.master (areas_of s)) p v
  -- the slot that is given for a page counts
  pub counts : (p : ℕ) (v : Page) → slice_get r.pages.items p ≡ Some v → Counts m.pages (s.area 1).bytes p (slice_index r.slots.items p) v
  pub slots : (p i : ℕ) (x : Slot) → p < m.pages → i < 2 → (shown_by r.master (areas_of s)).slot p i ≡ Some x → x.generation ≤ r.master.generation
  pub blocks : (w : ℕ) → 0 < w → w ≤ length m.heads → HasNone r.master.generation m.blocks (s.area (suc w)).bytes
  pub settled : (a : ℕ) → a < 2 + length m.heads → IsSettled (s.area a)

-- what a run of calls keeps, whatever it writes
pub record Keeps (old new : Story) : Type 0 where
  pub notes : new.notes ≡ old.notes
  pub tells : (a : ℕ) → new.tells a ≡ old.tells a
  pub areas : new.areas ≡ old.areas
  pub counts : new.counts ≡ old.counts
  pub later : old.moment ≤ new.moment

-- the area holds what it held, and nothing was written to it
pub record IsUntouched (old new : Area) : Type 0 where
  pub bytes : new.bytes ≡ old.bytes
  pub writes : new.writes ≡ old.writes
  pub first : new.first ≡ old.first

-- the disk is refused for what it holds
abbrev pub IsRefusal : Unrecovered → Type 0
IsRefusal why.NotFormatted = Unit {0}
IsRefusal (why.Damaged area place) = Unit {0}
IsRefusal why.DiskFault = ⊥
IsRefusal why.Memory = ⊥
