-- What the bytes of a disk show, and what they stand for. A disk is the bytes of its areas: 0 the master's, 1 the pages',
-- `1 + w` those of log w.
use Rattle.std.specs.Prelude.{◌≡◌, ◌<◌, ◌≤◌, ◌+◌, ◌*◌, ◌-◌, ℕ, suc, List, [], length, slice_index_or, Option, Some, None}
use Rattle.map_model.specs.Maps.{Map}
use Rattle.map_model.specs.Journals.{Name}
use Rattle.page_model.specs.Page.{Page}
use Rattle.image_model.specs.Fair.{piece}
use Rattle.image_model.specs.Images.{Image, IsSound, StandsFor}
use Rattle.image_model.specs.Slots.{Slot, Shown, image_of, IsClean}
use Rattle.disk_slots.specs.declared.master.Master.{Master}
use Rattle.disk_image.specs.Formats.{format_of}
use Rattle.disk_image.specs.PageSlots.{page_in}
use Rattle.disk_image.specs.MasterSlots.{master_on}
use Rattle.disk_image.specs.Runs.{Block, Logged, run_in, logged_onto, entries_in, AreReadable, sealed_in}

abbrev pub Areas : Type 0
Areas = ℕ → List ℕ

-- the slot of a page
abbrev pub slot_of : Option Page → Option Slot
slot_of (Some p) = Some (record { generation = p.generation; page = record { gsn = p.gsn; last = p.last_log; node = p.node } })
slot_of None = None

-- what slot i of page p holds
abbrev pub page_slot_in : (pages p i : ℕ) → List ℕ → Option Page
page_slot_in pages p i area = page_in p pages (piece 1024 (2 * p + i) area)

-- the first block of log w
abbrev pub head_of : Master → ℕ → ℕ
head_of m w = slice_index_or m.heads (w - 1) 0

-- the run of log w
abbrev pub run_of : Master → ℕ → List ℕ → List Block
run_of m w area = run_in m.generation w m.blocks area m.blocks (head_of m w)

-- its records, the newest first
abbrev pub logged_in : Master → ℕ → List ℕ → List Logged
logged_in m w area = logged_onto m.generation w m.blocks [] (run_of m w area)

-- what the disk shows by this master
abbrev pub shown_by : Master → Areas → Shown
shown_by m area = record {
  format = format_of m.pages;
  logs = length m.heads;
  generation = m.generation;
  floor = m.floor;
  log = λ w. entries_in (logged_in m w (area (suc w)));
  sealed = λ w. sealed_in m.blocks (area (suc w));
  slot = λ p i. slot_of (page_slot_in m.pages p i (area 1));
}

abbrev pub image_by : Master → Areas → Image
image_by m area = image_of (shown_by m area)

-- each block of each run is the block of some records
abbrev pub IsReadable : Master → Areas → Type 0
IsReadable m area = (w : ℕ) → 0 < w → w ≤ length m.heads → AreReadable m.generation w (run_of m w (area (suc w)))

-- no rule is broken
pub record IsSoundDisk (m : Master) (area : Areas) : Type 0 where
  pub master : master_on (area 0) ≡ Some m
  pub readable : IsReadable m area
  pub sound : IsSound (image_by m area)

-- the disk stands for a map and its winners
pub record DiskStandsFor (m : Master) (area : Areas) (map : Map) (won : List Name) : Type 0 where
  pub master : master_on (area 0) ≡ Some m
  pub readable : IsReadable m area
  pub stands : StandsFor (image_by m area) map won

-- no rule is broken, and nothing of a later generation lies there but what recovery writes
pub record IsCleanDisk (m : Master) (area : Areas) : Type 0 where
  pub master : master_on (area 0) ≡ Some m
  pub readable : IsReadable m area
  pub clean : IsClean (shown_by m area)
