-- Which place of a disk breaks a rule.
use Rattle.std.specs.Prelude.{◌≡◌, ◌⊎◌, ◌<◌, ◌≤◌, ◌%◌, ℕ, suc, false, true, List, ◌∷◌, ◌++◌, length, None, Some}
use Rattle.map_model.specs.Lists.{Has}
use Rattle.page_model.specs.Check.{page_ok}
use Rattle.image_model.specs.Entries.{Entry}
use Rattle.image_model.specs.Redo.{redo, passes}
use Rattle.image_model.specs.Images.{bases, sorted, redone, lost, has_entry}
use Rattle.image_model.specs.Undo.{nodes_of}
use Rattle.image_model.specs.Slots.{base_of}
use Rattle.disk_slots.specs.declared.master.Master.{Master}
use Rattle.disk_image.specs.MasterSlots.{master_on}
use Rattle.disk_image.specs.Blocks.{block_in}
use Rattle.disk_image.specs.Runs.{Block, Logged, entries_in}
use Rattle.disk_image.specs.Shown.{Areas, run_of, logged_in, shown_by, image_by}

-- page p has no base
pub record HasNoBase (m : Master) (area : Areas) (p : ℕ) : Type 0 where
  pub page : p < m.pages
  pub none : base_of (shown_by m area) p ≡ None

-- a block of the run of log w is the block of no records, and stands at the place
pub record IsNoBlock (m : Master) (area : Areas) (w place : ℕ) : Type 0 where
  pub log : (0 < w) × (w ≤ length m.heads)
  pub block : Block
  pub has : Has block (run_of m w (area (suc w)))
  pub at : block.number % m.blocks ≡ place
  pub none : block_in m.generation w block.number block.bytes ≡ None

-- a record of log w in the block at the place is not above one that stands before it
pub record IsUnordered (m : Master) (area : Areas) (w place : ℕ) : Type 0 where
  pub log : (0 < w) × (w ≤ length m.heads)
  pub newer : List Logged
  pub it : Logged
  pub older : List Logged
  pub splits : logged_in m w (area (suc w)) ≡ newer ++ it ∷ older
  pub at : it.place ≡ place
  pub other : Entry
  pub has : Has other (entries_in older)
  pub above : it.entry.number ≤ other.number

-- the record stands in log w, in the block at the place
pub record StandsAt (m : Master) (area : Areas) (w place : ℕ) (r : Entry) : Type 0 where
  pub log : (0 < w) × (w ≤ length m.heads)
  pub has : Has (record { place = place; entry = r }) (logged_in m w (area (suc w)))

-- a record in the block at the place names a page that there is not, or counts and can't be done
pub record IsUndoable (m : Master) (area : Areas) (w place : ℕ) : Type 0 where
  pub r : Entry
  pub stands : StandsAt m area w place r
  pub newer : List Entry
  pub older : List Entry
  pub splits : sorted (image_by m area) ≡ newer ++ r ∷ older
  pub fails : passes (image_by m area).format (redo (bases (image_by m area)) older).page r ≡ false

-- page p breaks the tree
pub record BreaksTree (m : Master) (area : Areas) (p : ℕ) : Type 0 where
  pub page : p < m.pages
  pub fails : page_ok (image_by m area).format (nodes_of (redone (image_by m area))) p ≡ false

-- a record in the block at the place is lost, and its key has no entry
pub record HasNoEntry (m : Master) (area : Areas) (w place : ℕ) : Type 0 where
  pub r : Entry
  pub stands : StandsAt m area w place r
  pub has : Has r (sorted (image_by m area))
  pub is_lost : lost (image_by m area) r ≡ true
  pub none : has_entry (image_by m area) r.key ≡ false

-- what is wrong with a place of log w
abbrev pub BreaksLog : Master → Areas → (w place : ℕ) → Type 0
BreaksLog m area w place = IsNoBlock m area w place ⊎ (IsUnordered m area w place ⊎ (IsUndoable m area w place ⊎ HasNoEntry m area w place))

-- the place of the area breaks a rule
abbrev pub Breaks : Master → Areas → (a place : ℕ) → Type 0
Breaks m area a place = ((a ≡ 1) × (HasNoBase m area place ⊎ BreaksTree m area place)) ⊎ ((w : ℕ) × (a ≡ suc w) × BreaksLog m area w place)

-- a place of the area of a disk that has a master breaks a rule
pub record IsDamaged (area : Areas) (a place : ℕ) : Type 0 where
  pub m : Master
  pub master : master_on (area 0) ≡ Some m
  pub breaks : Breaks m area a place
