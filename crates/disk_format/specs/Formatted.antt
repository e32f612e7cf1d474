-- A disk as `format` leaves it, and what a crash in `format` may leave.
use Rattle.std.specs.Prelude.{◌≡◌, ◌⊎◌, ◌*◌, ◌-◌, ◌<◌, ◌≤◌, ℕ, List, take, length, [], codes}
use Rattle.master_store.specs.image_model.Fair.{piece, IsFair}
use Rattle.lean_disk.specs.Area.{Area, Leaves, Write}
use Rattle.lean_disk.specs.Story.{Crash, Story, Tells}
use Rattle.master_store.specs.disk_slots.Masters.{IsMasterSlot}
use Rattle.master_store.specs.disk_slots.Slots.{IsSealed}
use Rattle.master_store.specs.disk_slots.declared.master.Master.{Master}
use Rattle.disk_format.specs.Fresh.{first_slot, fresh_page}
use Rattle.disk_format.specs.Pieces.{pages_from}
use Rattle.disk_format.specs.declared.shape.Shape.{Shape}

-- the seal of a master slot fits
abbrev pub IsSealedMaster : List ℕ → Type 0
IsSealedMaster = IsSealed (codes "LEANMAST")

-- these bytes are a valid master slot
pub record IsMaster (slot : ℕ) (bytes : List ℕ) : Type 0 where
  pub sealed : IsSealedMaster bytes
  pub master : Master
  pub is : IsMasterSlot slot bytes master

-- a valid master stands in one of the two slots
abbrev pub HasMaster : List ℕ → Type 0
HasMaster bytes = IsMaster 0 (piece 1024 0 bytes) ⊎ IsMaster 1 (piece 1024 1 bytes)

-- the area of the pages begins with so many fresh ones
abbrev pub HasPages : ℕ → List ℕ → Type 0
HasPages pages bytes = take (2048 * pages) bytes ≡ pages_from fresh_page 0 pages

-- what the areas of a new disk hold: the first master in slot 0, none in slot 1, and every page fresh
pub record IsFormatted (shape : Shape) (area : ℕ → List ℕ) : Type 0 where
  pub master : piece 1024 0 (area 0) ≡ first_slot shape
  pub no_other : IsMaster 1 (piece 1024 1 (area 0)) → ⊥
  pub pages : HasPages shape.pages (area 1)

-- the area's writes since then
abbrev pub writes_since : Story → ℕ → Crash → List Write
writes_since s a c = take (length (c.writes a) - length (s.area a).writes) (c.writes a)

-- Each master slot whose seal fits holds what was written there since then, or what stood there.
abbrev pub HasFairMasters : Story → Crash → Type 0
HasFairMasters s c = IsFair 1024 IsSealedMaster (s.area 0).bytes (writes_since s 0 c) (c.image 0)

-- What a crash may leave of a disk on which `format` began at s.
pub record FormatLeaves (shape : Shape) (s : Story) (c : Crash) : Type 0 where
  -- the logs are not touched
  pub logs : (a : ℕ) → 1 < a → Tells s a → Leaves (s.area a) (c.image a)
  -- a disk that has a master is not touched
  pub untouched : Tells s 0 → HasMaster (s.area 0).bytes → (a : ℕ) → Tells s a → Leaves (s.area a) (c.image a)
  -- and any other has no master, or is formatted
  pub formatted : Tells s 0 → Tells s 1 → HasFairMasters s c → (HasMaster (s.area 0).bytes → ⊥) → (HasMaster (c.image 0) → ⊥) ⊎ IsFormatted shape c.image

-- A new disk, of which a crash leaves nothing else, on a disk that told s0 before.
pub record IsNewDisk (shape : Shape) (s0 s : Story) : Type 0 where
  pub formatted : Tells s0 0 → Tells s0 1 → IsFormatted shape (λ a. (s.area a).bytes)
  pub clean : (a : ℕ) → a < 2 → Tells s0 a → (s.area a).unsynced ≡ []

-- each area stands as it stood
abbrev pub IsUntouched : Story → Story → Type 0
IsUntouched old new = (a : ℕ) → new.area a ≡ old.area a

-- what a run of calls keeps, whatever it writes
pub record Keeps (old new : Story) : Type 0 where
  pub notes : new.notes ≡ old.notes
  pub tells : (a : ℕ) → new.tells a ≡ old.tells a
  pub areas : new.areas ≡ old.areas
  pub counts : new.counts ≡ old.counts
  pub later : old.moment ≤ new.moment

-- the pages are on the disk: a crash leaves nothing else
pub record HasSyncedPages (pages : ℕ) (area : Area) : Type 0 where
  pub fresh : HasPages pages area.bytes
  pub clean : area.unsynced ≡ []
  pub end : area.end ≡ length area.bytes

-- whatever stands there
abbrev pub Anything : List Write → List ℕ → Type 0
Anything writes bytes = Unit {0}
