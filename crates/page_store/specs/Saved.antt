-- Pages that are saved over an area, each in one of its slots: what then stands in the slots of all pages.
use Rattle.std.specs.Prelude.{◌≡◌, ◌⊎◌, ◌<◌, ◌≤◌, ◌+◌, ◌*◌, ℕ, List, [], ◌∷◌, ◌++◌, length, Some, None, codes}
use Rattle.map_model.specs.Lists.{Has}
use Rattle.page_model.specs.Page.{Page}
use Rattle.disk_image.specs.image_model.Fair.{IsFair}
use Rattle.lean_disk.specs.Area.{Write, Area, Leaves, written}
use Rattle.disk_image.specs.disk_slots.Slots.{IsSealed}
use Rattle.disk_image.specs.disk_slots.Pages.{page_slot, IsPage}
use Rattle.disk_image.specs.Shown.{page_slot_in}

-- a page, and what is saved of it in which of its slots
pub record Save : Type 0 where
  pub page : ℕ
  pub slot : ℕ
  pub node : Page

-- the place of slot i of page p
abbrev pub place_of : (p i : ℕ) → ℕ
place_of p i = 2048 * p + 1024 * i

-- the write that saves it
abbrev pub write_of : Save → Write
write_of s = (place_of s.page s.slot, page_slot s.node)

-- it is a slot of one of so many pages, and what is saved is well formed
pub record IsSave (pages : ℕ) (s : Save) : Type 0 where
  pub within : s.page < pages
  pub half : s.slot < 2
  pub stored : IsPage s.page pages s.node

abbrev pub AreSaves : ℕ → List Save → Type 0
AreSaves pages saves = (s : Save) → Has s saves → IsSave pages s

-- in slot i of page p none of them is saved
abbrev pub IsSpared : (p i : ℕ) → List Save → Type 0
IsSpared p i saves = (s : Save) → Has s saves → s.page ≡ p → s.slot ≡ i → ⊥

-- no slot is saved twice
abbrev pub AreApart : List Save → Type 0
AreApart [] = Unit {0}
AreApart (s ∷ saves) = IsSpared s.page s.slot saves × AreApart saves

-- an area over which these were written, the newest first
abbrev pub saved : List Save → Area → Area
saved [] x = x
saved (s ∷ saves) x = written (place_of s.page s.slot) (page_slot s.node) (saved saves x)

-- all that was written of the area is on the disk
pub record IsSynced (x : Area) : Type 0 where
  pub clean : x.unsynced ≡ []
  pub end : x.end ≡ length x.bytes

-- All slots of so many pages are within the bytes, but maybe the very last one.
abbrev pub Reaches : ℕ → List ℕ → Type 0
Reaches pages bytes = 2048 * pages ≤ length bytes + 1024

-- ## What stands in the slots

-- slot i of page p holds one of those that are saved there
pub record HoldsOne (pages : ℕ) (saves : List Save) (p i : ℕ) (bytes : List ℕ) : Type 0 where
  pub save : Save
  pub has : Has save saves
  pub page_is : save.page ≡ p
  pub slot_is : save.slot ≡ i
  pub there : page_slot_in pages p i bytes ≡ Some save.node

-- In these bytes, which were `first` before, all of them are saved.
pub record HoldsSaves (pages : ℕ) (first : List ℕ) (saves : List Save) (bytes : List ℕ) : Type 0 where
  pub other : (p i : ℕ) → i < 2 → IsSpared p i saves → page_slot_in pages p i bytes ≡ page_slot_in pages p i first
  pub each : (s : Save) → Has s saves → HoldsOne pages saves s.page s.slot bytes
  pub one : AreApart saves → (s : Save) → Has s saves → page_slot_in pages s.page s.slot bytes ≡ Some s.node

-- In these bytes some of them may be saved: a slot that none of them is saved in is as it was; any other is as it was, or
-- holds one of those that are saved there, or no page.
pub record MayHoldSaves (pages : ℕ) (first : List ℕ) (saves : List Save) (bytes : List ℕ) : Type 0 where
  pub other : (p i : ℕ) → i < 2 → IsSpared p i saves → page_slot_in pages p i bytes ≡ page_slot_in pages p i first
  pub each : (p i : ℕ) → i < 2 → (page_slot_in pages p i bytes ≡ page_slot_in pages p i first) ⊎ (HoldsOne pages saves p i bytes ⊎ (page_slot_in pages p i bytes ≡ None))

-- ## What a crash leaves of an area that was synced at first, and over which these were saved since, or may be

-- Fair bytes, in which each page slot whose seal fits holds the bytes of one of the writes since, or those that stood there at first.
abbrev pub IsFairSince : (first : List ℕ) → (since : List Write) → List ℕ → Type 0
IsFairSince = IsFair 1024 (IsSealed (codes "LEANPAGE"))

-- the write is that of one of them
pub record IsOneOf (saves : List Save) (w : Write) : Type 0 where
  pub save : Save
  pub has : Has save saves
  pub at : w ≡ write_of save

-- with these writes of the area, it leaves these bytes
pub record LeavesSaves (pages : ℕ) (start : Area) (saves : List Save) (writes : List Write) (bytes : List ℕ) : Type 0 where
  pub since : List Write
  pub writes_are : writes ≡ since ++ start.writes
  pub own : (w : Write) → Has w since → IsOneOf saves w
  pub holds : IsFairSince start.bytes since bytes → MayHoldSaves pages start.bytes saves bytes

-- whatever a crash leaves of the area is such
abbrev pub IsSaving : (pages : ℕ) → Area → List Save → Area → Type 0
IsSaving pages start saves area = (c : List ℕ) → Leaves area c → LeavesSaves pages start saves area.writes c
