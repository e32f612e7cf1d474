-- What holds of pages that are saved over an area.
use Rattle.std.specs.Prelude.{◌≡◌, ◌⊎◌, ◌≤◌, ◌+◌, ℕ, suc, List, ◌∷◌, ◌++◌, length, map, Some}
use Rattle.map_model.specs.Lists.{Has}
use Rattle.page_model.specs.Page.{Page}
use Rattle.lean_disk.specs.Area.{Write, Area, Leaves, torn}
use Rattle.disk_image.specs.disk_slots.Pages.{page_slot}
use Rattle.disk_image.specs.disk_slots.declared.master.Master.{Master}
use Rattle.disk_image.specs.Shown.{Areas, page_slot_in}
use Rattle.page_store.specs.Bases.{IsBase}
use Rattle.page_store.specs.Saved.{Save, AreSaves, IsFairSince, IsSynced, Reaches, HoldsSaves, LeavesSaves, IsSaving, place_of, saved, write_of}
use Rattle.page_store.specs.declared.base.Base.{Base}

-- a slot that holds a page is whole
abbrev pub EveryWhole : Type 0
EveryWhole = (pages p i : ℕ) (bytes : List ℕ) (page : Page) → page_slot_in pages p i bytes ≡ Some page → place_of p i + 1024 ≤ length bytes

-- Where the last page has its base, all slots are within the bytes, but maybe that page's second one.
abbrev pub EveryReach : Type 0
EveryReach = (m : Master) (page : ℕ) (area : Areas) (base : Base) → suc page ≡ m.pages → IsBase m page area base → Reaches m.pages (area 1)

-- An area over which pages were saved, as a read gives it.
pub record IsRead (pages : ℕ) (saves : List Save) (start : Area) : Type 0 where
  pub holds : HoldsSaves pages start.bytes saves (saved saves start).bytes
  pub fair : IsFairSince start.bytes (map write_of saves) (saved saves start).bytes
  pub writes : (saved saves start).writes ≡ map write_of saves ++ start.writes
  pub first : (saved saves start).first ≡ start.first
  pub longer : length start.bytes ≤ length (saved saves start).bytes

abbrev pub EveryRead : Type 0
EveryRead = (pages : ℕ) (saves : List Save) (start : Area) → AreSaves pages saves → Reaches pages start.bytes → IsRead pages saves start

-- What a crash leaves of it: between two writes, and where one more is being written or was cut short.
pub record IsLeft (pages : ℕ) (saves : List Save) (start : Area) : Type 0 where
  pub between : IsSaving pages start saves (saved saves start)
  pub during : (s : Save) (rest : List Save) → saves ≡ s ∷ rest → (writes : List Write) (c : List ℕ)
      → (writes ≡ write_of s ∷ (saved rest start).writes) ⊎ (writes ≡ (saved rest start).writes)
      → Leaves (torn (place_of s.page s.slot) (page_slot s.node) (saved rest start)) c → LeavesSaves pages start saves writes c

abbrev pub EveryLeft : Type 0
EveryLeft = (pages : ℕ) (saves : List Save) (start : Area) → AreSaves pages saves → IsSynced start → IsLeft pages saves start

-- What a crash leaves of a run that saves some of them, it leaves of one that saves them all.
abbrev pub EveryFewer : Type 0
EveryFewer = (pages : ℕ) (start : Area) (few more : List Save) (writes : List Write) (c : List ℕ)
    → ((s : Save) → Has s few → Has s more) → LeavesSaves pages start few writes c → LeavesSaves pages start more writes c
