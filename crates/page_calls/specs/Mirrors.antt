-- What the slots that were written last hold, by the bytes alone, and what each call does to that. In each, old and new are
-- what the device tells before the call and after it.
use Rattle.std.specs.Prelude.{◌≡◌, ◌<◌, ◌≤◌, ◌+◌, ℕ, List, length, map, Some, slice_get, slice_index, false}
use Rattle.map_model.specs.Lists.{upd}
use Rattle.page_model.specs.Page.{Page}
use Rattle.disk_runs.specs.image_model.Entries.{Contents}
use Rattle.disk_runs.specs.core_state.Openings.{Opening}
use Rattle.disk_runs.specs.core_state.Events.{Event}
use Rattle.disk_runs.specs.core_state.Steps.{state_after}
use Rattle.lean_disk.specs.Area.{Area, IsApart}
use Rattle.lean_disk.specs.Story.{Crash, Story, Tells}
use Rattle.disk_runs.specs.disk_slots.Pages.{IsPage}
use Rattle.disk_runs.specs.page_store.Bases.{image_page}
use Rattle.disk_runs.specs.page_store.Saved.{Reaches, place_of}
use Rattle.disk_runs.specs.page_store.Slots.{HoldsIn, slot_bytes}
use Rattle.disk_runs.specs.page_store.declared.slot.Held.TheVariants as held
use Rattle.disk_runs.specs.Stands.{Known}
use Rattle.page_calls.specs.declared.slots.Slot.{Slot}
use Rattle.page_calls.specs.Slots.{last_slot, opened_slot}
use Rattle.page_calls.specs.Calls.{IsOn, bounds_of}

-- The slot of the page that was written last holds it, as of this generation or an earlier one.
abbrev pub HoldsLast : List Slot → (generation page : ℕ) → List ℕ → Page → Type 0
HoldsLast slots generation page bytes y = (s : Slot) → slice_get slots page ≡ Some s → HoldsIn (bounds_of slots generation) page (slot_bytes page (last_slot s) bytes) (held.Page y)

-- Where the device tells of the pages' area: what the slot of a page that was written last holds, if it holds a page, is what
-- is saved of it.
abbrev pub Mirrors : List Slot → (generation : ℕ) → (saved : ℕ → Contents) → Story → Type 0
Mirrors slots generation saved s = Tells s 1 → (p : ℕ) → p < length slots → (y : Page) → HoldsLast slots generation p (s.area 1).bytes y → image_page y ≡ saved p

-- Where the device tells of the pages' area: all slots are within it, but maybe the very last one.
abbrev pub Spans : List Slot → Story → Type 0
Spans slots s = Tells s 1 → Reaches (length slots) (s.area 1).bytes

-- ## A sync and a load

-- The slots hold what is saved as before, and are within the area as before.
pub record KeepsMirrors (was is : List Slot) (old new : Story) : Type 0 where
  pub mirrors : (saved : ℕ → Contents) (generation : ℕ) → Mirrors was generation saved old → Mirrors is generation saved new
  pub spans : Spans was old → Spans is new

-- The page that was loaded is what is saved of it, where that is what the slots hold.
abbrev pub LoadsMirrored : List Slot → (generation page : ℕ) → Story → Page → Type 0
LoadsMirrored slots generation page s y = (saved : ℕ → Contents) → Mirrors slots generation saved s → Tells s 1 → image_page y ≡ saved page

-- ## A save

-- A stored page was saved, and the slots were within the area: they hold what is saved, and of this page what was saved now.
pub record SavesMirrors (was is : List Slot) (y : Page) (old new : Story) : Type 0 where
  pub mirrors : (saved : ℕ → Contents) (generation : ℕ) → IsPage y.number (length was) y → Spans was old → Mirrors was generation saved old → Mirrors is generation (upd saved y.number (image_page y)) new
  pub spans : Spans was old → Spans is new

-- The slot from this place on is on the disk: it is within what was synced, and nothing was written to it since.
pub record IsOnDisk (at : ℕ) (area : Area) : Type 0 where
  pub within : at + 1024 ≤ area.end
  pub apart : (j : ℕ) → at ≤ j → j < at + 1024 → IsApart j area.unsynced

-- It failed: a slot that was written last, and was on the disk, holds what is saved still. Of the others nothing is known: a
-- write that fails may lose what was not synced, of any page.
abbrev pub FailsMirrors : List Slot → Page → (old new : Story) → Type 0
FailsMirrors slots y old new = (saved : ℕ → Contents) (generation : ℕ) → IsPage y.number (length slots) y → Mirrors slots generation saved old → Tells new 1
    → (p : ℕ) (s : Slot) → slice_get slots p ≡ Some s → IsOnDisk (place_of p (last_slot s)) (old.area 1) → (x : Page) → HoldsLast slots generation p (new.area 1).bytes x → image_page x ≡ saved p

-- ## Laws

-- The slots hold what is saved, and are within the area; and each page that was not saved since the last sync is on the disk.
pub record IsMirror (slots : List Slot) (generation : ℕ) (saved : ℕ → Contents) (s : Story) : Type 0 where
  pub mirrors : Mirrors slots generation saved s
  pub spans : Spans slots s
  pub on_disk : (p : ℕ) (t : Slot) → slice_get slots p ≡ Some t → t.late ≡ false → IsOnDisk (place_of p (last_slot t)) (s.area 1)

-- so it is where a run stands
abbrev pub EveryMirrored : (s : Story) → Type 0
EveryMirrored s = (s0 : Crash) (g : Opening) (es : List Event) (x : Known) (slots : List Slot) (generation : ℕ) → IsOn g es s0 x slots s → IsMirror slots generation (state_after g es).saved s

-- Where the firm slot of each page holds, if a page, what is saved of it, the slots made of their numbers do so.
abbrev pub EveryStart : (s : Story) → Type 0
EveryStart s = (firm : List ℕ) (generation : ℕ) (saved : ℕ → Contents) → ((p : ℕ) → p < length firm → slice_index firm p < 2)
    → (Tells s 1 → (p : ℕ) → p < length firm → (y : Page) → HoldsIn (record { pages = length firm; generation = generation }) p (slot_bytes p (slice_index firm p) (s.area 1).bytes) (held.Page y) → image_page y ≡ saved p)
    → Mirrors (map opened_slot firm) generation saved s
