-- The pages of a run: what stands in their slots, and what a crash may leave there.
use Rattle.std.specs.Prelude.{◌≡◌, ◌⊎◌, ◌<◌, ◌≤◌, ◌+◌, ◌-◌, ℕ, List, ◌++◌, Option, Some, None}
use Rattle.map_model.specs.Lists.{Has}
use Rattle.page_model.specs.Page.{Page}
use Rattle.lean_disk.specs.Area.{Area, Write}
use Rattle.core_disk.specs.core_state.Openings.{Opening}
use Rattle.core_disk.specs.core_state.Events.{Event}
use Rattle.master_store.specs.disk_image.PageSlots.{page_in}
use Rattle.master_store.specs.disk_image.Shown.{page_slot_in}
use Rattle.master_store.specs.page_store.Bases.{image_page}
use Rattle.master_store.specs.page_store.Saved.{place_of}
use Rattle.core_disk.specs.Held.{IsVersion}
use Rattle.disk_runs.specs.Fair.{IsSlotWrite}

-- A page that is synced, and in which of its slots.
pub record Firm : Type 0 where
  pub slot : ℕ
  pub page : Page

-- by generation, then by number
abbrev pub IsBehind : (y x : Page) → Type 0
IsBehind y x = (y.generation < x.generation) ⊎ ((y.generation ≡ x.generation) × (y.gsn < x.gsn))

-- of no earlier generation, with no lesser number
abbrev pub IsNoOlder : (y x : Page) → Type 0
IsNoOlder y x = (x.generation ≤ y.generation) × (x.gsn ≤ y.gsn)

-- beside the firm page y does not count: it is older, or as old and in the slot that is looked at last
abbrev pub Yields : Firm → Page → Type 0
Yields firm y = IsBehind y firm.page ⊎ ((firm.slot ≡ 0) × (y.generation ≡ firm.page.generation) × (y.gsn ≡ firm.page.gsn))

-- What a crash may leave in a slot of page p beside the firm one: it does not count; or it is no older, and a version that a crash
-- may leave.
pub record MayStand (g : Opening) (es : List Event) (generation p : ℕ) (firm : Firm) (y : Page) : Type 0 where
  pub generation_is : y.generation ≤ generation
  pub is : Yields firm y ⊎ (IsNoOlder y firm.page × IsVersion g es p (image_page y))

-- The page is firm: it stands in its slot and is synced there; it is a version that a crash may leave.
pub record IsFirm (g : Opening) (es : List Event) (pages generation p : ℕ) (firm : Firm) (area : Area) : Type 0 where
  pub half : firm.slot < 2
  pub there : page_slot_in pages p firm.slot area.bytes ≡ Some firm.page
  pub end : place_of p firm.slot + 1024 ≤ area.end
  pub generation_is : firm.page.generation ≤ generation
  pub version : IsVersion g es p (image_page firm.page)

-- What was saved of the page to its other slot since the last sync, if something was: a version that a crash may leave, of this
-- generation, which counts if it is left.
pub record IsLater (g : Opening) (es : List Event) (pages generation p : ℕ) (firm : Firm) (y : Page) (area : Area) : Type 0 where
  pub there : page_slot_in pages p (1 - firm.slot) area.bytes ≡ Some y
  pub generation_is : y.generation ≡ generation
  pub newer : IsBehind firm.page y
  pub number : firm.page.gsn ≤ y.gsn
  pub version : IsVersion g es p (image_page y)

-- if nothing was, the other slot holds a page that does not count, or none
abbrev pub IsSpare : Opening → List Event → (pages generation p : ℕ) → Firm → Option Page → Area → Type 0
IsSpare g es pages generation p firm (Some y) area = IsLater g es pages generation p firm y area
IsSpare g es pages generation p firm None area = (y : Page) → page_slot_in pages p (1 - firm.slot) area.bytes ≡ Some y → Yields firm y

-- as it was saved last
abbrev pub last_saved : Firm → Option Page → Page
last_saved firm (Some y) = y
last_saved firm None = firm.page

-- The area of so many pages, which had these bytes and writes when the run began; each write since was of one slot. Each page is firm; what is not
-- synced is the other slot of one; and whatever was written to a slot, or stood there at first, may stand there.
pub record PagesStand (g : Opening) (es : List Event) (pages generation : ℕ) (first : List ℕ) (older : List Write) (firm : ℕ → Firm) (late : ℕ → Option Page) (area : Area) : Type 0 where
  pub since : List Write
  pub writes : area.writes ≡ since ++ older
  pub own : (w : Write) → Has w since → IsSlotWrite w
  pub firms : (p : ℕ) → p < pages → IsFirm g es pages generation p (firm p) area
  pub spares : (p : ℕ) → p < pages → IsSpare g es pages generation p (firm p) (late p) area
  pub unsynced : (range : ℕ × ℕ) → Has range area.unsynced → (p : ℕ) × (p < pages) × (range ≡ (place_of p (1 - (firm p).slot), 1024))
  pub old : (p i : ℕ) (y : Page) → p < pages → i < 2 → page_slot_in pages p i first ≡ Some y → MayStand g es generation p (firm p) y
  pub new : (p i : ℕ) (bytes : List ℕ) (y : Page) → p < pages → i < 2 → Has (place_of p i, bytes) since → page_in p pages bytes ≡ Some y → MayStand g es generation p (firm p) y

-- after a sync what was saved since the last one is firm
abbrev pub settled : Firm → Option Page → Firm
settled firm (Some y) = record { slot = 1 - firm.slot; page = y }
settled firm None = firm
