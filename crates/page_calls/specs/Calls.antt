-- What a save of a page, a sync of all saves, and a load mean to a run of the core. In each, old and new are what the device tells before the call and after it.
use Rattle.std.specs.Prelude.{◌≡◌, ◌<◌, ◌≤◌, ◌-◌, ℕ, true, List, length, map, Some, None, Result, Err, IfOk, slice_get, slice_index}
use Rattle.page_model.specs.Page.{Page}
use Rattle.disk_runs.specs.core_state.Openings.{Opening}
use Rattle.disk_runs.specs.core_state.Events.{Event}
use Rattle.disk_runs.specs.core_state.Needs.{may}
use Rattle.disk_runs.specs.core_state.Steps.{state_after}
use Rattle.lean_disk.specs.Area.{Write}
use Rattle.lean_disk.specs.Moments.{CrashIn, LeavesOnly}
use Rattle.lean_disk.specs.Story.{Crash, Story}
use Rattle.disk_runs.specs.disk_slots.Pages.{IsPage}
use Rattle.disk_runs.specs.page_store.Bases.{image_page}
use Rattle.disk_runs.specs.page_store.Slots.{HasSeal, HoldsIn, slot_bytes}
use Rattle.disk_runs.specs.page_store.declared.slot.Held.TheVariants as held
use Rattle.disk_runs.specs.page_store.declared.known.Lost.{Lost}
use Rattle.disk_runs.specs.page_store.declared.known.Lost.TheVariants as lost
use Rattle.disk_runs.specs.page_store.declared.slot.Bounds.{Bounds}
use Rattle.disk_runs.specs.page_store.declared.slot.Seal.{Seal}
use Rattle.disk_runs.specs.page_store.declared.slot.Seal.TheVariants as seal
use Rattle.disk_runs.specs.core_disk.Versions.{then}
use Rattle.disk_runs.specs.PageLaws.{with_late, with_settled}
use Rattle.disk_runs.specs.Stands.{Known, LeavesRun, Stands}
use Rattle.page_calls.specs.declared.slots.Slot.{Slot}
use Rattle.page_calls.specs.Slots.{Knows, last_slot, opened_slot}

-- A run goes on over the device, and this is known of the slots.
pub record IsOn (g : Opening) (es : List Event) (s0 : Crash) (x : Known) (slots : List Slot) (s : Story) : Type 0 where
  pub stands : Stands g es s0 x s
  pub knows : Knows slots x

-- At every moment of a call that is no event a fair crash leaves what one after the events so far does.
abbrev pub KeepsMoments : List Slot → (old new : Story) → Type 0
KeepsMoments slots old new = (s0 : Crash) (g : Opening) (es : List Event) (x : Known) → IsOn g es s0 x slots old → LeavesOnly old new (LeavesRun g es s0 x.master)

-- no matter what the writes and the bytes are
abbrev pub Anything : List Write → List ℕ → Type 0
Anything writes bytes = Unit {0}

-- The call stays within the pages' area: at every moment a crash leaves the other areas, and the notes, as they were before it.
abbrev pub KeepsWithin : (old new : Story) → Type 0
KeepsWithin old new = LeavesOnly old new (CrashIn old 1 Anything)

-- ## A save

-- In such a run the page may be saved: it is as the state has it, its number is up to F, it is dirty, and it has the generation.
pub record Saves (g : Opening) (es : List Event) (x : Known) (y : Page) : Type 0 where
  pub met : may g (state_after g es) (Event.Save y.number) ≡ true
  pub stored : IsPage y.number x.master.pages y
  pub generation : y.generation ≡ x.master.generation
  pub contents : image_page y ≡ (state_after g es).page y.number
  pub dirty : ((state_after g es).saved y.number).gsn < y.gsn

-- At every moment of it a fair crash leaves what one after the events so far does.
abbrev pub SavesMoments : List Slot → Page → (old new : Story) → Type 0
SavesMoments slots y old new = (s0 : Crash) (g : Opening) (es : List Event) (x : Known) → IsOn g es s0 x slots old → Saves g es x y → LeavesOnly old new (LeavesRun g es s0 x.master)

-- Behind it the page is saved.
abbrev pub SavesOn : (was is : List Slot) → Page → (old new : Story) → Type 0
SavesOn was is y old new = (s0 : Crash) (g : Opening) (es : List Event) (x : Known) → IsOn g es s0 x was old → Saves g es x y → IsOn g (then es (Event.Save y.number)) s0 (with_late x y.number y) is new

-- ## A sync of the pages

-- Behind it each page that was saved is firm.
abbrev pub SettlesOn : (was is : List Slot) → (old new : Story) → Type 0
SettlesOn was is old new = (s0 : Crash) (g : Opening) (es : List Event) (x : Known) → IsOn g es s0 x was old → IsOn g es s0 (with_settled x) is new

-- ## A load

-- the page with this number, as the state has saved it
pub record IsSaved (g : Opening) (es : List Event) (generation p : ℕ) (y : Page) : Type 0 where
  pub number : y.number ≡ p
  pub generation_is : y.generation ≤ generation
  pub contents : image_page y ≡ (state_after g es).saved p

-- In a run of this generation, what is loaded is the page as the state has it saved; and a page is there.
pub record Loads (g : Opening) (es : List Event) (generation p : ℕ) (result : Result Page Lost) : Type 0 where
  pub saved : IfOk result (IsSaved g es generation p)
  pub sound : (counts other : Seal) → result ≡ Err (lost.Damaged counts other) → ⊥

abbrev pub LoadsOn : List Slot → (generation p : ℕ) → Result Page Lost → (old : Story) → Type 0
LoadsOn slots generation p result old = (s0 : Crash) (g : Opening) (es : List Event) (x : Known) → IsOn g es s0 x slots old → x.master.generation ≡ generation → Loads g es generation p result

-- A run goes on over what was only read.
abbrev pub ReadsOn : List Slot → (old new : Story) → Type 0
ReadsOn slots old new = (s0 : Crash) (g : Opening) (es : List Event) (x : Known) → IsOn g es s0 x slots old → IsOn g es s0 x slots new

-- Whatever the disk holds: which are valid, of these slots.
abbrev pub bounds_of : List Slot → ℕ → Bounds
bounds_of slots generation = record { pages = length slots; generation = generation }

-- The slot that was written last is no page, and this is what both are. Its seal is never `Valid`.
pub record IsDamaged (slots : List Slot) (generation p : ℕ) (bytes : List ℕ) (counts other : Seal) : Type 0 where
  pub slot : Slot
  pub there : slice_get slots p ≡ Some slot
  pub counts_is : HasSeal (bounds_of slots generation) p (slot_bytes p (last_slot slot) bytes) counts
  pub other_is : HasSeal (bounds_of slots generation) p (slot_bytes p (1 - last_slot slot) bytes) other
  pub not_valid : counts ≡ seal.Valid → ⊥

-- What the slot of a page that was written last holds, if it holds a page, is the page as it is saved.
abbrev pub EveryHeld : (s : Story) → Type 0
EveryHeld s = (s0 : Crash) (g : Opening) (es : List Event) (x : Known) (slots : List Slot) (generation p : ℕ) (slot : Slot) (y : Page) → IsOn g es s0 x slots s → p < length slots → slice_get slots p ≡ Some slot
    → HoldsIn (bounds_of slots generation) p (slot_bytes p (last_slot slot) (s.area 1).bytes) (held.Page y) → image_page y ≡ (state_after g es).saved p

-- ## A start

-- Where a run stands, and nothing is late, this is known of the slots by the numbers of the firm ones.
abbrev pub EveryOn : (s : Story) → Type 0
EveryOn s = (s0 : Crash) (g : Opening) (es : List Event) (x : Known) (firm : List ℕ) → Stands g es s0 x s → length firm ≡ x.master.pages → ((p : ℕ) → p < x.master.pages → (x.firm p).slot ≡ slice_index firm p)
    → ((p : ℕ) → x.late p ≡ None) → IsOn g es s0 x (map opened_slot firm) s
