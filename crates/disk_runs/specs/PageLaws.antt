-- How a run goes on over a disk by saves of pages, and by syncs of them. Of each law s0 is the disk as a read gave it when the run began, old and new
-- what it tells before a call and after it.
use Rattle.std.specs.Prelude.{◌≡◌, ◌<◌, ◌-◌, ℕ, true, List, Some, None}
use Rattle.map_model.specs.Lists.{upd}
use Rattle.page_model.specs.Page.{Page}
use Rattle.core_disk.specs.core_state.Openings.{Opening}
use Rattle.core_disk.specs.core_state.Events.{Event}
use Rattle.core_disk.specs.core_state.Needs.{may}
use Rattle.lean_disk.specs.Calls.{Synced, Wrote}
use Rattle.lean_disk.specs.Moments.{LeavesOnly}
use Rattle.lean_disk.specs.Story.{Crash, IsLawful, Story}
use Rattle.lean_disk.specs.declared.disk.Did.{Did}
use Rattle.lean_disk.specs.declared.disk.Did.TheVariants as did
use Rattle.master_store.specs.disk_slots.Pages.{IsPage, page_slot}
use Rattle.master_store.specs.page_store.Bases.{image_page}
use Rattle.master_store.specs.page_store.Saved.{place_of}
use Rattle.core_disk.specs.core_state.Steps.{state_after}
use Rattle.core_disk.specs.Held.{base_in}
use Rattle.core_disk.specs.Versions.{then}
use Rattle.disk_runs.specs.Pages.{IsBehind, settled}
use Rattle.disk_runs.specs.Stands.{Known, LeavesRun, Stands}

-- Page p may be saved: it is as the state has it, with the master's generation, and counts before its firm slot.
pub record IsSave (g : Opening) (es : List Event) (x : Known) (p : ℕ) (y : Page) : Type 0 where
  pub within : p < x.master.pages
  pub met : may g (state_after g es) (Event.Save p) ≡ true
  pub stored : IsPage p x.master.pages y
  pub generation : y.generation ≡ x.master.generation
  pub contents : image_page y ≡ (state_after g es).page p
  pub newer : IsBehind (x.firm p).page y

-- the same, with page p saved so
abbrev pub with_late : Known → ℕ → Page → Known
with_late x p y = record x { late = upd x.late p (Some y) }

-- A page is written to its other slot. At every moment a crash leaves what it may; and when it is done, the page is saved.
pub record Saves (g : Opening) (es : List Event) (s0 : Crash) (x : Known) (p : ℕ) (y : Page) (result : Did) (old new : Story) : Type 0 where
  pub any_moment : LeavesOnly old new (LeavesRun g es s0 x.master)
  pub after : result ≡ did.Done → Stands g (then es (Event.Save p)) s0 (with_late x p y) new

-- So it is of every save to the slot that is not firm.
abbrev pub EverySave : (old new : Story) → Type 0
EverySave old new = (s0 : Crash) (g : Opening) (es : List Event) (x : Known) (p : ℕ) (y : Page) (result : Did) → Stands g es s0 x old → IsLawful old → IsSave g es x p y
    → Wrote 1 (place_of p (1 - (x.firm p).slot)) (page_slot y) result old new → Saves g es s0 x p y result old new

-- after a sync each page that was saved is firm
abbrev pub with_settled : Known → Known
with_settled x = record x { firm = λ p. settled (x.firm p) (x.late p); late = λ _. None }

-- The pages are synced. At every moment a crash leaves what it may; and when it is done, each page that was saved is firm.
pub record Settles (g : Opening) (es : List Event) (s0 : Crash) (x : Known) (result : Did) (old new : Story) : Type 0 where
  pub any_moment : LeavesOnly old new (LeavesRun g es s0 x.master)
  pub after : result ≡ did.Done → Stands g es s0 (with_settled x) new

-- So it is of every sync of the pages.
abbrev pub EverySettled : (old new : Story) → Type 0
EverySettled old new = (s0 : Crash) (g : Opening) (es : List Event) (x : Known) (result : Did) → Stands g es s0 x old → IsLawful old → Synced 1 result old new → Settles g es s0 x result old new

-- the base of a page, as it reads, is what the state has saved
abbrev pub EveryFetch : (s : Story) → Type 0
EveryFetch s = (s0 : Crash) (g : Opening) (es : List Event) (x : Known) (p : ℕ) → Stands g es s0 x s → p < x.master.pages → base_in x.master p (s.area 1).bytes ≡ Some ((state_after g es).saved p)
