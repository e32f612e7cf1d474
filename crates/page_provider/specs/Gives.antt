-- What a device gives of a page.
use Rattle.std.specs.Prelude.{◌≡◌, ◌<◌, ℕ, List, Some, slice_get}
use Rattle.btree_descent.specs.core_state.Openings.{Opening}
use Rattle.page_model.specs.Page.{Page}
use Rattle.lean_disk.specs.Story.{Crash, Story, Tells}
use Rattle.disk_runs.specs.Stands.{Known}
use Rattle.page_calls.specs.Calls.{bounds_of}
use Rattle.page_calls.specs.Slots.{last_slot}
use Rattle.page_calls.specs.declared.slots.Slot.{Slot}
use Rattle.page_moves.specs.Moves.{contents_of}
use Rattle.disk_runs.specs.page_store.Slots.{HoldsIn, slot_bytes}
use Rattle.disk_runs.specs.page_store.declared.slot.Held.TheVariants as held
use Rattle.btree_descent.specs.rows_trait.declared.view.View.{View}
use Rattle.btree_descent.specs.rows_trait.Views.{state}
use Rattle.btree_descent.specs.row_words.Openings.{opening}
use Rattle.page_provider.specs.Disks.{Runs}
use Rattle.page_provider.specs.Providers.{Provider}

-- the slot of the page that counts holds it, as of this generation or an earlier one
abbrev pub Holds : List Slot → (generation page : ℕ) → List ℕ → Page → Type 0
Holds slots generation page bytes y = (s : Slot) → slice_get slots page ≡ Some s → HoldsIn (bounds_of slots generation) page (slot_bytes page (last_slot s) bytes) (held.Page y)

-- The device tells of the pages' area, and if the slot of the page that counts holds a page, its contents are those that are saved. (Of a
-- device that tells nothing nobody knows what it gives, so nothing can be known of a row that is filled with it.)
pub record Gives (v : View) (k : Provider) (page : ℕ) (s : Story) : Type 0 where
  pub tells : Tells s 1
  pub saved : (y : Page) → Holds k.slots k.generation page (s.area 1).bytes y → contents_of y ≡ (state v).core.saved page

-- so it is where a run of the core stands over the disk
abbrev pub EveryGiven : (s : Story) → Type 0
EveryGiven s = (g : Opening) (s0 : Crash) (x : Known) (k : Provider) (v : View) (page : ℕ) → page < (opening v.given).format.pages → Runs g s0 x k v s → Gives v k page s
