-- Where the device tells of the pages' area, the slots of the pager hold what the core has saved: what each call makes of that. In each,
-- old and new are what the device tells before the call and after it.
use Rattle.std.specs.Prelude.{◌≡◌, ◌<◌, ℕ, Bool, true, false, List, [], ◌∷◌, length}
use Rattle.btree_descent.specs.core_state.Openings.{Opening}
use Rattle.lean_disk.specs.Story.{Crash, Story, Tells}
use Rattle.disk_runs.specs.Stands.{Known}
use Rattle.page_calls.specs.Mirrors.{Mirrors, Spans}
use Rattle.btree_descent.specs.row_words.declared.event.Event.{Event}
use Rattle.btree_descent.specs.row_words.declared.event.Event.TheVariants.{Fetch, Save}
use Rattle.btree_descent.specs.row_words.Moments.{pager}
use Rattle.btree_descent.specs.row_words.Openings.{opening}
use Rattle.btree_descent.specs.rows_trait.declared.view.View.{View}
use Rattle.btree_descent.specs.rows_trait.Turns.{Ran}
use Rattle.btree_descent.specs.rows_trait.Views.{Shape, may, state}
use Rattle.page_provider.specs.Disks.{Runs}
use Rattle.page_provider.specs.Gives.{Gives}
use Rattle.page_provider.specs.Providers.{Provider}

-- Where the device tells of the area: the slot of a page that was written last holds, if it holds a page, what the core has saved of it;
-- and all slots are within the area, but maybe the very last one.
pub record IsMirrored (v : View) (k : Provider) (s : Story) : Type 0 where
  pub mirrors : Mirrors k.slots k.generation (state v).core.saved s
  pub spans : Spans k.slots s

-- so it is behind a call, unless the pager is broken by then
abbrev pub KeepsMirrored : View → (was : Provider) → View → (is : Provider) → (old new : Story) → Type 0
KeepsMirrored v was u is old new = IsMirrored v was old → is.broken ≡ false → IsMirrored u is new

-- ## Steps that save nothing

-- what is saved of a page may change: it is saved, or read again
abbrev pub sets_saved : Event → Bool
sets_saved (Save p) = true
sets_saved (Fetch p pairs) = true
sets_saved _ = false

-- none of the events saves a page, or reads one again
abbrev pub NoSaves : List Event → Type 0
NoSaves [] = Unit {0}
NoSaves (e ∷ es) = (sets_saved e ≡ false) × NoSaves es

-- no page was saved or read again, and the same is known of each page's slots
pub record SavesNone (z : Shape) (v : View) (was : Provider) (u : View) (is : Provider) : Type 0 where
  pub events : List Event
  pub ran : Ran z.alone v events u
  pub none : NoSaves events
  pub slots : is.slots ≡ was.slots
  pub generation : is.generation ≡ was.generation

-- ## Laws

-- a device that tells of the area gives each page then
abbrev pub EveryMirroredGives : (s : Story) → Type 0
EveryMirroredGives s = (v : View) (k : Provider) (page : ℕ) → IsMirrored v k s → Tells s 1 → page < (opening v.given).format.pages → length k.slots ≡ (opening v.given).format.pages → Gives v k page s

-- so it is where a run of the core stands over the disk
abbrev pub EveryMirroredRun : (s : Story) → Type 0
EveryMirroredRun s = (g : Opening) (s0 : Crash) (x : Known) (k : Provider) (v : View) → Runs g s0 x k v s → IsMirrored v k s

-- and so it stays, whatever workers do, where the pager saves no page, reads none again and asks nothing of the device
abbrev pub EveryMirroredRest : (s : Story) → Type 0
EveryMirroredRest s = (z : Shape) (v u : View) (k is : Provider) → may z.alone v pager ≡ true → SavesNone z v k u is → IsMirrored v k s → IsMirrored u is s
