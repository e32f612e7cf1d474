-- What a saver of rows asks of its parts, and what is known of the slots.
use Rattle.std.specs.Prelude.{◌≡◌, ◌≤◌, ◌<◌, ℕ, Bool, true, false, List, [], length, Some}
use Rattle.map_model.specs.Lists.{Has, all}
use Rattle.btree_descent.specs.core_state.Openings.{Opening}
use Rattle.btree_descent.specs.core_state.States.{State, is_cooling}
use Rattle.btree_descent.specs.row_words.declared.given.Given.{Given}
use Rattle.btree_descent.specs.row_words.Openings.{opening}
use Rattle.btree_descent.specs.rows_trait.declared.view.View.{View}
use Rattle.btree_descent.specs.row_words.declared.event.Event.{Event}
use Rattle.btree_descent.specs.row_words.declared.event.Event.TheVariants.{Miss, Save}
use Rattle.btree_descent.specs.rows_trait.Causes.{Finds}
use Rattle.btree_descent.specs.rows_trait.Turns.{Ran}
use Rattle.btree_descent.specs.rows_trait.Views.{Shape, state}
use Rattle.btree_descent.specs.version_latch.declared.glimpse.TheConstants.{LAST}
use Rattle.btree_descent.specs.Descents.{Sized}
use Rattle.btree_descent.specs.Known.{IsSound}
use Rattle.cooling_stage.specs.declared.stage.Cooling.{Cooling}
use Rattle.cooling_stage.specs.Queue.{found}
use Rattle.disk_runs.specs.Stands.{Known}
use Rattle.page_calls.specs.declared.slots.Slot.{Slot}
use Rattle.page_calls.specs.Slots.{Knows}
use Rattle.page_pool.specs.Pools.{IsEntry}
use Rattle.page_provider.specs.Moves.{AreMet}
use Rattle.row_opening.specs.Openings.{Opens}

-- the queue has the pages that cool in this state
pub record IsQueue (s : State) (queue : List Cooling) : Type 0 where
  pub entries : (x : Cooling) → Has x queue → IsEntry s x
  pub every : (p : ℕ) → is_cooling (s.place p) ≡ true → (x : Cooling) × (found p queue ≡ Some x)

-- Nobody else steps, no row is held, there are so many frames, at every moment the pages are a tree and places are in order, and the
-- queue has the pages that cool.
pub record IsSeated (z : Shape) (v : View) (queue : List Cooling) (frames : ℕ) : Type 0 where
  pub alone : z.alone ≡ true
  pub held : v.held ≡ []
  pub sized : Sized z v frames
  pub sound : IsSound v.given
  pub queued : IsQueue (state v).core queue

-- the rows began as some opening
pub record HasBegun (v : Given) : Type 0 where
  pub start : Opening
  pub opens : Opens start v

-- besides, there is a slot for each page, and a page fits into the buffer
pub record IsReady (z : Shape) (v : View) (queue : List Cooling) (frames : ℕ) (slots : List Slot) (buffer : List ℕ) : Type 0 where
  pub seated : IsSeated z v queue frames
  pub begun : HasBegun v.given
  pub pages : length slots ≡ (opening v.given).format.pages
  pub size : length buffer ≡ 1024

-- what is known of the slots is right, and pages are saved by the generation of the master
pub record KnowsSlots (slots : List Slot) (generation : ℕ) (k : Known) : Type 0 where
  pub knows : Knows slots k
  pub generation_is : k.master.generation ≡ generation

-- the latch of a frame's row was loaded as its last version
pub record IsSpent (frames : ℕ) (v : View) : Type 0 where
  pub row : ℕ
  pub within : row < frames
  pub version : ℕ
  pub last : LAST ≤ version
  pub found : Finds row version v.steps

-- a page is saved, or a row was not as it has to be
abbrev pub is_savers : Event → Bool
is_savers (Save p) = true
is_savers (Miss w) = true
is_savers _ = false

-- From one view to another by such events alone, so many at most, each met where it stands: no row is held, and there are as many slots,
-- and bytes in the buffer.
pub record HasGone (most : ℕ) (z y : Shape) (v u : View) (was is : List Slot) (before after : List ℕ) : Type 0 where
  pub shape : y ≡ z
  pub events : List Event
  pub are : all is_savers events ≡ true
  pub few : length events ≤ most
  pub ran : Ran true v events u
  pub met : AreMet v.given (state v) ran.more
  pub held : u.held ≡ []
  pub slots : length is ≡ length was
  pub buffer : length after ≡ length before
