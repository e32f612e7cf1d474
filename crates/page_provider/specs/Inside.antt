-- Words of private functions.
use Rattle.std.specs.Prelude.{◌≡◌, ◌≤◌, ◌<◌, ℕ, Bool, true, false, List, [], ◌∷◌, length, Some}
use Rattle.page_model.specs.Page.{Page}
use Rattle.btree_descent.specs.core_state.Openings.{Opening}
use Rattle.btree_descent.specs.core_state.Events as happening
use Rattle.btree_descent.specs.core_state.Needs.{is_dirty}
use Rattle.btree_descent.specs.core_state.States.{in_frame, is_cooling, waits_for}
use Rattle.lean_disk.specs.Story.{Crash, Story}
use Rattle.disk_runs.specs.core_disk.Versions.{then}
use Rattle.disk_runs.specs.Stands.{Known}
use Rattle.btree_descent.specs.row_words.declared.event.Event.{Event}
use Rattle.btree_descent.specs.row_words.declared.event.Event.TheVariants.{Evict, Save}
use Rattle.btree_descent.specs.row_words.Openings.{opening}
use Rattle.btree_descent.specs.rows_trait.declared.view.View.{View}
use Rattle.btree_descent.specs.rows_trait.Views.{Shape, state}
use Rattle.btree_descent.specs.rows_trait.Turns.{Ran}
use Rattle.cooling_stage.specs.declared.stage.Cooling.{Cooling}
use Rattle.cooling_stage.specs.Queue.{found}
use Rattle.page_calls.specs.Calls.{IsOn, Saves}
use Rattle.held_rows.specs.Rows.{HoldsOne}
use Rattle.page_calls.specs.declared.slots.Slot.{Slot}
use Rattle.page_provider.specs.declared.refusal.Refusal.{Refusal}
use Rattle.page_provider.specs.Disks.{IsBeside}
use Rattle.page_provider.specs.Evicts.{gone}
use Rattle.page_provider.specs.Providers.{Provider}
use Rattle.page_provider.specs.Refusals.{Caused, IsOfRow, IsOthers}
use Rattle.page_provider.specs.Steps.{Goes, IsMissAtMost}

-- There is room for each frame, each page has its slots, and a page fits into the buffer.
pub record IsWhole (frames capacity : ℕ) (free : List Bool) (slots : List Slot) (buffer : List ℕ) : Type 0 where
  pub room : frames ≤ capacity
  pub each : length slots ≡ length free
  pub size : length buffer ≡ 1024

-- the page cools, and waits for none of the workers
pub record MayGo (v : View) (page : ℕ) : Type 0 where
  pub below : page < (opening v.given).format.pages
  pub cooling : is_cooling ((state v).core.place page) ≡ true
  pub unwaited : (w : ℕ) → w ≤ (opening v.given).workers → waits_for ((state v).core.place page) w ≡ false

-- what the queue holds of it
pub record IsEntered (v : View) (k : Provider) (entry : Cooling) : Type 0 where
  pub goes : MayGo v entry.page
  pub found_is : found entry.page k.queue ≡ Some entry

-- Nothing was appended, and this says whether the page in the frame is dirty.
pub record Judges (z : Shape) (v : View) (frame : ℕ) (dirty : Bool) (u : View) : Type 0 where
  pub ran : Ran z.alone v [] u
  pub says : (p : ℕ) → p < (opening u.given).format.pages → in_frame ((state u).core.place p) frame ≡ true → dirty ≡ is_dirty (state u).core p

-- Nothing was appended, and this is the number of the page in the frame.
pub record Numbers (z : Shape) (v : View) (frame number : ℕ) (u : View) : Type 0 where
  pub ran : Ran z.alone v [] u
  pub says : (p : ℕ) → p < (opening u.given).format.pages → in_frame ((state u).core.place p) frame ≡ true → number ≡ ((state u).core.page p).gsn

-- A row was not as it has to be: one miss at most was appended, the same rows are held, and this is why.
pub record Missed (z : Shape) (v : View) (why : Refusal) (u : View) : Type 0 where
  pub misses : List Event
  pub few : IsMissAtMost misses
  pub ran : Ran z.alone v misses u
  pub held : u.held ≡ v.held
  pub kind : IsOfRow why
  pub cause : Caused v why u
  pub quiet : z.alone ≡ true → v.held ≡ [] → IsOthers why → ⊥

-- The frame's row is held, and no other.
pub record Takes (z : Shape) (v : View) (frame : ℕ) (u : View) : Type 0 where
  pub ran : Ran z.alone v [] u
  pub one : HoldsOne z u frame

-- The page was saved, and may go.
pub record HasSaved (z : Shape) (v : View) (was : Provider) (entry : Cooling) (u : View) (is : Provider) : Type 0 where
  pub goes : Goes z v (Save entry.page ∷ []) u is
  pub pool : is ≡ record was { slots = is.slots }
  pub entered : IsEntered u is entry
  pub clean : is_dirty (state u).core entry.page ≡ false

-- It has left its frame, and the queue.
pub record HasGone (z : Shape) (v : View) (was : Provider) (entry : Cooling) (u : View) (is : Provider) : Type 0 where
  pub goes : Goes z v (Evict entry.page ∷ []) u is
  pub pool : is ≡ gone was entry.page entry.frame (record was { kept = is.kept })

-- It was saved, and has left then.
pub record HasCleared (z : Shape) (v : View) (was : Provider) (entry : Cooling) (u : View) (is : Provider) : Type 0 where
  pub behind : View
  pub mid : Provider
  pub saved : HasSaved z v was entry behind mid
  pub gone : HasGone z behind mid entry u is

-- ## The device, in each run

-- no page was saved, and of the disk but for its pages the same is known
abbrev pub StandsOn : (was is : List Slot) → (old new : Story) → Type 0
StandsOn was is old new = (s0 : Crash) (g : Opening) (es : List happening.Event) (x : Known) → IsOn g es s0 x was old → (y : Known) × IsBeside x y × IsOn g es s0 y is new

-- the page was saved, and of the disk but for its pages the same is known
abbrev pub WritesOn : (was is : List Slot) → Page → (old new : Story) → Type 0
WritesOn was is n old new = (s0 : Crash) (g : Opening) (es : List happening.Event) (x : Known) → IsOn g es s0 x was old → Saves g es x n → (y : Known) × IsBeside x y × IsOn g (then es (happening.Event.Save n.number)) s0 y is new
