-- What a call of the pager makes of the disk: of its pages' area alone, and where a run of the core goes on over it.
use Rattle.std.specs.Prelude.{◌≡◌, Bool, true, false, List, ◌++◌}
use Rattle.map_model.specs.Lists.{any}
use Rattle.btree_descent.specs.core_state.Openings.{Opening}
use Rattle.btree_descent.specs.core_state.Events as happening
use Rattle.lean_disk.specs.Moments.{LeavesOnly, OnlyReads}
use Rattle.lean_disk.specs.Story.{Crash, Story}
use Rattle.disk_runs.specs.Moments.{LeavesSome}
use Rattle.disk_runs.specs.Stands.{Known}
use Rattle.page_calls.specs.Calls.{IsOn}
use Rattle.row_opening.specs.Openings.{Opens}
use Rattle.btree_descent.specs.row_words.declared.event.Event.{Event}
use Rattle.btree_descent.specs.row_words.Moments.{events_of}
use Rattle.btree_descent.specs.rows_trait.declared.view.View.{View}
use Rattle.page_provider.specs.Providers.{Provider}

-- what has happened by a view, from where the core began
abbrev pub told : View → List happening.Event
told v = events_of v.given.before ++ events_of v.seen

-- The rows began as the opening, and a run of the core stands over the disk, behind all that the view has seen. The
-- pager saves by the master's generation.
pub record Runs (g : Opening) (s0 : Crash) (x : Known) (k : Provider) (v : View) (s : Story) : Type 0 where
  pub opens : Opens g v.given
  pub on : IsOn g (told v) s0 x k.slots s
  pub generation : x.master.generation ≡ k.generation

-- of the disk but for its pages the same is known
pub record IsBeside (x y : Known) : Type 0 where
  pub master : y.master ≡ x.master
  pub log : y.log ≡ x.log
  pub account : y.account ≡ x.account

-- Where nobody else steps: at every moment a crash leaves what one after the first of the call's events does; and
-- unless the pager is broken by then, the run stands over the disk behind all of them.
pub record Went (g : Opening) (s0 : Crash) (x : Known) (v : View) (k : Provider) (u : View) (old new : Story) : Type 0 where
  pub more : List happening.Event
  pub is : told u ≡ told v ++ more
  pub any_moment : LeavesOnly old new (LeavesSome g (told v) more s0 x.master)
  pub stands : k.broken ≡ false → (y : Known) × IsBeside x y × Runs g s0 y k u new

-- in each run
abbrev pub Disked : (alone : Bool) → (was : Provider) → View → (is : Provider) → View → (old new : Story) → Type 0
Disked alone was v is u old new = alone ≡ true → (g : Opening) (s0 : Crash) (x : Known) → Runs g s0 x was v old → Went g s0 x v is u old new

-- ## The pages' area

-- a page is saved
abbrev pub saves_page : happening.Event → Bool
saves_page (happening.Event.Save p) = true
saves_page _ = false

-- Where none of the events that were seen more saves a page, the device was only read, unless the pager is broken behind it.
pub record ReadsUnlessSaved (v u : View) (is : Provider) (old new : Story) : Type 0 where
  pub more : List Event
  pub seen : u.seen ≡ v.seen ++ more
  pub reads : is.broken ≡ false → any saves_page (events_of more) ≡ false → OnlyReads old new
