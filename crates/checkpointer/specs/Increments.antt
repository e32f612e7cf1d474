-- An increment: the dirty pages of one shard are saved, and the pages are synced.
use Rattle.std.specs.Prelude.{◌≡◌, ◌<◌, ◌≤◌, ◌++◌, ◌||◌, ℕ, Bool, true, false, List}
use Rattle.map_model.specs.Lists.{all, upd}
use Rattle.disk_runs.specs.core_state.Openings.{Opening}
use Rattle.disk_runs.specs.core_state.States.{State}
use Rattle.disk_runs.specs.core_state.Events.{Event}
use Rattle.disk_runs.specs.core_state.Steps.{AllMet, state_after}
use Rattle.lean_disk.specs.Moments.{LeavesOnly}
use Rattle.lean_disk.specs.Story.{Crash, Story}
use Rattle.disk_runs.specs.Moments.{LeavesSome}
use Rattle.disk_runs.specs.Stands.{Known, Stands}
use Rattle.core_covers.specs.Covers.{AreCovers, shard_of}
use Rattle.checkpointer.specs.Savers.{IsDirtyIn, PagesGo, firm_of, is_miss}
use Rattle.checkpointer.specs.declared.increment.Unsaved.{Unsaved}
use Rattle.checkpointer.specs.declared.increment.Unsaved.TheVariants.{Again, RowSpent, DiskFault}

-- a page is saved
abbrev pub is_save : Event → Bool
is_save (Event.Save p) = true
is_save _ = false

-- pages are saved, and nothing else is done
abbrev pub AreSaves : List Event → Type 0
AreSaves es = all is_save es ≡ true

-- a dirty page of the shard has a number above this one
pub record IsAbove (s : State) (shard floor page gsn : ℕ) : Type 0 where
  pub frame : ℕ
  pub of_shard : shard_of frame ≡ shard
  pub found : IsDirtyIn s frame page gsn
  pub above : floor < gsn

-- there is one
abbrev pub IsSomeAbove : State → (shard floor : ℕ) → Type 0
IsSomeAbove s shard floor = (page : ℕ) × (gsn : ℕ) × IsAbove s shard floor page gsn

-- a refusal for that
abbrev pub IsAgain : Unsaved → Type 0
IsAgain (Again p n f) = Unit {0}
IsAgain RowSpent = ⊥
IsAgain DiskFault = ⊥

-- it tells of such a page
abbrev pub TellsAgain : State → (shard floor : ℕ) → Unsaved → Type 0
TellsAgain s shard floor (Again p n f) = IsAbove s shard floor p n × (f ≡ floor)
TellsAgain s shard floor RowSpent = Unit {0}
TellsAgain s shard floor DiskFault = Unit {0}

-- What a crash leaves at every moment of it, by the saves that it makes; and no line came out.
pub record KeepsSome (g : Opening) (es saves : List Event) (Knew : Known → Type 0) (old new : Story) : Type 0 where
  pub moments : (s0 : Crash) (k : Known) → Stands g es s0 k old → Knew k → LeavesOnly old new (LeavesSome g es saves s0 k.master)
  pub told : (s0 : Crash) (k : Known) → Stands g es s0 k old → Knew k → LeavesOnly old new (λ c. c.notes ≡ old.notes)

-- what is known is right, and the covers are what they are
pub record KnowsCovers (g : Opening) (es : List Event) (Knows : Known → Type 0) (cover : ℕ → ℕ) (k : Known) : Type 0 where
  pub knows : Knows k
  pub covers : AreCovers g (state_after g es) cover (firm_of k)

-- The shard was saved: by saves alone, each of which was met. The disk stands for them, and the floor is the cover of the shard.
pub record Increments (g : Opening) (es now : List Event) (shard floor : ℕ) (Knew Knows : Known → Type 0) (old new : Story) : Type 0 where
  pub saves : List Event
  pub are : AreSaves saves
  pub met : AllMet g (state_after g es) saves
  pub now_is : now ≡ es ++ saves
  pub covers : (cover : ℕ → ℕ) → PagesGo g es saves (KnowsCovers g es Knew cover) (KnowsCovers g (es ++ saves) Knows (upd cover shard floor)) old new
  pub keeps : KeepsSome g es saves Knew old new

-- A device failed behind some saves.
pub record IncrementFails (g : Opening) (es : List Event) (Knew : Known → Type 0) (old new : Story) : Type 0 where
  pub saves : List Event
  pub are : AreSaves saves
  pub keeps : KeepsSome g es saves Knew old new

-- pages are saved, or rows were not as they have to be
abbrev pub AreSavesOrMisses : List Event → Type 0
AreSavesOrMisses es = all (λ e. is_save e || is_miss e) es ≡ true

-- A row could not be latched behind some saves: each run goes on behind these.
pub record IncrementStops (g : Opening) (es now : List Event) (Knew Knows : Known → Type 0) (old new : Story) : Type 0 where
  pub events : List Event
  pub are : AreSavesOrMisses events
  pub met : AllMet g (state_after g es) events
  pub now_is : now ≡ es ++ events
  pub go : PagesGo g es events Knew Knows old new
  pub keeps : KeepsSome g es events Knew old new

-- by so many events at most
abbrev pub Within : (Since : ℕ → Type 0) → (most : ℕ) → Type 0
Within Since most = (n : ℕ) × (n ≤ most) × Since n
