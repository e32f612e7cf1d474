-- Who saves the pages that stand in frames: what its calls say, in the words of a run over a disk.
use Rattle.std.specs.Prelude.{◌≡◌, ◌≤◌, ◌↔◌, ◌++◌, ◌∷◌, [], ℕ, Bool, true, false, List, Option, Some, None}
use Rattle.map_model.specs.Lists.{all}
use Rattle.disk_runs.specs.core_state.Openings.{Opening}
use Rattle.disk_runs.specs.core_state.States.{State, flushed_by_all, in_frame}
use Rattle.disk_runs.specs.core_state.Events.{Event}
use Rattle.disk_runs.specs.core_state.Needs.{is_dirty, may}
use Rattle.disk_runs.specs.core_state.Steps.{AllMet, state_after}
use Rattle.lean_disk.specs.Moments.{LeavesOnly}
use Rattle.lean_disk.specs.Story.{Crash, Story}
use Rattle.disk_runs.specs.page_store.Bases.{image_page}
use Rattle.disk_runs.specs.Stands.{Known, LeavesRun, Stands}
use Rattle.core_covers.specs.Covers.{IsSettled}
use Rattle.checkpointer.specs.declared.saver.Dirty.{Dirty}

-- ## Pages in frames

-- the page stands in the frame and is dirty, and this is its number
pub record IsDirtyIn (s : State) (frame page gsn : ℕ) : Type 0 where
  pub stands : in_frame (s.place page) frame ≡ true
  pub gsn_is : gsn ≡ (s.page page).gsn
  pub dirty : is_dirty s page ≡ true

-- the frame's dirty page, or that it has none
abbrev pub IsFound : State → (frame : ℕ) → Option Dirty → Type 0
IsFound s frame (Some d) = IsDirtyIn s frame d.page d.gsn
IsFound s frame None = (p : ℕ) → in_frame (s.place p) frame ≡ true → (s.page p).gsn ≤ (s.saved p).gsn

-- it has one, which may be saved
pub record MaySave (g : Opening) (s : State) (frame : ℕ) : Type 0 where
  pub page : ℕ
  pub gsn : ℕ
  pub found : IsDirtyIn s frame page gsn
  pub flushed : gsn ≤ flushed_by_all g s

-- It was only looked at: the rows may have begun as before, no event was seen, and what was known is right still.
pub record Looked (Opened Opens : Opening → Type 0) (es now : List Event) (Knew Knows : Known → Type 0) : Type 0 where
  pub opens : (o : Opening) → Opened o ↔ Opens o
  pub front : now ≡ es
  pub knows : (k : Known) → Knew k → Knows k

-- ## Calls on the pages' area

-- the number of what is firm of each page
abbrev pub firm_of : Known → ℕ → ℕ
firm_of k p = (image_page (k.firm p).page).gsn

-- of all but the pages' area the same is known
pub record SameLogs (a b : Known) : Type 0 where
  pub master : b.master ≡ a.master
  pub log : b.log ≡ a.log
  pub account : b.account ≡ a.account

-- The disk stands for these events, and what is known of it is right.
pub record Reaches (g : Opening) (es : List Event) (s0 : Crash) (k : Known) (Knows : Known → Type 0) (new : Story) : Type 0 where
  pub known : Known
  pub stands : Stands g es s0 known new
  pub knows : Knows known
  pub same : SameLogs k known

-- it goes on from es by more events, in each run
abbrev pub PagesGo : Opening → (es more : List Event) → (Knew Knows : Known → Type 0) → (old new : Story) → Type 0
PagesGo g es more Knew Knows old new = (s0 : Crash) (k : Known) → Stands g es s0 k old → Knew k → Reaches g (es ++ more) s0 k Knows new

-- What a call shows of its moments, answered or not: at each a fair crash leaves what one after the events before it does, and no line came out.
pub record KeepsRun (g : Opening) (es : List Event) (Knew : Known → Type 0) (old new : Story) : Type 0 where
  pub moments : (s0 : Crash) (k : Known) → Stands g es s0 k old → Knew k → LeavesOnly old new (LeavesRun g es s0 k.master)
  pub told : (s0 : Crash) (k : Known) → Stands g es s0 k old → Knew k → LeavesOnly old new (λ c. c.notes ≡ old.notes)

-- ## A save, and a sync of the pages

-- the page of the frame was saved
pub record Saves (g : Opening) (es now : List Event) (frame : ℕ) (Knew Knows : Known → Type 0) (old new : Story) : Type 0 where
  pub page : ℕ
  pub stands : in_frame ((state_after g es).place page) frame ≡ true
  pub met : may g (state_after g es) (Event.Save page) ≡ true
  pub now_is : now ≡ es ++ Event.Save page ∷ []
  pub go : PagesGo g es (Event.Save page ∷ []) Knew Knows old new

-- what is known is right, and what was saved of each page is firm
pub record KnowsFirm (g : Opening) (es : List Event) (Knows : Known → Type 0) (k : Known) : Type 0 where
  pub knows : Knows k
  pub firm : IsSettled g (state_after g es) (firm_of k)

-- the pages were synced
pub record Settles (g : Opening) (es now : List Event) (Knew Knows : Known → Type 0) (old new : Story) : Type 0 where
  pub now_is : now ≡ es
  pub go : PagesGo g es [] Knew (KnowsFirm g es Knows) old new

-- ## A row that can't be latched

-- a row was not as it has to be
abbrev pub is_miss : Event → Bool
is_miss (Event.Miss w) = true
is_miss _ = false

-- Nothing was saved: misses were appended at most, and each run goes on.
pub record Stops (g : Opening) (es now : List Event) (Knew Knows : Known → Type 0) (old new : Story) : Type 0 where
  pub misses : List Event
  pub are : all is_miss misses ≡ true
  pub met : AllMet g (state_after g es) misses
  pub now_is : now ≡ es ++ misses
  pub go : PagesGo g es misses Knew Knows old new
