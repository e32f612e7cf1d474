-- Words of private functions: how an increment goes from frame to frame.
use Rattle.std.specs.Prelude.{◌≡◌, ◌<◌, ◌≤◌, ◌+◌, ◌++◌, ℕ, true, List, length, slice_index, Option, Some, None}
use Rattle.disk_runs.specs.core_state.Openings.{Opening}
use Rattle.disk_runs.specs.core_state.States.{State, in_frame}
use Rattle.disk_runs.specs.core_state.Events.{Event}
use Rattle.disk_runs.specs.core_state.Needs.{is_dirty}
use Rattle.disk_runs.specs.core_state.Steps.{AllMet, state_after}
use Rattle.lean_disk.specs.Moments.{Framed}
use Rattle.lean_disk.specs.Story.{Story}
use Rattle.disk_runs.specs.disk_slots.declared.master.Master.{Master}
use Rattle.disk_runs.specs.worker_log.Calls.{cut_log}
use Rattle.disk_runs.specs.worker_log.Logs.{Log, passed_by}
use Rattle.disk_runs.specs.Stands.{Known}
use Rattle.core_covers.specs.Covers.{shard_of}
use Rattle.checkpointer.specs.Increments.{AreSaves, IsAbove, KeepsSome}
use Rattle.checkpointer.specs.Numbers.{cover_of}
use Rattle.checkpointer.specs.Savers.{PagesGo}
use Rattle.checkpointer.specs.declared.saver.Dirty.{Dirty}

-- of these frames none of the shard has a dirty page above the number
abbrev pub AreLow : State → (shard floor : ℕ) → (Of : ℕ → Type 0) → Type 0
AreLow s shard floor Of = (p f : ℕ) → Of f → in_frame (s.place p) f ≡ true → shard_of f ≡ shard → is_dirty s p ≡ true → (s.page p).gsn ≤ floor

-- a dirty page of the shard in one of these frames is above the number, or there is none
abbrev pub Above : State → (shard floor : ℕ) → (Of : ℕ → Type 0) → Option Dirty → Type 0
Above s shard floor Of (Some d) = IsAbove s shard floor d.page d.gsn
Above s shard floor Of None = AreLow s shard floor Of

-- in these frames no page of the shard is dirty
abbrev pub AreSaved : State → (shard : ℕ) → (Of : ℕ → Type 0) → Type 0
AreSaved s shard Of = (p f : ℕ) → Of f → in_frame (s.place p) f ≡ true → shard_of f ≡ shard → (s.page p).gsn ≤ (s.saved p).gsn

-- The pages of the shard in these frames were saved.
pub record Going (g : Opening) (es now : List Event) (shard : ℕ) (Of : ℕ → Type 0) (Knew Knows : Known → Type 0) (old new : Story) : Type 0 where
  pub saves : List Event
  pub are : AreSaves saves
  pub met : AllMet g (state_after g es) saves
  pub now_is : now ≡ es ++ saves
  pub go : PagesGo g es saves Knew Knows old new
  pub keeps : KeepsSome g es saves Knew old new
  pub frame : Framed 1 old new
  pub saved : AreSaved (state_after g now) shard Of

-- the greatest number up to the first n covers and the floor
pub record IsLeastCover (covers : List ℕ) (floor n x : ℕ) : Type 0 where
  pub covered : (k : ℕ) → k < n → x ≤ cover_of covers k
  pub low : x ≤ floor
  pub greatest : (y : ℕ) → ((k : ℕ) → k < n → y ≤ cover_of covers k) → y ≤ floor → y ≤ x

-- ## A cut

-- the heads of the first logs, below n, behind the blocks that have no record above x
abbrev pub AreHeadsTo : (x n : ℕ) → (log : ℕ → Log) → List ℕ → Type 0
AreHeadsTo x n log heads = (k : ℕ) → k + 1 < n → slice_index heads k ≡ (log (k + 1)).head + passed_by x (log (k + 1)).ends

-- those of all
pub record AreHeads (x count : ℕ) (log : ℕ → Log) (heads : List ℕ) : Type 0 where
  pub logs : length heads ≡ count
  pub each : AreHeadsTo x (count + 1) log heads

-- the same heads
abbrev pub AreSame : List ℕ → List ℕ → Type 0
AreSame heads others = (k : ℕ) → k < length heads → slice_index heads k ≡ slice_index others k

-- the next master, with these heads and this floor
abbrev pub next_cut : Master → List ℕ → ℕ → Master
next_cut m heads floor = record m { sequence = m.sequence + 1; floor = floor; heads = heads }

-- the first logs, below n, have passed their blocks, and the others not
pub record ArePassedTo (x n : ℕ) (was is : ℕ → Log) : Type 0 where
  pub below : (w : ℕ) → 0 < w → w < n → is w ≡ cut_log (passed_by x (was w).ends) (was w)
  pub others : (w : ℕ) → n ≤ w → is w ≡ was w
