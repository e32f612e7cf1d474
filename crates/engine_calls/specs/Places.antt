-- A place on which sessions stand, over a disk: what its calls leave, and how they are put together.
use Rattle.std.specs.Prelude.{◌≡◌, ◌≤◌, ◌<◌, ℕ, Bool, true, false, List, [], ◌++◌}
use Rattle.run_crashes.specs.core_state.Openings.{Opening}
use Rattle.run_crashes.specs.core_state.Events.{Event}
use Rattle.lean_disk.specs.Moments.{LeavesOnly}
use Rattle.lean_disk.specs.Story.{Crash, IsLawful, Story}
use Rattle.run_crashes.specs.worker_log.Logs.{Log}
use Rattle.run_crashes.specs.disk_runs.Masters.{IsNoEarlier}
use Rattle.run_crashes.specs.disk_runs.Moments.{LeavesSome}
use Rattle.run_crashes.specs.disk_runs.Stands.{Known, Stands}

-- at every moment: as many lines are out as before, and some first ones of these events have happened
pub record PlaceLeaves (g : Opening) (es more : List Event) (s0 : Crash) (k : Known) (s : Story) (c : Crash) : Type 0 where
  pub notes : c.notes ≡ s.notes
  pub some : LeavesSome g es more s0 k.master c

-- the disk stands for the events, and its logs are those of the place
pub record StandsAt (g : Opening) (es : List Event) (s0 : Crash) (k : Known) (logs : ℕ → Log) (s : Story) : Type 0 where
  pub stands : Stands g es s0 k s
  pub logs_are : (w : ℕ) → 0 < w → w ≤ g.workers → k.log w ≡ logs w

-- behind more events it does so by the master of k, or by one that was written by these
pub record StandsOn (g : Opening) (es more : List Event) (s0 : Crash) (k : Known) (logs : ℕ → Log) (s : Story) : Type 0 where
  pub known : Known
  pub no_earlier : IsNoEarlier more k.master known.master
  pub at : StandsAt g (es ++ more) s0 known logs s

-- Calls that went on by these events, to a place with these logs. Where that works, the disk stands for them.
pub record Went (g : Opening) (es more : List Event) (s0 : Crash) (k : Known) (works : Bool) (logs : ℕ → Log) (old new : Story) : Type 0 where
  pub any_moment : LeavesOnly old new (PlaceLeaves g es more s0 k old)
  pub notes : new.notes ≡ old.notes
  pub after : works ≡ true → StandsOn g es more s0 k logs new

-- How such calls are put together, between three places.
pub record PlaceLaws (g : Opening) (es : List Event) (s0 : Crash) (k : Known) (old mid new : Story) : Type 0 where
  -- nothing happens
  pub rests : (works : Bool) (logs : ℕ → Log) → IsLawful old → StandsAt g es s0 k logs old → Went g es [] s0 k works logs old old
  -- the first works, and the second goes on from it, from whatever its disk stands for
  pub joins : (xs ys : List Event) (works : Bool) (mid_logs logs : ℕ → Log) → Went g es xs s0 k true mid_logs old mid
      → ((n : Known) → StandsAt g (es ++ xs) s0 n mid_logs mid → Went g (es ++ xs) ys s0 n works logs mid new) → Went g es (xs ++ ys) s0 k works logs old new
  -- the first met a fault, and is left so
  pub stays : (xs ys : List Event) (logs : ℕ → Log) → Went g es xs s0 k false logs old mid → Went g es (xs ++ ys) s0 k false logs old mid

-- in each run
abbrev pub EveryPlace : (old mid new : Story) → Type 0
EveryPlace old mid new = (g : Opening) (es : List Event) (s0 : Crash) (k : Known) → PlaceLaws g es s0 k old mid new

-- ## Places of any kind

module _ {A : Type 0} (story : A → Story) (works : A → Bool) (logs : A → ℕ → Log) where
  -- From a to b by these events. A broken place is left as it is; one that works goes on from whatever its disk stands for.
  pub record LeavesAt (g : Opening) (es more : List Event) (a b : A) : Type 0 where
    pub broken : works a ≡ false → b ≡ a
    pub goes : works a ≡ true → (s0 : Crash) (k : Known) → StandsAt g es s0 k (logs a) (story a) → Went g es more s0 k (works b) (logs b) (story a) (story b)
