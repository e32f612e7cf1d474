-- What holds at every moment of a whole run, and what of it recovery gives.
use Rattle.std.specs.Prelude.{◌≡◌, true, List, ◌∷◌, ◌++◌, ℕ}
use Rattle.map_model.specs.Lists.{Has}
use Rattle.map_model.specs.Journals.{Txn, Serial}
use Rattle.core_disk.specs.core_state.Openings.{Opening, first_map}
use Rattle.core_disk.specs.core_state.Events.{Event}
use Rattle.core_disk.specs.core_state.Steps.{state_after}
use Rattle.core_disk.specs.core_crash.Crashes.{IsRipe, journal_in}
use Rattle.lean_disk.specs.Moments.{LeavesOnly}
use Rattle.lean_disk.specs.Story.{Crash, Story}
use Rattle.master_store.specs.disk_slots.declared.master.Master.{Master}
use Rattle.master_store.specs.disk_image.Shown.{Areas}
use Rattle.core_disk.specs.Held.{HoldsRun}
use Rattle.core_disk.specs.Lives.{Lives}
use Rattle.disk_runs.specs.Fair.{IsFairFrom}
use Rattle.disk_runs.specs.MasterLaws.{LeavesEither}
use Rattle.disk_runs.specs.Masters.{IsNextOf, IsNoEarlier, is_master}
use Rattle.disk_runs.specs.Stands.{LeavesRun}

-- ## One moment

-- The disk holds what a crash leaves after the events least and some first ones of more, by a master that is n or was written by these first ones.
pub record HoldsSome (g : Opening) (least more : List Event) (n : Master) (area : Areas) : Type 0 where
  pub first : List Event
  pub rest : List Event
  pub is : first ++ rest ≡ more
  pub master : Master
  pub no_earlier : IsNoEarlier first n master
  pub holds : HoldsRun g (least ++ first) master area

-- A crash in a call, behind the events of all calls before it, whose own events are more: if its image is fair, the disk holds that.
abbrev pub LeavesSome : Opening → (least more : List Event) → Crash → Master → Crash → Type 0
LeavesSome g least more s0 n c = IsFairFrom g.workers s0 c → HoldsSome g least more n c.image

-- How one moment is carried along a call and from one call to the next.
pub record SomeLaws (g : Opening) (es : List Event) (s0 : Crash) (n : Master) (c : Crash) : Type 0 where
  -- a moment before the first event of a call, and one at the event of a master
  pub run : (more : List Event) → LeavesRun g es s0 n c → LeavesSome g es more s0 n c
  pub master : (e : Event) (m : Master) (more : List Event) → is_master e ≡ true → IsNextOf n m → LeavesEither g es e s0 n m c → LeavesSome g es (e ∷ more) s0 n c
  -- more happens in the call; and some of it had happened before, by when another master may have counted
  pub longer : (xs ys : List Event) → LeavesSome g es xs s0 n c → LeavesSome g es (xs ++ ys) s0 n c
  pub later : (xs ys : List Event) (m : Master) → IsNoEarlier xs n m → LeavesSome g (es ++ xs) ys s0 m c → LeavesSome g es (xs ++ ys) s0 n c

-- at whatever crash
abbrev pub EveryAmong : Type 0
EveryAmong = (g : Opening) (es : List Event) (s0 : Crash) (n : Master) (c : Crash) → SomeLaws g es s0 n c

-- ## All moments of calls

-- What one call leaves, in one of these words: as before its events, or as before or after the event of a master.
pub record MomentLaws (g : Opening) (es : List Event) (s0 : Crash) (n : Master) (from old new : Story) : Type 0 where
  pub call : (more : List Event) → LeavesOnly old new (LeavesRun g es s0 n) → LeavesOnly old new (LeavesSome g es more s0 n)
  pub master : (e : Event) (m : Master) (more : List Event) → is_master e ≡ true → IsNextOf n m → LeavesOnly old new (LeavesEither g es e s0 n m) → LeavesOnly old new (LeavesSome g es (e ∷ more) s0 n)
  -- calls that go on from some story, by more events and more calls
  pub more : (early later : List Event) (m : Master) → IsNoEarlier early n m → LeavesOnly from old (LeavesSome g es early s0 n) → LeavesOnly old new (LeavesSome g (es ++ early) later s0 m)
      → LeavesOnly from new (LeavesSome g es (early ++ later) s0 n)
  -- how many lines were out is one more fact of a moment
  pub noted : (notes : ℕ) (more : List Event) → LeavesOnly old new (λ c. c.notes ≡ notes) → LeavesOnly old new (LeavesSome g es more s0 n) → LeavesOnly old new (λ c. (c.notes ≡ notes) × LeavesSome g es more s0 n c)

-- from any story to any later one
abbrev pub EveryMoment : (from old new : Story) → Type 0
EveryMoment from old new = (s0 : Crash) (g : Opening) (es : List Event) (n : Master) → MomentLaws g es s0 n from old new

-- ## What recovery gives

-- A transaction that was committed and ripe is so from then on.
pub record Lasts (g : Opening) (es later : List Event) (t : Txn) : Type 0 where
  pub has : Has t (journal_in g (state_after g (es ++ later)))
  pub ripe : IsRipe g (state_after g es) t → IsRipe g (state_after g (es ++ later)) t

-- in each run, of each transaction of its journal
abbrev pub EveryLasting : Type 0
EveryLasting = (g : Opening) (es later : List Event) (t : Txn) → Has t (journal_in g (state_after g es)) → Lasts g es later t

-- What recovery gives from whatever a fair crash leaves: the map after a closed set of the transactions committed by some moment, run
-- one after another, in which is each that was ripe by then.
pub record Survives (g : Opening) (least more : List Event) (n : Master) (area : Areas) : Type 0 where
  pub first : List Event
  pub rest : List Event
  pub is : first ++ rest ≡ more
  pub master : Master
  pub no_earlier : IsNoEarlier first n master
  pub lives : Lives g (state_after g (least ++ first)) master area
  pub serial : Serial (first_map g) (journal_in g (state_after g (least ++ first)))

-- From any disk that a fair crash left recovery gives that.
abbrev pub EverySurvival : Type 0
EverySurvival = (g : Opening) (least more : List Event) (n : Master) (area : Areas) → HoldsSome g least more n area → Survives g least more n area
