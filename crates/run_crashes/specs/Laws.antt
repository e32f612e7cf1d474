-- How a run of a script goes on, line by line, with what a crash at each moment leaves. Of each law m is the master of the disk that was opened,
-- and n the one that counts when the call begins.
use Rattle.std.specs.Prelude.{◌≡◌, ℕ, Bool, true, false, List, [], ◌∷◌, ◌++◌, Some, None, IsTrue}
use Rattle.map_model.specs.Outputs.{Reply}
use Rattle.disk_runs.specs.core_state.Openings.{Opening}
use Rattle.disk_runs.specs.core_state.Events.{Event}
use Rattle.disk_runs.specs.core_state.Steps.{state_after}
use Rattle.lean_disk.specs.Area.{Leaves}
use Rattle.lean_disk.specs.Moments.{LeavesOnly}
use Rattle.lean_disk.specs.Story.{Crash, Story, Tells}
use Rattle.disk_runs.specs.disk_slots.declared.master.Master.{Master}
use Rattle.disk_runs.specs.disk_image.Shown.{Areas}
use Rattle.disk_runs.specs.core_disk.Held.{HoldsRun}
use Rattle.disk_runs.specs.Masters.{IsOfRunBy}
use Rattle.disk_runs.specs.Stands.{Known, LeavesRun, Stands}
use Rattle.core_calls.specs.Deeds.{commits}
use Rattle.core_calls.specs.Fronts.{Done, front}
use Rattle.core_calls.specs.Marks.{marks}
use Rattle.core_calls.specs.Printed.{printed}
use Rattle.core_calls.specs.Refusals.{Limits}
use Rattle.core_calls.specs.Runs.{EachTells}
use Rattle.run_crashes.specs.Lines.{CallLeaves, PutLeaves, Recovers, RunLeft}

-- nothing is committed by these events
abbrev pub CommitsNone : Opening → List Done → List Event → Type 0
CommitsNone g xs es = (w : ℕ) → commits (marks g (state_after g (front xs)) es w []) ≡ false

-- Of which events behind which outcomes a test says so. A law of each crash has such a test, since a law of all `List Done → List Event → Type 0` is of
-- `Type 1`, and no contract; the lemmas in proofs/ are of any.
abbrev pub Passing : (List Done → List Event → Bool) → List Done → List Event → Type 0
Passing test xs es = test xs es ≡ true

-- it is so of the first of these events, however many
abbrev pub OfEachFirst : (List Event → Type 0) → List Event → Type 0
OfEachFirst Such es = (first rest : List Event) → first ++ rest ≡ es → Such first

-- ## A disk that a crash left

-- What a disk holds where some outcomes were heard: among the events of the next one, among such events that commit nothing, and behind these outcomes.
pub record ReopenedLaws (l : Limits) (g : Opening) (group : ℕ) (Such : List Done → List Event → Type 0) (xs : List Done) (m n : Master) (area : Areas) : Type 0 where
  pub between : (x : Done) (before after : List Event) (newer out : List Reply) → EachTells l g group (x ∷ xs) → before ++ after ≡ x.events → newer ++ out ≡ printed g xs →
      IsOfRunBy (front xs ++ before) m n → HoldsRun g (front xs ++ before) n area → Recovers g Such xs (Some x) out m area
  pub stopped : (es : List Event) (newer out : List Reply) → EachTells l g group xs → CommitsNone g xs es → Such xs es → newer ++ out ≡ printed g xs →
      IsOfRunBy (front xs ++ es) m n → HoldsRun g (front xs ++ es) n area → Recovers g Such xs None out m area
  pub behind : (newer out : List Reply) → EachTells l g group xs → newer ++ out ≡ printed g xs → IsOfRunBy (front xs) m n → HoldsRun g (front xs) n area → Recovers g Such xs None out m area

-- in each run, on each disk
abbrev pub EveryReopenedFor : (List Done → List Event → Type 0) → Type 0
EveryReopenedFor Such = (l : Limits) (g : Opening) (group : ℕ) (xs : List Done) (m n : Master) (area : Areas) → ReopenedLaws l g group Such xs m n area

-- and for each test
abbrev pub EveryReopened : Type 0
EveryReopened = (test : List Done → List Event → Bool) → EveryReopenedFor (Passing test)

-- ## One crash

-- a crash in a call that is answered, in one that is not, while lines are put, and between two calls
pub record CrashedLaws (l : Limits) (g : Opening) (group : ℕ) (Such : List Done → List Event → Type 0) (s0 : Crash) (m n : Master) (xs : List Done) (c : Crash) : Type 0 where
  pub call : (x : Done) → EachTells l g group (x ∷ xs) → IsOfRunBy (front xs) m n → CallLeaves g xs x.events s0 n c → RunLeft g Such (x ∷ xs) s0 m c
  pub stopped : (es : List Event) → EachTells l g group xs → CommitsNone g xs es → OfEachFirst (Such xs) es → IsOfRunBy (front xs) m n → CallLeaves g xs es s0 n c → RunLeft g Such xs s0 m c
  pub put : (x : Done) → EachTells l g group (x ∷ xs) → IsOfRunBy (front (x ∷ xs)) m n → PutLeaves g xs x s0 n c → RunLeft g Such (x ∷ xs) s0 m c
  pub behind : EachTells l g group xs → IsOfRunBy (front xs) m n → CallLeaves g xs [] s0 n c → RunLeft g Such xs s0 m c
  -- and one more call
  pub more : (x : Done) → RunLeft g Such xs s0 m c → RunLeft g Such (x ∷ xs) s0 m c

-- whatever the crash
abbrev pub EveryCrashedLineFor : (List Done → List Event → Type 0) → Type 0
EveryCrashedLineFor Such = (l : Limits) (g : Opening) (group : ℕ) (s0 : Crash) (m n : Master) (xs : List Done) (c : Crash) → CrashedLaws l g group Such s0 m n xs c

-- and for each test
abbrev pub EveryCrashedLine : Type 0
EveryCrashedLine = (test : List Done → List Event → Bool) → EveryCrashedLineFor (Passing test)

-- ## All moments

-- Where a run stands on a disk, a crash that leaves its areas as one now would does so with more lines out too.
abbrev pub EveryPut : (s : Story) → Type 0
EveryPut s = (s0 : Crash) (g : Opening) (es : List Event) (x : Known) → Stands g es s0 x s → IsTrue s.counts → (c : Crash)
    → ((a : ℕ) → Tells s a → c.writes a ≡ (s.area a).writes) → ((a : ℕ) → Tells s a → Leaves (s.area a) (c.image a)) → LeavesRun g es s0 x.master c

-- One line more: the call is answered, by when the master may be a later one, and its lines are put, all or some.
abbrev pub EveryLineFor : (List Done → List Event → Type 0) → (from old mid new : Story) → Type 0
EveryLineFor Such from old mid new = (l : Limits) (g : Opening) (group : ℕ) (s0 : Crash) (m n k : Master) (xs : List Done) (x : Done) → EachTells l g group (x ∷ xs) → IsOfRunBy (front xs) m n → IsOfRunBy (front (x ∷ xs)) m k
    → LeavesOnly from old (RunLeft g Such xs s0 m) → LeavesOnly old mid (CallLeaves g xs x.events s0 n) → LeavesOnly mid new (PutLeaves g xs x s0 k) → LeavesOnly from new (RunLeft g Such (x ∷ xs) s0 m)

-- and for each test
abbrev pub EveryLine : (from old mid new : Story) → Type 0
EveryLine from old mid new = (test : List Done → List Event → Bool) → EveryLineFor (Passing test) from old mid new

-- A call that is not answered: it committed nothing, and its events are such, however many happened; or it is the first part of one whose reply is never out.
pub record StopLaws (l : Limits) (g : Opening) (group : ℕ) (Such : List Done → List Event → Type 0) (s0 : Crash) (m n : Master) (xs : List Done) (from old new : Story) : Type 0 where
  pub nothing : (es : List Event) → EachTells l g group xs → CommitsNone g xs es → OfEachFirst (Such xs) es → IsOfRunBy (front xs) m n
      → LeavesOnly from old (RunLeft g Such xs s0 m) → LeavesOnly old new (CallLeaves g xs es s0 n) → LeavesOnly from new (RunLeft g Such xs s0 m)
  pub part : (x : Done) → EachTells l g group (x ∷ xs) → IsOfRunBy (front xs) m n
      → LeavesOnly from old (RunLeft g Such xs s0 m) → LeavesOnly old new (CallLeaves g xs x.events s0 n) → LeavesOnly from new (RunLeft g Such (x ∷ xs) s0 m)

-- of any such call
abbrev pub EveryStopFor : (List Done → List Event → Type 0) → (from old new : Story) → Type 0
EveryStopFor Such from old new = (l : Limits) (g : Opening) (group : ℕ) (s0 : Crash) (m n : Master) (xs : List Done) → StopLaws l g group Such s0 m n xs from old new

-- and for each test
abbrev pub EveryStop : (from old new : Story) → Type 0
EveryStop from old new = (test : List Done → List Event → Bool) → EveryStopFor (Passing test) from old new
