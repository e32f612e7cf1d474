-- A whole run: a list of calls, each with its lines. Stories are of `Type 1`, so this is no contract; a loop has it as an invariant, one line at a time.
use Rattle.std.proofs.Common.{ℕ, List, [], ◌∷◌}
use Rattle.disk_runs.specs.core_state.Openings.{Opening}
use Rattle.disk_runs.specs.core_state.Events.{Event}
use Rattle.lean_disk.specs.Moments.{LeavesOnly}
use Rattle.lean_disk.specs.Story.{Crash, Story}
use Rattle.disk_runs.specs.disk_slots.declared.master.Master.{Master}
use Rattle.disk_runs.specs.disk_image.Laws.{EveryAgreement}
use Rattle.disk_runs.specs.core_disk.Shows.{EveryShown}
use Rattle.core_calls.specs.Crashes.{EveryRunCrash}
use Rattle.core_calls.specs.Fronts.{Done, front}
use Rattle.core_calls.specs.Refusals.{Limits}
use Rattle.core_calls.specs.Runs.{EachTells}
use Rattle.disk_runs.specs.Masters.{IsOfRunBy}
use Rattle.run_crashes.specs.Lines.{CallLeaves, PutLeaves, RunLeft}
use Rattle.run_crashes.proofs.LineLemmas.{every_line_for}

-- From one story to another by these calls, the newest first: each answered, and its lines put. Its master is n while it runs, and k behind it.
pub data Ran (l : Limits) (g : Opening) (group : ℕ) (Such : List Done → List Event → Type 0) (s0 : Crash) (m : Master) (from : Story) : List Done → Story → Type 1 where
  Begins : (now : Story) → LeavesOnly from now (RunLeft g Such [] s0 m) → Ran l g group Such s0 m from [] now
  Line : (xs : List Done) (x : Done) (n k : Master) (old mid new : Story) → Ran l g group Such s0 m from xs old → EachTells l g group (x ∷ xs) → IsOfRunBy (front xs) m n → IsOfRunBy (front (x ∷ xs)) m k
      → LeavesOnly old mid (CallLeaves g xs x.events s0 n) → LeavesOnly mid new (PutLeaves g xs x s0 k) → Ran l g group Such s0 m from (x ∷ xs) new

-- A crash at whatever moment of it leaves what the lines that were out by then say.
pub every_moment : EveryShown → EveryRunCrash → EveryAgreement → (l : Limits) (g : Opening) (group : ℕ) (Such : List Done → List Event → Type 0) (s0 : Crash) (m : Master) (from : Story) (xs : List Done) (now : Story)
    → Ran l g group Such s0 m from xs now → LeavesOnly from now (RunLeft g Such xs s0 m)
every_moment shown crashes agrees l g group Such s0 m from xs now (Begins _ run) = run
every_moment shown crashes agrees l g group Such s0 m from xs now (Line ys x n k old mid _ ran t q p calls puts) =
    every_line_for shown crashes agrees Such from old mid now l g group s0 m n k ys x t q p (every_moment shown crashes agrees l g group Such s0 m from ys old ran) calls puts
