-- What calls on one log of several mean to a run of the core.
use Rattle.std.specs.Prelude.{◌≡◌, ◌+◌, ◌<◌, ◌≤◌, ℕ, false, List}
use Rattle.disk_runs.specs.core_state.Openings.{Opening}
use Rattle.disk_runs.specs.core_state.Events.{Event}
use Rattle.disk_runs.specs.core_state.Steps.{state_after}
use Rattle.lean_disk.specs.Area.{Write}
use Rattle.lean_disk.specs.Moments.{CrashIn, LeavesOnly}
use Rattle.lean_disk.specs.Story.{Crash, Story}
use Rattle.disk_runs.specs.log_record.declared.record.Record.{Record}
use Rattle.disk_runs.specs.disk_image.Records.{entry_of}
use Rattle.disk_runs.specs.worker_log.Accounts.{Account}
use Rattle.disk_runs.specs.worker_log.Kept.{flushed}
use Rattle.disk_runs.specs.worker_log.Logs.{Log}
use Rattle.disk_runs.specs.core_disk.Versions.{is_cut, then}
use Rattle.disk_runs.specs.Laws.{with_log}
use Rattle.disk_runs.specs.Logs.{Flushes, Records}
use Rattle.disk_runs.specs.Stands.{Known, LeavesRun, Stands}

-- A run of the core goes on over the disk, and this is its log w.
pub record IsLog (g : Opening) (es : List Event) (s0 : Crash) (x : Known) (w : ℕ) (log : Log) (s : Story) : Type 0 where
  pub stands : Stands g es s0 x s
  pub low : 0 < w
  pub high : w ≤ g.workers
  pub is : x.log w ≡ log

-- At every moment of the call a fair crash leaves what one after the events so far does.
abbrev pub KeepsMoments : (w : ℕ) → Log → (old new : Story) → Type 0
KeepsMoments w log old new = (s0 : Crash) (g : Opening) (es : List Event) (x : Known) → IsLog g es s0 x w log old → LeavesOnly old new (LeavesRun g es s0 x.master)

-- And no line came out: at every moment the notes are those before the call.
abbrev pub KeepsNotes : (w : ℕ) → Log → (old new : Story) → Type 0
KeepsNotes w log old new = (s0 : Crash) (g : Opening) (es : List Event) (x : Known) → IsLog g es s0 x w log old → LeavesOnly old new (λ c. c.notes ≡ old.notes)

-- no matter what the writes and the bytes are
abbrev pub Anything : List Write → List ℕ → Type 0
Anything writes bytes = Unit {0}

-- And the call stays within the area of its log: at every moment a crash leaves the other areas as they were before the call.
abbrev pub KeepsWithin : (w : ℕ) → Log → (old new : Story) → Type 0
KeepsWithin w log old new = (s0 : Crash) (g : Opening) (es : List Event) (x : Known) → IsLog g es s0 x w log old → LeavesOnly old new (CrashIn old (w + 1) Anything)

-- The record was staged, as the event that enters it.
abbrev pub StagesOn : (w : ℕ) → Record → (was is : Log) → (old new : Story) → Type 0
StagesOn w r was is old new = (s0 : Crash) (g : Opening) (es : List Event) (x : Known) (e : Event) → IsLog g es s0 x w was old → is_cut e ≡ false
    → Records w (entry_of w r) (state_after g es) (state_after g (then es e)) → (y : Account) × Stands g (then es e) s0 (with_log x w is y) new

-- The log was flushed, as the event that says so.
abbrev pub FlushesOn : (w : ℕ) → (was is : Log) → (old new : Story) → Type 0
FlushesOn w was is old new = (s0 : Crash) (g : Opening) (es : List Event) (x : Known) (e : Event) (n : ℕ) → IsLog g es s0 x w was old → is_cut e ≡ false
    → Flushes w n (state_after g es) (state_after g (then es e)) → n ≤ was.last → Stands g (then es e) s0 (with_log x w is (flushed (x.account w))) new
