-- What a crash leaves of a disk over which a run goes on, and how it goes on by calls of its logs. Of each law s0 is the disk as a
-- read gave it when the run began, old and new what it tells before a call and after it.
use Rattle.std.specs.Prelude.{◌≡◌, ◌<◌, ◌≤◌, ℕ, suc, false, List}
use Rattle.map_model.specs.Lists.{upd}
use Rattle.core_disk.specs.core_state.Openings.{Opening}
use Rattle.core_disk.specs.core_state.Events.{Event}
use Rattle.lean_disk.specs.Moments.{CrashIn, Framed, LeavesOnly}
use Rattle.lean_disk.specs.Story.{Crash, IsLawful, LeavesNow, Story}
use Rattle.master_store.specs.log_record.declared.record.Record.{Record}
use Rattle.master_store.specs.disk_image.Records.{entry_of}
use Rattle.worker_log.specs.Accounts.{Account}
use Rattle.worker_log.specs.Kept.{IsInRange, IsKept, LeavesBlocks, StagesTo, flushed}
use Rattle.worker_log.specs.Logs.{Log}
use Rattle.worker_log.specs.Calls.{After, flushed_log}
use Rattle.core_disk.specs.core_state.Steps.{state_after}
use Rattle.core_disk.specs.Held.{HoldsRun}
use Rattle.core_disk.specs.Versions.{is_cut, then}
use Rattle.disk_runs.specs.Fair.{TellsAll}
use Rattle.disk_runs.specs.Logs.{Flushes, Records, SameDisk}
use Rattle.disk_runs.specs.Stands.{Known, LeavesRun, Stands}

-- ## Between two calls

-- A crash now, if its image is fair, leaves what one after these events does.
abbrev pub EveryRest : (s : Story) → Type 0
EveryRest s = (s0 : Crash) (g : Opening) (es : List Event) (x : Known) → Stands g es s0 x s → (c : Crash) → LeavesNow s c → LeavesRun g es s0 x.master c

-- as a read gives it now, it holds that too
abbrev pub EveryRead : (s : Story) → Type 0
EveryRead s = (s0 : Crash) (g : Opening) (es : List Event) (x : Known) → Stands g es s0 x s → IsLawful s → HoldsRun g es x.master (λ a. (s.area a).bytes)

-- an event that the disk does not see
abbrev pub EveryStill : (s : Story) → Type 0
EveryStill s = (s0 : Crash) (g : Opening) (es : List Event) (x : Known) (e : Event) → Stands g es s0 x s → is_cut e ≡ false
    → SameDisk (state_after g es) (state_after g (then es e)) → Stands g (then es e) s0 x s

-- a call that leaves the areas as they were: a read, a note, one on another area
abbrev pub EverySame : (old new : Story) → Type 0
EverySame old new = (s0 : Crash) (g : Opening) (es : List Event) (x : Known) → Stands g es s0 x old → TellsAll g.workers new
    → ((a : ℕ) → a ≤ suc g.workers → new.area a ≡ old.area a) → Stands g es s0 x new

-- ## A call on log w

-- at every moment of it
abbrev pub EveryLogCall : (old new : Story) → Type 0
EveryLogCall old new = (s0 : Crash) (g : Opening) (es : List Event) (x : Known) (w : ℕ) → Stands g es s0 x old → 0 < w → w ≤ g.workers
    → LeavesOnly old new (CrashIn old (suc w) (LeavesBlocks (x.account w) (x.log w))) → LeavesOnly old new (LeavesRun g es s0 x.master)

-- the same, with the log w and its account as they are now
abbrev pub with_log : Known → ℕ → Log → Account → Known
with_log x w log y = record x { log = upd x.log w log; account = upd x.account w y }

-- a record was staged, and the event is the one that enters it
pub record IsStaged (g : Opening) (es : List Event) (w : ℕ) (r : Record) (e : Event) (x : Known) (log : Log) (old new : Story) : Type 0 where
  pub low : 0 < w
  pub high : w ≤ g.workers
  pub event : is_cut e ≡ false
  pub records : Records w (entry_of w r) (state_after g es) (state_after g (then es e))
  -- what the call says
  pub rises : (x.log w).last < r.gsn
  pub ranges : IsInRange log
  pub after : After r (x.log w) log
  pub kept : (a : Account) → IsKept a (x.log w) (old.area (suc w)) → StagesTo r a (x.log w) log (new.area (suc w))
  pub frame : Framed (suc w) old new

-- The disk stands after the event that enters the record, with the log's account as the call left it.
abbrev pub EveryStage : (old new : Story) → Type 0
EveryStage old new = (s0 : Crash) (g : Opening) (es : List Event) (w : ℕ) (r : Record) (e : Event) (x : Known) (log : Log)
    → Stands g es s0 x old → IsStaged g es w r e x log old new → (y : Account) × Stands g (then es e) s0 (with_log x w log y) new

-- the log was flushed, and the event says so
pub record IsFlushed (g : Opening) (es : List Event) (w : ℕ) (e : Event) (x : Known) (log : Log) (old new : Story) : Type 0 where
  pub low : 0 < w
  pub high : w ≤ g.workers
  pub event : is_cut e ≡ false
  pub number : ℕ
  pub flushes : Flushes w number (state_after g es) (state_after g (then es e))
  pub within : number ≤ (x.log w).last
  -- what the call says
  pub ranges : IsInRange log
  pub after : log ≡ flushed_log (x.log w)
  pub kept : (a : Account) → IsKept a (x.log w) (old.area (suc w)) → IsKept (flushed a) log (new.area (suc w))
  pub frame : Framed (suc w) old new

-- The disk stands after the event that counts the log as flushed.
abbrev pub EveryFlush : (old new : Story) → Type 0
EveryFlush old new = (s0 : Crash) (g : Opening) (es : List Event) (w : ℕ) (e : Event) (x : Known) (log : Log)
    → Stands g es s0 x old → IsFlushed g es w e x log old new → Stands g (then es e) s0 (with_log x w log (flushed (x.account w))) new
