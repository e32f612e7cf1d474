-- What came of a record that a change asked its log to stage.
use Rattle.std.specs.Prelude.{◌≡◌, ◌≤◌, ℕ, suc, List, [], ◌∷◌, length, Option, Some, Result, Ok, Err}
use Rattle.btree_descent.specs.draw_trait.declared.draw.Unstaged.{Unstaged}
use Rattle.core_covers.specs.Firsts.{or_else}
use Rattle.btree_descent.specs.draw_trait.declared.draw.Unstaged.TheVariants.{DiskFault, LogFull}
use Rattle.lean_disk.specs.Faults.{HasCause}
use Rattle.lean_disk.specs.Moments.{Framed}
use Rattle.lean_disk.specs.Story.{Story}
use Rattle.btree_descent.specs.log_record.declared.record.Record.{Record}
use Rattle.engine_calls.specs.log_block.Block.{records_text}
use Rattle.engine_calls.specs.worker_log.Calls.{After}
use Rattle.engine_calls.specs.worker_log.Logs.{Log, used}
use Rattle.engine_calls.specs.log_calls.Calls.{KeepsWithin, StagesOn}
use Rattle.engine_calls.specs.Clauses.{OnLog}
use Rattle.flush_avoidance.specs.Clocks.{risen}
use Rattle.session_state.specs.declared.session.Session.{Session}

-- the session is as it was, but for its clock and its debt
abbrev pub IsButClock : (x y : Session) → Type 0
IsButClock x y = y ≡ record x { clock = risen x.clock y.clock }

-- or but for these, and for its transaction's first record
abbrev pub IsButStaged : (x y : Session) → Type 0
IsButStaged x y = y ≡ record x { clock = risen x.clock y.clock; first = y.first }

-- what a log and its disk keep whatever comes of a record
pub record KeepsLog (own : ℕ) (was : Log) (old new : Story) : Type 0 where
  pub on : OnLog own was old new
  pub frame : Framed (suc own) old new
  pub within : KeepsWithin own was old new

-- it stands in the log, and was told to the proof
pub record WasStaged (own : ℕ) (before now : List Record) (was is : Log) (old new : Story) : Type 0 where
  pub entry : Record
  pub told : now ≡ entry ∷ before
  pub after : After entry was is
  pub last : is.last ≡ entry.gsn
  pub short : length (records_text (entry ∷ [])) ≤ 1031
  pub stands : StagesOn own entry was is old new
  pub keeps : KeepsLog own was old new

-- the log had no block for it, not even one that is kept back, and nothing was done
pub record WasFull (was is : Log) (SameDisk : Type 0) : Type 0 where
  pub full : was.blocks ≤ used was
  pub log : is ≡ was
  pub disk : SameDisk

-- by outcome
abbrev pub Came : Result (Unit {0}) Unstaged → (own : ℕ) → (before now : List Record) → (was is : Log) → (old new : Story) → (SameDisk : Type 0) → Type 0
Came (Ok u) own before now was is old new SameDisk = WasStaged own before now was is old new
Came (Err (LogFull used limit)) own before now was is old new SameDisk = WasFull was is SameDisk
Came (Err DiskFault) own before now was is old new SameDisk = KeepsLog own was old new

-- the number of the transaction's first record behind one that came of this, with this number
abbrev pub first_behind : Result (Unit {0}) Unstaged → ℕ → Option ℕ → Option ℕ
first_behind (Ok u) number first = or_else first (Some number)
first_behind (Err e) number first = first

-- And whatever came of it: the disk's faults are told, and beside log and disk the session's clock alone may have changed, and its transaction's first record,
-- which has the clock's number if it is this one.
pub record Staging (r : Result (Unit {0}) Unstaged) (x y : Session) (before now : List Record) (was is : Log) (old new : Story) (SameDisk : Type 0) (faults_before faults_now : ℕ) : Type 0 where
  pub came : Came r x.own before now was is old new SameDisk
  pub cause : HasCause faults_before faults_now (r ≡ Err DiskFault)
  pub session : IsButStaged x y
  pub first : y.first ≡ first_behind r y.clock.clock x.first
