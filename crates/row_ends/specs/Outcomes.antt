-- What an end of a transaction did, by answer: its lock rows were latched, its record was staged, its number was stored, and the rows were given back; and where so many
-- commits waited as make a group, the log was flushed.
use Rattle.std.specs.Prelude.{◌≡◌, ◌≤◌, ◌<◌, ◌^◌, ℕ, suc, Bool, true, false, List, length, Result, Ok, Err}
use Rattle.map_model.specs.declared.call.Refusal.TheVariants as refusal
use Rattle.session_state.specs.engine_trait.declared.unserved.Unanswered.TheVariants as unanswered
use Rattle.session_state.specs.engine_trait.declared.unserved.Unserved.{Unserved}
use Rattle.session_state.specs.engine_trait.declared.unserved.Unserved.TheVariants as unserved
use Rattle.rfa_model.specs.Stamps.{need_of}
use Rattle.session_state.specs.core_state.States.{flushed_by_all}
use Rattle.lean_disk.specs.Story.{Story}
use Rattle.session_state.specs.log_calls.Calls.{StagesOn}
use Rattle.session_state.specs.log_record.declared.record.Body.TheVariants as body
use Rattle.session_state.specs.log_record.declared.record.Record.{Record}
use Rattle.session_state.specs.row_words.Openings.{opening}
use Rattle.session_state.specs.rows_trait.declared.view.View.{View}
use Rattle.session_state.specs.rows_trait.Views.{Shape, state}
use Rattle.session_state.specs.worker_log.Calls.{After}
use Rattle.session_state.specs.worker_log.Logs.{Log}
use Rattle.session_state.specs.Staging.{KeepsLog}
use Rattle.session_state.specs.declared.session.Session.{Session}
use Rattle.row_ends.specs.Ends.{Ended, HasFlushed, Latched, Missed, ended_session, waiting_session}
use Rattle.row_ends.specs.declared.ending.Ended as answers

-- ## The end

-- the record of a commit or an abort, where all logs are flushed so far
abbrev pub end_record : (commit : Bool) → Session → (floor : ℕ) → Record
end_record true x floor = record { txn = x.txn; gsn = suc x.clock.clock; body = body.Commit (need_of x.clock.debt floor) }
end_record false x floor = record { txn = x.txn; gsn = suc x.clock.clock; body = body.Abort (need_of x.clock.debt floor) }

-- The end was seen next and its record was staged, and the rows were given back. So it is told.
pub record HasEnded (told : answers.Ended) (commit : Bool) (v w : View) (x : Session) (was is : Log) (old new : Story) : Type 0 where
  pub floor : ℕ
  pub floor_is : floor ≡ flushed_by_all (opening v.given) (state v).core
  pub ended : Ended x.own (length x.held.rows) v commit floor w
  pub after : After (end_record commit x floor) was is
  pub last : is.last ≡ suc x.clock.clock
  pub stands : StagesOn x.own (end_record commit x floor) was is old new
  pub keeps : KeepsLog x.own was old new
  pub told_is : told ≡ record { number = x.txn; at = suc x.clock.clock; need = need_of x.clock.debt floor }

-- A latch had come to its end: misses alone were seen, and all else is as it was.
pub record IsSpent {D : Type 0} (v w : View) (x y : Session) (was is : Log) (old new : D) : Type 0 where
  pub missed : Missed (length x.held.rows) v w
  pub late : 2 ^ 61 ≤ length w.seen
  pub session : y ≡ x
  pub log : is ≡ was
  pub disk : new ≡ old

-- ## A commit

-- One commit more waits for a flush; or with it so many waited as make a group, and the log was flushed.
pub data IsGrouped {D : Type 0} (story : D → Story) (v w : View) (x y : Session) (was is : Log) (old new : D) : Type 0 where
  Waits : suc x.unflushed < x.group → w ≡ v → y ≡ waiting_session x (suc x.clock.clock) (suc x.unflushed) → is ≡ was → new ≡ old → IsGrouped story v w x y was is old new
  Flushed : x.group ≤ suc x.unflushed → HasFlushed v w (waiting_session x (suc x.clock.clock) (suc x.unflushed)) y was is (story old) (story new) → KeepsLog x.own was (story old) (story new) → IsGrouped story v w x y was is old new

-- It ended, and then that.
pub record HasCommitted {D : Type 0} (story : D → Story) (told : answers.Ended) (v w : View) (x y : Session) (was is : Log) (old new : D) : Type 0 where
  pub view : View
  pub log : Log
  pub disk : D
  pub ended : HasEnded told true v view x was log (story old) (story disk)
  pub grouped : IsGrouped story view w x y log is disk new

-- The log's device failed: when the end was to be staged, or when it was staged and the log was to be flushed.
pub data FailsToCommit {D : Type 0} (story : D → Story) (v : View) (x : Session) (was : Log) (old new : D) : Type 0 where
  Unstaged : KeepsLog x.own was (story old) (story new) → FailsToCommit story v x was old new
  Unflushed : (told : answers.Ended) (view : View) (log : Log) (disk : D) → HasEnded told true v view x was log (story old) (story disk) → x.group ≤ suc x.unflushed → KeepsLog x.own log (story disk) (story new) → FailsToCommit story v x was old new

-- by answer
abbrev pub Commits : {D : Type 0} → (story : D → Story) → Result answers.Ended Unserved → (v w : View) → (x y : Session) → (was is : Log) → (old new : D) → Type 0
Commits story (Ok told) v w x y was is old new = HasCommitted story told v w x y was is old new
Commits story (Err (unserved.Refused refusal.RowSpent)) v w x y was is old new = IsSpent v w x y was is old new
Commits story (Err (unserved.Unanswered unanswered.DiskFault)) v w x y was is old new = FailsToCommit story v x was old new
Commits story (Err why) v w x y was is old new = ⊥

-- ## The end of an abort

abbrev pub Aborts : {D : Type 0} → (story : D → Story) → Result answers.Ended Unserved → (v w : View) → (x y : Session) → (was is : Log) → (old new : D) → Type 0
Aborts story (Ok told) v w x y was is old new = HasEnded told false v w x was is (story old) (story new) × (y ≡ ended_session x (suc x.clock.clock))
Aborts story (Err (unserved.Refused refusal.RowSpent)) v w x y was is old new = IsSpent v w x y was is old new
Aborts story (Err (unserved.Unanswered unanswered.DiskFault)) v w x y was is old new = KeepsLog x.own was (story old) (story new)
Aborts story (Err why) v w x y was is old new = ⊥

-- ## Words of private functions

-- the lock rows that a session holds are latched, and nothing was seen
pub record IsLatched (z : Shape) (v w : View) (x : Session) (log : Log) (marks : List Bool) : Type 0 where
  pub given : w.given ≡ v.given
  pub seen : w.seen ≡ v.seen
  pub latched : Latched z w x log marks

-- a commit from where they are
abbrev pub CommitsLatched : {D Fault : Type 0} → (story : D → Story) → Result answers.Ended Fault → (v w : View) → (x y : Session) → (was is : Log) → (old new : D) → Type 0
CommitsLatched story (Ok told) v w x y was is old new = HasCommitted story told v w x y was is old new
CommitsLatched story (Err fault) v w x y was is old new = FailsToCommit story v x was old new

-- and an abort's end
abbrev pub AbortsLatched : {Fault : Type 0} → Result answers.Ended Fault → (v w : View) → (x y : Session) → (was is : Log) → (old new : Story) → Type 0
AbortsLatched (Ok told) v w x y was is old new = HasEnded told false v w x was is old new × (y ≡ ended_session x (suc x.clock.clock))
AbortsLatched (Err fault) v w x y was is old new = KeepsLog x.own was old new
