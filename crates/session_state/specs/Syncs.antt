-- What a sync does: each session's log is flushed, and then all are synced up to the greatest clock. And what is so behind a cut.
use Rattle.std.specs.Prelude.{◌≡◌, ◌↔◌, ◌≤◌, ◌<◌, ◌+◌, ◌*◌, ◌||◌, ◌==◌, ℕ, Bool, true, false, leb, List, ◌++◌, [], ◌∷◌, length, if◌then◌else◌}
use Rattle.map_model.specs.Lists.{Has}
use Rattle.btree_descent.specs.image_model.Entries.{Entry, is_record}
use Rattle.btree_descent.specs.core_state.States.{State}
use Rattle.btree_descent.specs.core_state.Events as happening
use Rattle.btree_descent.specs.core_state.Needs.{may}
use Rattle.lean_disk.specs.Story.{Story}
use Rattle.engine_calls.specs.log_calls.Wholes.{FlushesWhole, flush_of}
use Rattle.engine_calls.specs.disk_runs.MasterLaws.{raised}
use Rattle.btree_descent.specs.row_words.declared.event.Event.{Event}
use Rattle.btree_descent.specs.row_words.declared.event.Event.TheVariants as told
use Rattle.btree_descent.specs.row_words.Moments.{events_of}
use Rattle.btree_descent.specs.row_words.Openings.{opening}
use Rattle.btree_descent.specs.rows_trait.declared.view.View.{View}
use Rattle.btree_descent.specs.rows_trait.Views.{Shape, state}
use Rattle.engine_calls.specs.worker_log.Calls.{cut_log, flushed_log}
use Rattle.engine_calls.specs.worker_log.Logs.{Log}
use Rattle.row_cuts.specs.Cuts.{HasCut}
use Rattle.session_state.specs.Holds.{Holds}
use Rattle.session_state.specs.Others.{Steps}
use Rattle.session_state.specs.Undo.{HasRoomToUndo, filled}
use Rattle.session_state.specs.declared.session.Session.{Session}

-- ## Which sessions may be flushed

-- all that the session has still to put back finds room behind a flush of its log
abbrev pub MayFlush : Session → Log → Type 0
MayFlush x log = 0 < length x.undo → HasRoomToUndo (flushed_log log) (length x.undo)

-- whether it does
abbrev pub finds_room : Session → Log → Bool
finds_room x log = (length x.undo == 0) || leb (filled (flushed_log log) + (64 * length x.undo + 2064)) (1900 * log.blocks)

-- a session behind a sync up to this number
abbrev pub synced_session : Session → ℕ → Session
synced_session x number = record x { clock = record x.clock { clock = number }; unflushed = 0 }

-- So it is while no abort is half done; and once it is so, it is so behind the flush and behind a sync too.
pub record FlushLaws : Type 0 where
  pub decided : (x : Session) (log : Log) → (finds_room x log ≡ true) ↔ MayFlush x log
  pub whole : (z : Shape) (v : View) (x : Session) (log : Log) → Holds z v x log → x.is_half_aborted ≡ false → MayFlush x log
  pub flushed : (x : Session) (log : Log) → MayFlush x log → MayFlush x (flushed_log log)
  pub synced : (x : Session) (log : Log) (number : ℕ) → MayFlush x log → MayFlush (synced_session x number) (raised log number)

abbrev pub EveryFlush : Type 0
EveryFlush = FlushLaws

-- ## A flush of one log

-- the log is flushed as far as it goes, if it is not yet
abbrev pub flushes_of : (own : ℕ) → Log → List Event
flushes_of own log = if log.last == log.flushed then [] else told.Flush own log.last ∷ []

-- and is so then
abbrev pub flushed_of : Log → Log
flushed_of log = if log.last == log.flushed then log else flushed_log log

-- no record of the log has a number above its last one
abbrev pub HasNoneBehind : State → (own : ℕ) → Log → Type 0
HasNoneBehind s own log = (r : Entry) → Has r s.entries → is_record r.kind ≡ true → r.log ≡ own → r.number ≤ log.last

-- It was, and nothing of it is left to flush.
pub record FlushesOwn (v w : View) (x y : Session) (was is : Log) (old new : Story) : Type 0 where
  pub given : w.given ≡ v.given
  pub seen : w.seen ≡ v.seen ++ flushes_of x.own was
  pub core : events_of (flushes_of x.own was) ≡ flush_of x.own was
  pub steps : Steps x.own v w
  pub session : y ≡ record x { unflushed = y.unflushed }
  pub after : is ≡ flushed_of was
  pub last : is.last ≡ was.last
  pub flushed : is.flushed ≡ is.last
  pub stands : FlushesWhole x.own was is old new

-- ## The sync

-- all logs are synced up to this number, which was seen next
pub record HasSynced (v w : View) (number : ℕ) : Type 0 where
  pub given : w.given ≡ v.given
  pub seen : w.seen ≡ v.seen ++ told.Sync number ∷ []
  pub held : w.held ≡ v.held
  pub met : may (opening v.given) (state v).core (happening.Event.Sync number) ≡ true

-- Behind a sync each session whose log is flushed whole is as between two calls, with its clock and its log raised to the number.
abbrev pub EverySynced : Type 0
EverySynced = (z : Shape) (v w : View) (x : Session) (log : Log) (number : ℕ) → Holds z v x log → log.flushed ≡ log.last → HasSynced v w number → Holds z w (synced_session x number) (raised log number)

-- ## A cut

-- Behind a cut of all logs each session is as between two calls, whatever blocks its log has passed.
abbrev pub EveryCut : Type 0
EveryCut = (z : Shape) (v w : View) (x : Session) (log : Log) (number passed : ℕ) (heads : List ℕ) → Holds z v x log → HasCut z v number heads w → Holds z w x (cut_log passed log)
