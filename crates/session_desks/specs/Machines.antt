-- The parts of an engine that work on rows and disk: its rows and their seat, the session in the store and those at their desks, and the master that counts.
use Rattle.std.specs.Prelude.{◌≡◌, ◌≤◌, ◌<◌, ◌+◌, ◌^◌, ℕ, suc, Bool, true, false, List, length, replicate, ◌*◌, min}
use Rattle.session_state.specs.image_model.Entries.{Entry, is_record}
use Rattle.map_model.specs.Lists.{Has}
use Rattle.session_state.specs.core_state.States as core
use Rattle.session_state.specs.disk_slots.declared.master.Master.{Master}
use Rattle.session_state.specs.log_calls.Wholes.{EndsInRecord}
use Rattle.session_state.specs.rows_trait.declared.view.View.{View}
use Rattle.session_state.specs.rows_trait.Plain.{sizes}
use Rattle.session_state.specs.rows_trait.Rule.{IsPicture, plan}
use Rattle.session_state.specs.rows_trait.Views.{Shape, state}
use Rattle.session_state.specs.worker_log.Logs.{Log}
use Rattle.session_state.specs.Holds.{Holds}
use Rattle.session_state.specs.Opened.{plain_shape}
use Rattle.session_state.specs.declared.session.Session.{Session}
use Rattle.session_desks.specs.Desks.{desk_of}
use Rattle.session_desks.specs.declared.desk.Desk.{Desk}

-- ## What holds between two calls

-- A session at its desk, beside the one whose turn it is: it is as between two calls, with the free pages that that one knows.
pub record IsDesk (z : Shape) (v : View) (turn : Session) (session : ℕ) (desk : Desk) : Type 0 where
  pub own : desk.session.own ≡ session
  pub workers : desk.session.workers ≡ turn.workers
  pub group : desk.session.group ≡ turn.group
  pub frames : desk.session.frames ≡ turn.frames
  pub count : desk.session.held.count ≡ turn.held.count
  pub works : desk.session.works ≡ true
  pub holds : Holds z v (record desk.session { free = turn.free }) desk.log

-- there is a desk for each session
pub record AreDesks (z : Shape) (v : View) (work : Desk) (desks : List Desk) : Type 0 where
  pub count : suc (length desks) ≡ work.session.workers
  pub each : (w : ℕ) → 0 < w → w ≤ work.session.workers → IsDesk z v work.session w (desk_of work desks w)

-- The master that counts has a head for each log, and further sequence numbers for all syncs and cuts that may come. The master of a sync has a greater floor;
-- that of a cut has not, but two of the events that were seen are its sync and itself, and none is made behind 2^61 of such.
pub record HasNumbers (master : Master) (seen logs : ℕ) : Type 0 where
  pub sequence : 2 * master.sequence < 2 * (2 ^ 61 + min master.floor (2 ^ 62 + 66 * 16)) + min seen (2 ^ 61 + 2)
  pub heads : length master.heads ≡ logs

-- The parts belong together; no lock row is latched.
pub record IsMachine (frames locks workers : ℕ) (words : List ℕ) (v : View) (work : Desk) (others : List Desk) (marks : List Bool) (master : Master) : Type 0 where
  pub fits : IsPicture (plan (sizes frames locks workers) v.given) words v
  pub desks : AreDesks (plain_shape frames locks workers) v work others
  pub unmarked : marks ≡ replicate work.session.held.count false
  pub numbers : HasNumbers master (length v.seen) work.session.workers
  pub floor : master.floor ≤ (state v).core.floor

-- ## The logs

-- Each record of log w is numbered up to its last number, which is that of a record where it is not flushed; and it is flushed as far as the core says.
pub record IsLogged (s : core.State) (w : ℕ) (log : Log) : Type 0 where
  pub last : (r : Entry) → Has r s.entries → is_record r.kind ≡ true → r.log ≡ w → r.number ≤ log.last
  pub ends : EndsInRecord s w log
  pub flushed : s.flushed w ≡ log.flushed

-- so each log of so many
abbrev pub AreLogged : core.State → (log : ℕ → Log) → (logs : ℕ) → Type 0
AreLogged s log logs = (w : ℕ) → 0 < w → w ≤ logs → IsLogged s w (log w)
