-- A sync of all logs: what it has done, or where a device failed it.
use Rattle.std.specs.Prelude.{◌≡◌, ◌≤◌, ◌<◌, ◌++◌, ℕ, suc, true, false, List, length}
use Rattle.desk_parts.specs.call_parts.Parts.{Failed, Part}
use Rattle.desk_parts.specs.core_calls.Fronts.{Done}
use Rattle.desk_parts.specs.core_calls.LogEvents.{IsSync}
use Rattle.core_covers.specs.Lows.{IsAllFlushed}
use Rattle.desk_parts.specs.core_state.Events as happening
use Rattle.desk_parts.specs.core_state.Openings.{Opening}
use Rattle.desk_parts.specs.core_state.States.{State, Worker}
use Rattle.desk_parts.specs.disk_slots.declared.master.Master.{Master}
use Rattle.desk_parts.specs.engine_trait.Logs.{Logs}
use Rattle.lean_disk.specs.Story.{Story}
use Rattle.desk_parts.specs.row_words.declared.event.Event.{Event}
use Rattle.desk_parts.specs.row_words.Moments.{events_of}
use Rattle.desk_parts.specs.row_words.Openings.{opening}
use Rattle.desk_parts.specs.rows_trait.Views.{state}
use Rattle.desk_parts.specs.session_desks.Parts.{AreAsMany, SeatFits, logs}
use Rattle.desk_parts.specs.session_desks.Syncs.{AllEndAt, next_with}
use Rattle.desk_parts.specs.session_state.Ties.{Behind}
use Rattle.paged_desks.specs.Machines.{memory, view_of}
use Rattle.paged_desks.specs.Pages.{AreKept, ArePaging}
use Rattle.paged_desks.specs.declared.machine.PagedMachine.{PagedMachine}
use Rattle.desk_parts.specs.disk_runs.MasterLaws.{raised}
use Rattle.desk_parts.specs.call_parts.Rooms.{makes_sync}
use Rattle.map_model.specs.Lists.{all}
use Rattle.desk_parts.specs.session_state.Syncs.{flushed_of}
use Rattle.desk_parts.specs.worker_log.Logs.{Log}

-- The master behind a sync up to the number of logs that were so before it: where the last number of one was below that, the next one, with the number as its floor;
-- and where none was, the same.
pub record IsMasterBehind (many number : ℕ) (logs : ℕ → Log) (old next : Master) : Type 0 where
  pub within : (w : ℕ) → 0 < w → w ≤ many → (logs w).last ≤ number
  pub still : AllEndAt many number logs → next ≡ old
  pub written : (AllEndAt many number logs → ⊥) → next ≡ next_with old number

-- Logs were flushed, and all were synced up to this number; no clock is above what is flushed everywhere then. What is known of pages is as it was.
pub record IsSynced {D : Type 0} (story : D → Story) (m n : PagedMachine D) (number : ℕ) : Type 0 where
  pub events : List Event
  pub given : (view_of n).given ≡ (view_of m).given
  pub seen : (view_of n).seen ≡ (view_of m).seen ++ events
  pub paging : ArePaging events
  pub sync : IsSync number (events_of events)
  pub few : length events ≤ suc m.machine.work.session.workers
  pub pager : n.pager ≡ m.pager
  pub same : AreAsMany m.machine n.machine
  pub turn : n.machine.work.session.own ≡ m.machine.work.session.own
  pub sessions : AreKept m.machine n.machine
  pub logged : (w : ℕ) → 0 < w → w ≤ m.machine.work.session.workers → (g : Opening) (s : State) → Logs w g s (events_of events) (logs m.machine w) (logs n.machine w)
  -- each log was flushed as far as it goes, and ends at the number
  pub after : (w : ℕ) → 0 < w → w ≤ m.machine.work.session.workers → logs n.machine w ≡ raised (flushed_of (logs m.machine w)) number
  pub master : IsMasterBehind m.machine.work.session.workers number (logs m.machine) m.machine.master n.machine.master
  pub flushed : ℕ → ℕ
  pub floor : ℕ
  pub worker : ℕ → Worker
  pub rest : (state (view_of n)).core ≡ record (state (view_of m)).core { flushed = flushed; floor = floor; worker = worker }
  pub part : Part m.machine.work.session.workers events (view_of m) (view_of n) (memory m) (memory n) (story m.machine.work.disk) (story n.machine.work.disk)
  pub low : IsAllFlushed (opening (view_of n).given) (state (view_of n)).core
  pub behind : (g : Opening) (xs : List Done) (first : List happening.Event) → Behind g xs first (view_of m) → Behind g xs (first ++ events_of events) (view_of n)

-- A device failed: these flushes, and maybe the sync, were under way.
pub record HasNotSynced {D : Type 0} (story : D → Story) (m n : PagedMachine D) : Type 0 where
  pub events : List happening.Event
  pub sync : all makes_sync events ≡ true
  pub few : length events ≤ suc m.machine.work.session.workers
  pub failed : Failed m.machine.work.session.workers false true events (view_of m) (memory m) (story m.machine.work.disk) (story n.machine.work.disk)
  pub same : AreAsMany m.machine n.machine
  pub fits : SeatFits n.machine
