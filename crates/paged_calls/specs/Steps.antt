-- Words of private functions: what the pieces of a call did.
use Rattle.std.specs.Prelude.{◌≡◌, ◌≤◌, ◌<◌, ◌%◌, ℕ, true, false, List, length, Option, Result, Ok, Err}
use Rattle.map_model.specs.declared.call.Refusal.{Refusal}
use Rattle.paged_desks.specs.core_calls.Fronts.{Done}
use Rattle.paged_desks.specs.core_calls.LogEvents.{IsTight, SyncsWhere}
use Rattle.paged_desks.specs.core_state.Events as happening
use Rattle.paged_desks.specs.core_state.Needs.{holds_row}
use Rattle.paged_desks.specs.core_state.Openings.{Opening}
use Rattle.paged_desks.specs.engine_calls.Parts.{behind_first}
use Rattle.paged_desks.specs.key_locks.declared.mode.Mode.{Mode}
use Rattle.lean_disk.specs.Story.{Story}
use Rattle.paged_desks.specs.row_words.declared.event.Event.{Event}
use Rattle.paged_desks.specs.row_words.Moments.{events_of}
use Rattle.paged_desks.specs.rows_trait.Views.{state}
use Rattle.paged_desks.specs.call_parts.Parts.{Part}
use Rattle.paged_desks.specs.session_state.Staging.{IsButClock}
use Rattle.paged_desks.specs.session_state.Ties.{Behind}
use Rattle.paged_desks.specs.session_desks.Desks.{desk_of}
use Rattle.paged_desks.specs.session_desks.Parts.{AreAsMany, here}
use Rattle.row_room.specs.row_changes.Reads.{HasRead}
use Rattle.row_room.specs.row_changes.Takes.{NotTaken, Takes}
use Rattle.paged_desks.specs.Calls.{IsBeside}
use Rattle.paged_desks.specs.Machines.{memory, view_of}
use Rattle.paged_desks.specs.Pages.{ArePaging}
use Rattle.paged_desks.specs.Parts.{HasFailed, IsSpent, StandsNowhere, most_a_way}
use Rattle.paged_desks.specs.declared.machine.PagedMachine.{PagedMachine}
use Rattle.paged_desks.specs.declared.warming.Unwarmed.{Unwarmed}
use Rattle.paged_desks.specs.declared.warming.Unwarmed.TheVariants as stopped

-- ## Rows and the session in the store

-- the session whose turn it is took the key's row
pub record HasTaken {D : Type 0} (key : ℕ) (mode : Mode) (m n : PagedMachine D) : Type 0 where
  pub takes : Takes (view_of m) (view_of n) m.machine.work.session n.machine.work.session (key % m.machine.work.session.held.count) mode
  pub beside : IsBeside m n

-- it did not
pub record HasNotTaken {D : Type 0} (why : Refusal) (key : ℕ) (mode : Mode) (m n : PagedMachine D) : Type 0 where
  pub not_taken : NotTaken why (view_of m) (view_of n) m.machine.work.session.own (key % m.machine.work.session.held.count) mode
  pub session : n.machine.work.session ≡ m.machine.work.session
  pub beside : IsBeside m n

-- its transaction is open, and it holds the key's row
pub record Holds {D : Type 0} (key : ℕ) (m : PagedMachine D) : Type 0 where
  pub is_open : m.machine.work.session.is_open ≡ true
  pub row : holds_row ((state (view_of m)).core.row (key % m.machine.work.session.held.count)) m.machine.work.session.own ≡ true

-- ## Pages came

-- The pages of the key's way came, if it was needed, as a part of a call. As many sessions are there, whose aborts are half done where they were.
pub record HasCome {D : Type 0} (story : D → Story) (key : ℕ) (m n : PagedMachine D) : Type 0 where
  pub events : List Event
  pub paging : ArePaging events
  pub few : length events ≤ most_a_way
  pub part : Part m.machine.work.session.workers events (view_of m) (view_of n) (memory m) (memory n) (story m.machine.work.disk) (story n.machine.work.disk)
  pub tight : (g : Opening) (xs : List Done) (first : List happening.Event) → Behind g xs first (view_of m) → SyncsWhere (λ s. IsTight g s key) g (behind_first g xs first) false (events_of events)
  pub same : AreAsMany m.machine n.machine
  pub turn : n.machine.work.session.own ≡ m.machine.work.session.own
  pub halves : (w : ℕ) → 0 < w → w ≤ m.machine.work.session.workers → (desk_of (here n.machine) n.machine.desks.items w).session.is_half_aborted ≡ (desk_of (here m.machine) m.machine.desks.items w).session.is_half_aborted

-- and then the key was read
pub record HasReadWarm {D : Type 0} (story : D → Story) (key : ℕ) (value : Option ℕ) (m n : PagedMachine D) : Type 0 where
  pub between : PagedMachine D
  pub come : HasCome story key m between
  pub read : HasRead m.machine.work.session.own (view_of between) (view_of n) key value
  pub beside : IsBeside between n
  pub session : IsButClock between.machine.work.session n.machine.work.session

-- from a machine on that has the same in memory, whose view has seen the same
pub record IsStill {D : Type 0} (story : D → Story) (m n : PagedMachine D) : Type 0 where
  pub given : (view_of n).given ≡ (view_of m).given
  pub seen : (view_of n).seen ≡ (view_of m).seen
  pub session : n.machine.work.session ≡ m.machine.work.session
  pub beside : IsBeside m n

pub record FailsWarm {D : Type 0} (story : D → Story) (m n : PagedMachine D) : Type 0 where
  pub between : PagedMachine D
  pub still : IsStill story m between
  pub failed : HasFailed story between n

-- by answer
abbrev pub ReadsWarm : {D : Type 0} → (story : D → Story) → (key : ℕ) → Result (Option ℕ) Unwarmed → (m n : PagedMachine D) → Type 0
ReadsWarm story key (Ok value) m n = HasReadWarm story key value m n
ReadsWarm story key (Err stopped.RowSpent) m n = HasCome story key m n × IsSpent m n
ReadsWarm story key (Err stopped.DiskFault) m n = FailsWarm story m n
ReadsWarm story key (Err (stopped.Damaged page)) m n = FailsWarm story m n × StandsNowhere story m
ReadsWarm story key (Err (stopped.Altered page)) m n = FailsWarm story m n × StandsNowhere story m
