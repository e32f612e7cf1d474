-- The coming of pages, as a part of a call.
use Rattle.std.specs.Prelude.{◌≡◌, ◌⊎◌, ◌≤◌, ◌<◌, ◌+◌, ◌*◌, ◌^◌, ◌++◌, ℕ, true, List, length}
use Rattle.desk_parts.specs.call_parts.Memory.{IsOf}
use Rattle.desk_parts.specs.call_parts.Parts.{Failed, Part}
use Rattle.desk_parts.specs.call_parts.Rooms.{ArePaging}
use Rattle.desk_parts.specs.core_calls.Fronts.{Done, front}
use Rattle.desk_parts.specs.core_calls.LogEvents.{IsTight}
use Rattle.desk_parts.specs.core_state.Events.{Event}
use Rattle.desk_parts.specs.core_state.Openings.{Opening}
use Rattle.desk_parts.specs.core_state.States.{State}
use Rattle.desk_parts.specs.disk_runs.Stands.{Known, Stands}
use Rattle.lean_disk.specs.Story.{Crash, Story}
use Rattle.desk_parts.specs.row_words.Openings.{opening}
use Rattle.desk_parts.specs.rows_trait.declared.view.View.{View}
use Rattle.desk_parts.specs.rows_trait.Views.{state}
use Rattle.desk_parts.specs.session_desks.Desks.{desk_of}
use Rattle.desk_parts.specs.session_desks.Parts.{AreAsMany, SeatFits, here}
use Rattle.desk_parts.specs.session_state.Syncs.{MayFlush}
use Rattle.desk_parts.specs.session_state.Ties.{Behind}
use Rattle.paged_desks.specs.Machines.{memory, view_of}
use Rattle.paged_desks.specs.Pages.{HasPagedWhere, hot_in, most_a_level}
use Rattle.paged_desks.specs.declared.machine.PagedMachine.{PagedMachine}

-- so many events at most have the pages of one way
abbrev pub most_a_way : ℕ
most_a_way = 2 ^ 17 + 2 ^ 10

-- The coming of pages is a part of a call, of few events; a sync in it begins where P is so.
pub record HasGoneWhere {D : Type 0} (story : D → Story) (P : Opening → State → Type 0) (most : ℕ) (m n : PagedMachine D) : Type 0 where
  pub paged : HasPagedWhere P most m n
  pub few : length paged.events ≤ most_a_way
  pub part : Part m.machine.work.session.workers paged.events (view_of m) (view_of n) (memory m) (memory n) (story m.machine.work.disk) (story n.machine.work.disk)

-- so was the coming of the pages of a key's way, or of a free one
abbrev pub HasGone : {D : Type 0} → (story : D → Story) → (key most : ℕ) → PagedMachine D → PagedMachine D → Type 0
HasGone story key most m n = HasGoneWhere story (λ g s. IsTight g s key) most m n

-- A device failed in that, or a page was not to be had: these moves of pages and logs were under way, few of them beside those by which pages cooled.
pub record HasFailed {D : Type 0} (story : D → Story) (m n : PagedMachine D) : Type 0 where
  pub events : List Event
  pub paging : ArePaging events
  pub few : length events ≤ most_a_way
  pub close : length events ≤ 2 * hot_in m + 2 ^ 10
  pub fewer : length events ≤ 2 * hot_in m + 9 * most_a_level m.machine.work.session.workers
  pub failed : Failed m.machine.work.session.workers true true events (view_of m) (memory m) (story m.machine.work.disk) (story n.machine.work.disk)
  pub same : AreAsMany m.machine n.machine
  pub fits : SeatFits n.machine

-- ## Where a page is not to be had

-- in no run in which the view is does the disk stand with what is in memory
abbrev pub StandsNowhere : {D : Type 0} → (story : D → Story) → PagedMachine D → Type 0
StandsNowhere story m = (g : Opening) (xs : List Done) (first : List Event) → Behind g xs first (view_of m) → (s0 : Crash) (a : Known) → Stands g (front xs ++ first) s0 a (story m.machine.work.disk) → IsOf g (memory m) a → ⊥

-- ## Why a RowSpent comes

-- so many events were seen, or the global epoch has come to its last number
abbrev pub IsLate : View → Type 0
IsLate v = (2 ^ 61 ≤ length v.seen) ⊎ (2 ^ 62 ≤ (state v).core.epoch)

-- an abort of some session is half done
pub record HasHalf {D : Type 0} (m : PagedMachine D) : Type 0 where
  pub session : ℕ
  pub low : 0 < session
  pub high : session ≤ m.machine.work.session.workers
  pub half : (desk_of (here m.machine) m.machine.desks.items session).session.is_half_aborted ≡ true

-- of such a session what it has still to put back finds no room behind a flush of its log
pub record IsCramped {D : Type 0} (m : PagedMachine D) : Type 0 where
  pub session : ℕ
  pub low : 0 < session
  pub high : session ≤ m.machine.work.session.workers
  pub half : (desk_of (here m.machine) m.machine.desks.items session).session.is_half_aborted ≡ true
  pub cramped : MayFlush (desk_of (here m.machine) m.machine.desks.items session).session (desk_of (here m.machine) m.machine.desks.items session).log → ⊥

-- it is late behind the call, or before it an abort was half done, which had met that
abbrev pub IsSpent : {D : Type 0} → PagedMachine D → PagedMachine D → Type 0
IsSpent m n = IsLate (view_of n) ⊎ HasHalf m

-- where it stopped P is so, that a page which is needed finds no frame, so a sync is needed; and an abort is half done whose log may not be flushed
pub record IsStuckWhere {D : Type 0} (P : Opening → State → Type 0) (n : PagedMachine D) : Type 0 where
  pub tight : P (opening (view_of n).given) (state (view_of n)).core
  pub cramped : IsCramped n

-- it is late behind the call, or it is stuck there
abbrev pub IsLateOrStuckWhere : {D : Type 0} → (P : Opening → State → Type 0) → PagedMachine D → Type 0
IsLateOrStuckWhere P n = IsLate (view_of n) ⊎ IsStuckWhere P n

-- the page that is needed is of a key's way, or a free one
abbrev pub IsStuck : {D : Type 0} → (key : ℕ) → PagedMachine D → Type 0
IsStuck key n = IsStuckWhere (λ g s. IsTight g s key) n

-- so it is late, or stuck
abbrev pub IsLateOrStuck : {D : Type 0} → (key : ℕ) → PagedMachine D → Type 0
IsLateOrStuck key n = IsLate (view_of n) ⊎ IsStuck key n
