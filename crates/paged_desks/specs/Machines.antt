-- A machine whose pages need not all be in frames: what holds between two of its calls.
use Rattle.std.specs.Prelude.{◌≡◌, ◌≤◌, ◌^◌, ℕ, false, None}
use Rattle.desk_parts.specs.call_parts.Memory.{Memory}
use Rattle.desk_parts.specs.core_state.States.{State}
use Rattle.desk_parts.specs.Pages.{HasSlots}
use Rattle.lean_disk.specs.Story.{Story}
use Rattle.desk_parts.specs.page_provider.Providers.{Keeps}
use Rattle.paged_rows.specs.Paged.{IsFedIfFaithful, Paged, paged}
use Rattle.desk_parts.specs.rows_trait.declared.view.View.{View}
use Rattle.desk_parts.specs.rows_trait.Views.{state}
use Rattle.desk_parts.specs.session_desks.Parts.{HasLogs, IsSound, Works, logs, shape}
use Rattle.desk_parts.specs.session_desks.Syncs.{HasOpening}
use Rattle.paged_desks.specs.declared.machine.PagedMachine.{PagedMachine}

-- what its seat has seen
abbrev pub view_of : {D : Type 0} → PagedMachine D → View
view_of m = m.machine.seat.view

-- its rows with their pager
abbrev pub pages : {D : Type 0} → PagedMachine D → Paged
pages m = paged (shape m.machine) m.machine.seat.view m.pager

-- what is in memory of the disk
abbrev pub memory : {D : Type 0} → PagedMachine D → Memory
memory m = record { log = logs m.machine; master = m.machine.master; slots = m.pager.slots }

-- no worker is inside
abbrev pub IsNobodyInside : State → Type 0
IsNobodyInside s = (w : ℕ) → s.inside w ≡ None

-- It works. The machine is sound, and each log has the records that the seat has seen; the pager keeps what it has to, no call of it has met a damaged page or a fault, and
-- its slots, one of each page, hold what is saved. There are 32 frames at least, which is more than a key's way has pages and enough for an abort to ask for
-- few syncs, but no more than pages may be; and nobody holds a page back.
pub record IsReady {D : Type 0} (story : D → Story) (m : PagedMachine D) : Type 0 where
  pub sound : IsSound m.machine
  pub works : Works m.machine
  pub logged : HasLogs m.machine
  pub opens : HasOpening m.machine.seat.view.given
  pub keeps : Keeps (shape m.machine) m.machine.seat.view m.pager
  pub well : m.pager.broken ≡ false
  pub fed : IsFedIfFaithful (pages m) (story m.machine.work.disk)
  pub slots : HasSlots (memory m) m.pager
  pub frames : 32 ≤ m.pager.frames
  pub few : m.pager.frames ≤ 2 ^ 16
  pub outside : IsNobodyInside (state m.machine.seat.view).core
