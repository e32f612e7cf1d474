-- Words of private functions: what a call that changes its key needs behind the taking of its row.
use Rattle.std.specs.Prelude.{◌≡◌, ◌<◌, ◌%◌, ℕ, true, false, length, Option, Result, Ok, Err}
use Rattle.page_model.specs.Limits.{transaction_changes}
use Rattle.paged_desks.specs.engine_trait.declared.unserved.Unserved.{Unserved}
use Rattle.paged_desks.specs.core_state.Needs.{is_held_by}
use Rattle.paged_desks.specs.rows_trait.Views.{state}
use Rattle.paged_desks.specs.worker_log.Logs.{limit, used}
use Rattle.row_room.specs.row_changes.declared.ways.Unmade.{Unmade}
use Rattle.row_room.specs.row_changes.declared.ways.Unmade.TheVariants as unmade
use Rattle.paged_desks.specs.Machines.{view_of}
use Rattle.paged_desks.specs.declared.machine.PagedMachine.{PagedMachine}

-- ## Before it

-- Beside its clock, no test refuses the session a change: its transaction goes on, and has not all its changes; its log has blocks for changes left; and it holds the key's row alone. It is
-- so still behind the coming of pages, since no flush fills a log further.
pub record MayStill {D : Type 0} (key : ℕ) (m : PagedMachine D) : Type 0 where
  pub is_open : m.machine.work.session.is_open ≡ true
  pub whole : m.machine.work.session.is_half_aborted ≡ false
  pub few : length m.machine.work.session.undo < transaction_changes
  pub room : used m.machine.work.log < limit m.machine.work.log
  pub row : is_held_by ((state (view_of m)).core.row (key % m.machine.work.session.held.count)).holder m.machine.work.session.own ≡ true

-- a refusal of the call, as one of a try
abbrev pub as_made : Result (Option ℕ) Unserved → Result (Option ℕ) Unmade
as_made (Ok was) = Ok was
as_made (Err why) = Err (unmade.Unserved why)
