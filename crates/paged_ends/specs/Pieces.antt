-- Words of private functions: what the pieces of a begin and a commit did to a machine.
use Rattle.std.specs.Prelude.{◌≡◌, ℕ, None, Result}
use Rattle.paged_desks.specs.engine_trait.declared.unserved.Unserved.{Unserved}
use Rattle.lean_disk.specs.Story.{Story}
use Rattle.row_ends.specs.Begins.{Begins}
use Rattle.row_ends.specs.Outcomes.{Commits}
use Rattle.row_ends.specs.Tests.{begin_test}
use Rattle.row_ends.specs.declared.ending.Ended.{Ended}
use Rattle.paged_desks.specs.Calls.{IsBeside}
use Rattle.paged_desks.specs.Machines.{view_of}
use Rattle.paged_desks.specs.declared.machine.PagedMachine.{PagedMachine}

-- no test refused the begin of the session whose turn it is, and it began
pub record HasBegun {D : Type 0} (m n : PagedMachine D) (number : ℕ) : Type 0 where
  pub free : begin_test m.machine.work.session m.machine.work.log ≡ None
  pub begins : Begins (view_of m) (view_of n) m.machine.work.session n.machine.work.session number
  pub beside : IsBeside m n

-- what the commit of the session whose turn it is did, behind its tests
abbrev pub CommitsOn : {D : Type 0} → (story : D → Story) → Result Ended Unserved → (m n : PagedMachine D) → Type 0
CommitsOn story r m n = Commits story r (view_of m) (view_of n) m.machine.work.session n.machine.work.session m.machine.work.log n.machine.work.log m.machine.work.disk n.machine.work.disk
