use Rattle.std.proofs.Common.{◌≡◌, ◌≤◌, ◌+◌, ◌*◌, ℕ}
use Rattle.row_walks.specs.Stages.{left_of}
use Rattle.paged_desks.specs.Machines.{IsReady, view_of}
use Rattle.paged_desks.specs.row_words.Openings.{opening}
use Rattle.paged_calls.specs.Tidyings.{GoesOn, HasTidied, most_a_tidy_round}
use Rattle.paged_calls.proofs.tidying.tidy_on.Given as goal

abbrev pub invariant-tidy : goal.invariant-tidy
invariant-tidy g l = record {
  ready : IsReady g.D.Disk.story l.machine;
  goes : GoesOn l.key l.at l.machine;
  most : ℕ;
  made : HasTidied g.D.Disk.story l.key l.fn.from l.at most l.fn.machine l.machine;
  few : most + left_of (opening (view_of l.machine).given).format.levels l.at * most_a_tidy_round ≤ left_of (opening (view_of l.fn.machine).given).format.levels l.fn.from * most_a_tidy_round;
  faults : g.D.Disk.faults l.machine.machine.work.disk ≡ g.D.Disk.faults l.fn.machine.machine.work.disk;
}

abbrev pub decreases-tidy : goal.decreases-tidy
decreases-tidy g l = left_of (opening (view_of l.machine).given).format.levels l.at
