use Rattle.std.proofs.Common.{◌≡◌, ◌≤◌, ◌+◌, ◌-◌, true}
use Rattle.paged_calls.specs.paged_desks.Machines.{IsReady}
use Rattle.paged_scans.specs.Steps.{HasPassed}
use Rattle.paged_scans.proofs.nexts.next.Given as goal

abbrev pub invariant-loop-at : goal.invariant-loop-at
invariant-loop-at g l = record {
  low : l.fn.from ≤ l.at;
  ready : IsReady g.D.Disk.story l.machine;
  works : l.machine.machine.work.session.works ≡ true;
  is_open : l.machine.machine.work.session.is_open ≡ true;
  many : l.machine.machine.work.session.workers ≡ l.fn.machine.machine.work.session.workers;
  passed : HasPassed g.D.Disk.story l.fn.from l.at l.fn.machine l.machine;
  faults : g.D.Disk.faults l.machine.machine.work.disk ≡ g.D.Disk.faults l.fn.machine.machine.work.disk;
}

abbrev pub decreases-loop-at : goal.decreases-loop-at
decreases-loop-at g l = l.to + 1 - l.at
