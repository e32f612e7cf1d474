use Rattle.std.proofs.Common.{◌≡◌, true, length}
use Rattle.paged_desks.specs.Machines.{IsReady}
use Rattle.paged_aborts.specs.Backs.{SoFar}
use Rattle.paged_aborts.proofs.backs.put_back_all.Given as goal

abbrev pub invariant-left : goal.invariant-left
invariant-left g l = record {
  ready : IsReady g.D.Disk.story l.machine;
  is_open : l.machine.machine.work.session.is_open ≡ true;
  so_far : SoFar g.D.Disk.story l.fn.machine l.machine;
  faults : g.D.Disk.faults l.machine.machine.work.disk ≡ g.D.Disk.faults l.fn.machine.machine.work.disk;
}

abbrev pub decreases-left : goal.decreases-left
decreases-left g l = length l.machine.machine.work.session.undo
