use Rattle.std.proofs.Common.{◌≡◌, ◌≤◌, ◌*◌, ◌-◌}
use Rattle.paged_rows.specs.Paged.{IsWarm}
use Rattle.paged_rows.specs.declared.wanted.Wanted.TheVariants as want
use Rattle.paged_desks.specs.Inside.{HasDone}
use Rattle.paged_desks.specs.Machines.{IsReady, pages}
use Rattle.paged_desks.specs.Pages.{IsTightFor, most_a_level}
use Rattle.paged_desks.proofs.machine.PagedMachine.warm.Given as goal

abbrev pub invariant-loop-come : goal.invariant-loop-come
invariant-loop-come g l = record {
  ready : IsReady g.D.Disk.story l.self;
  few : l._come ≤ 8;
  done : HasDone g.D.Disk.story (IsTightFor want.Way l.fn.key) (l._come * most_a_level l.fn.self.machine.work.session.workers) l.fn.self l.self;
  warm : IsWarm (pages l.self) l.fn.key (8 - l._come);
  faults : g.D.Disk.faults l.self.machine.work.disk ≡ g.D.Disk.faults l.fn.self.machine.work.disk;
}
