use Rattle.std.proofs.Common.{◌≡◌, ◌<◌, ◌-◌, true}
use Rattle.session_desks.specs.Parts.{here}
use Rattle.session_desks.specs.Desks.{log_of}
use Rattle.session_desks.specs.Machines.{IsMachine}
use Rattle.session_desks.specs.Syncs.{AreStill, Flushed}
use Rattle.session_desks.proofs.machine.Machine.flush_all.Given as goal

abbrev pub invariant-loop-session : goal.invariant-loop-session
invariant-loop-session g l =
    let n = l.self in
    let s = l.fn.self in
    record {
      machine : IsMachine n.rows.frames n.rows.locks n.rows.workers n.rows.words.items n.seat.view (here n) n.desks.items n.latches n.master;
      some : 0 < l.session;
      works : n.work.session.works ≡ true;
      workers : n.work.session.workers ≡ s.work.session.workers;
      group : n.work.session.group ≡ s.work.session.group;
      still : AreStill s.work.session.workers (here s) s.desks.items (here n) n.desks.items;
      flushed : Flushed (l.session - 1) s.work.session.workers s.seat.view n.seat.view (log_of (here s) s.desks.items) (log_of (here n) n.desks.items) (g.D.Disk.story s.work.disk) (g.D.Disk.story n.work.disk);
      master : n.master ≡ s.master;
      calm : g.D.Disk.faults n.work.disk ≡ g.D.Disk.faults s.work.disk;
    }
