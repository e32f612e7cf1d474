use Rattle.std.proofs.Common.{refl}
use Rattle.session_desks.specs.Parts.{here, in_store, shape}
use Rattle.session_desks.proofs.SeatLemmas.{machine_turned, seated_of, turned_group, turned_works}
use Rattle.session_desks.proofs.machine.Machine.turn_to.Goals as goal

pub turn_to-requires-clause-seated : goal.turn_to-requires-clause-seated
turn_to-requires-clause-seated g c =
    let s = c.args.self.now in
    seated_of (shape s) s.seat.view (here s) s.desks.items c.requires.machine.desks

pub returns-clause-machine : goal.returns-clause-machine
returns-clause-machine g c =
    let s = c.args.self.now in
    machine_turned s.rows.frames s.rows.locks s.rows.workers s.rows.words.items s.seat.view c.args.session (here s) (in_store c.turn_to.new.work) s.desks.items c.turn_to.new.desks.items s.latches s.master
    c.requires.session.0 c.requires.session.1 c.requires.machine c.turn_to.ensures.turned

pub returns-clause-works : goal.returns-clause-works
returns-clause-works g c =
    let s = c.args.self.now in
    turned_works (shape s) s.seat.view c.args.session (here s) (in_store c.turn_to.new.work) s.desks.items c.turn_to.new.desks.items c.requires.machine.desks
    c.requires.session.0 c.requires.session.1 c.turn_to.ensures.turned

pub returns-clause-same : goal.returns-clause-same
returns-clause-same g c =
    let s = c.args.self.now in (
      refl {a = c.args.self.now.seat.view},
      c.turn_to.ensures.disk,
      refl {a = c.args.self.now.master},
      turned_group (shape s) s.seat.view c.args.session (here s) (in_store c.turn_to.new.work) s.desks.items c.turn_to.new.desks.items
          c.requires.machine.desks c.requires.session.0 c.requires.session.1 c.turn_to.ensures.turned,
    )
