use Rattle.std.proofs.Common.{refl}
use Rattle.paged_calls.proofs.session_desks.SeatLemmas.{holds_of}
use Rattle.paged_calls.specs.session_desks.Parts.{here, shape}
use Rattle.paged_calls.specs.paged_desks.declared.machine.PagedMachine.{PagedMachine}
use Rattle.paged_scans.proofs.LookLemmas.{walk_ready}
use Rattle.paged_scans.proofs.walks.walk.Goals as goal

pub meet-requires-clause-holds : goal.meet-requires-clause-holds
meet-requires-clause-holds g c =
    let m = c.args.machine.now.machine in
    holds_of (shape m) m.seat.view (here m) m.desks.items c.requires.ready.sound.desks

pub returns-clause-ready : goal.returns-clause-ready
returns-clause-ready g c =
    let m = c.args.machine.now in
    let e = c.meet.ensures in
    let n : PagedMachine g.row.D.Denot = record m { machine = record m.machine { rows = c.meet.new.rows; seat = c.meet.new.seat; work = record m.machine.work { session = c.meet.new.session } } } in
    walk_ready g.D.Disk.story c.laws.ensures.others m n c.requires.ready (record { shape = e.fits.1; disk = refl; log = refl; desks = refl; latches = refl; master = refl; pager = refl }) e.fits.0 e.holds e.session c.args.key c.meet.result _ e.meets
