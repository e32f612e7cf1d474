use Rattle.paged_desks.proofs.session_desks.SeatLemmas.{holds_of}
use Rattle.paged_desks.specs.session_desks.Parts.{here, shape}
use Rattle.paged_desks.specs.declared.machine.PagedMachine.{PagedMachine}
use Rattle.std.proofs.Common.{refl}
use Rattle.paged_calls.proofs.PieceSteps.{take_ready}
use Rattle.paged_calls.proofs.taking.take.Goals as goal

pub take_row-requires-clause-holds : goal.take_row-requires-clause-holds
take_row-requires-clause-holds g c =
    let m = c.args.machine.now.machine in
    holds_of (shape m) m.seat.view (here m) m.desks.items c.requires.ready.sound.desks

pub returns-clause-ready : goal.returns-clause-ready
returns-clause-ready g c =
    let m = c.args.machine.now in
    let e = c.take_row.ensures in
    let n : PagedMachine g.row.D.Denot = record m { machine = record m.machine { rows = c.take_row.new.rows; seat = c.take_row.new.seat; work = record m.machine.work { session = c.take_row.new.session } } } in
    take_ready g.D.Disk.story c.laws.ensures.others m n c.requires.ready (record { shape = e.fits.1; disk = refl; log = refl; desks = refl; latches = refl; master = refl; pager = refl }) e.fits.0 e.holds c.args.key c.args.mode c.take_row.result e.taken e.not_taken
