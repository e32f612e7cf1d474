use Rattle.std.proofs.Common.{refl}
use Rattle.paged_desks.proofs.session_desks.SeatLemmas.{holds_of}
use Rattle.paged_desks.specs.session_desks.Parts.{here, shape}
use Rattle.paged_desks.specs.declared.machine.PagedMachine.{PagedMachine}
use Rattle.paged_calls.proofs.PieceSteps.{read_ready}
use Rattle.paged_calls.proofs.reading.read.Goals as goal

pub read_held-requires-clause-holds : goal.read_held-requires-clause-holds
read_held-requires-clause-holds g c =
    let m = c.args.machine.now.machine in
    holds_of (shape m) m.seat.view (here m) m.desks.items c.requires.ready.sound.desks

pub returns-clause-ready : goal.returns-clause-ready
returns-clause-ready g c =
    let m = c.args.machine.now in
    let e = c.read_held.ensures in
    let n : PagedMachine g.row.D.Denot = record m { machine = record m.machine { rows = c.read_held.new.rows; seat = c.read_held.new.seat; work = record m.machine.work { session = c.read_held.new.session } } } in
    read_ready g.D.Disk.story c.laws.ensures.others m n c.requires.ready (record { shape = e.fits.1; disk = refl; log = refl; desks = refl; latches = refl; master = refl; pager = refl }) e.fits.0 e.holds c.args.key c.read_held.result e.session e.reads
