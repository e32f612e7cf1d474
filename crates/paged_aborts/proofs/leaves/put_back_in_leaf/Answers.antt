use Rattle.std.proofs.Common.{◌∙◌, refl}
use Rattle.paged_desks.proofs.session_desks.SeatLemmas.{holds_of}
use Rattle.paged_desks.specs.session_desks.Parts.{here, shape}
use Rattle.paged_desks.specs.declared.machine.PagedMachine.{PagedMachine}
use Rattle.paged_aborts.proofs.BackSteps.{back_ready}
use Rattle.paged_aborts.proofs.leaves.put_back_in_leaf.Goals as goal

pub put_back-requires-clause-holds : goal.put_back-requires-clause-holds
put_back-requires-clause-holds g c κs within =
    let m = c.args.machine.now.machine in
    holds_of (shape m) m.seat.view (here m) m.desks.items c.requires.ready.sound.desks

pub returns-clause-ready : goal.returns-clause-ready
returns-clause-ready g c works =
    let m = c.args.machine.now in
    let e = c.put_back.ensures in
    let n : PagedMachine g.row.D.Denot = record m { machine = record m.machine { rows = c.put_back.new.rows; seat = c.put_back.new.seat; work = c.put_back.new.work } } in
    back_ready g.D.Disk.story c.laws.ensures.others c.laws.ensures.standing m n c.requires.ready (record { shape = e.fits.1; desks = refl; latches = refl; master = refl; pager = refl }) e.fits.0 e.session e.holds (e.works ∙ works) c.put_back.result works e.backs
