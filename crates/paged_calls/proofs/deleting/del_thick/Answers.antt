use Rattle.std.proofs.Common.{◌∙◌, refl}
use Rattle.paged_desks.proofs.session_desks.SeatLemmas.{holds_of}
use Rattle.paged_desks.specs.session_desks.Parts.{here, shape}
use Rattle.paged_desks.specs.declared.machine.PagedMachine.{PagedMachine}
use Rattle.row_walks.specs.declared.steps.At.TheVariants as begun
use Rattle.paged_calls.proofs.ChangeSteps.{at_once_ready}
use Rattle.paged_calls.proofs.TidyWarms.{may_over, may_write}
use Rattle.paged_calls.proofs.deleting.del_thick.Goals as goal

pub del_at_once-requires-clause-holds : goal.del_at_once-requires-clause-holds
del_at_once-requires-clause-holds g c κs within =
    let m = c.args.machine.now.machine in
    holds_of (shape m) m.seat.view (here m) m.desks.items c.requires.ready.sound.desks

pub del_at_once-requires-clause-may : goal.del_at_once-requires-clause-may
del_at_once-requires-clause-may g c κs within = may_write c.args.key c.args.machine.now c.requires.ready.works c.requires.small c.requires.key (may_over c.args.key begun.Before c.args.machine.now c.requires.may)

pub returns-clause-ready : goal.returns-clause-ready
returns-clause-ready g c works =
    let m = c.args.machine.now in
    let e = c.del_at_once.ensures in
    let n : PagedMachine g.row.D.Denot = record m { machine = record m.machine { rows = c.del_at_once.new.rows; seat = c.del_at_once.new.seat; work = c.del_at_once.new.work } } in
    at_once_ready g.D.Disk.story c.laws.ensures.others c.laws.ensures.standing m n c.requires.ready (record { shape = e.fits.1; desks = refl; latches = refl; master = refl; pager = refl }) e.fits.0 e.session e.holds (e.works ∙ works) c.args.key c.del_at_once.result works e.dels
