use Rattle.std.proofs.Common.{◌∙◌, ap, refl, sym}
use Rattle.paged_desks.proofs.session_desks.SeatLemmas.{holds_of}
use Rattle.paged_desks.specs.session_desks.Parts.{here, shape}
use Rattle.paged_desks.specs.session_state.declared.session.Session.{Session}
use Rattle.paged_desks.specs.declared.machine.PagedMachine.{PagedMachine}
use Rattle.row_ends.proofs.BeginLemmas.{free_of}
use Rattle.paged_ends.proofs.BeginStands.{ready_begun}
use Rattle.paged_ends.proofs.begins.begin_once.Goals as goal

pub begin_tested-requires-clause-holds : goal.begin_tested-requires-clause-holds
begin_tested-requires-clause-holds g c =
    let m = c.args.machine.now.machine in
    holds_of (shape m) m.seat.view (here m) m.desks.items (c.requires.ready (free_of m.work.session m.work.log (sym c.begin_refusal.ensures ∙ c.in_default.is)).works).sound.desks

pub begin_tested-requires-clause-may : goal.begin_tested-requires-clause-may
begin_tested-requires-clause-may g c = let w = c.args.machine.now.machine.work in free_of w.session w.log (sym c.begin_refusal.ensures ∙ c.in_default.is)

pub returns-clause-ready : goal.returns-clause-ready
returns-clause-ready g c works =
    let m = c.args.machine.now in
    let may = free_of m.machine.work.session m.machine.work.log (sym c.begin_refusal.ensures ∙ c.in_default.is) in
    let e = c.begin_tested.ensures in
    let n : PagedMachine g.row.D.Denot = record m { machine = record m.machine { rows = c.begin_tested.new.rows; seat = c.begin_tested.new.seat; work = record m.machine.work { session = c.begin_tested.new.session } } } in
    ready_begun g.D.Disk.story m n c.laws.ensures.others (c.requires.ready may.works) (record { shape = e.fits.1; disk = refl; log = refl; desks = refl; latches = refl; master = refl; pager = refl }) c.begin_tested.result e.begins e.fits.0 e.steps e.holds

pub returns-clause-begun : goal.returns-clause-begun
returns-clause-begun g c =
    let e = c.begin_tested.ensures in
    record { free = sym c.begin_refusal.ensures ∙ c.in_default.is; begins = e.begins; beside = record { shape = e.fits.1; disk = refl; log = refl; desks = refl; latches = refl; master = refl; pager = refl } }

pub returns-clause-works : goal.returns-clause-works
returns-clause-works g c = ap (λ (s : Session). s.works) c.begin_tested.ensures.begins.session
