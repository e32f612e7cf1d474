use Rattle.std.proofs.Common.{◌∙◌, refl}
use Rattle.paged_desks.proofs.session_desks.SeatLemmas.{holds_of}
use Rattle.paged_desks.specs.session_desks.Parts.{here, shape}
use Rattle.paged_desks.specs.declared.machine.PagedMachine.{PagedMachine}
use Rattle.paged_aborts.proofs.EndStands.{end_comes, end_keeps, end_not_broken, end_ready, end_works}
use Rattle.paged_aborts.proofs.UndoneLemmas.{failed_log}
use Rattle.paged_desks.proofs.EndingLemmas.{Grounds}
use Rattle.paged_aborts.proofs.aborts.finish.Goals as goal

pub end_abort-requires-clause-holds : goal.end_abort-requires-clause-holds
end_abort-requires-clause-holds g c κs within =
    let m = c.args.machine.now.machine in
    holds_of (shape m) m.seat.view (here m) m.desks.items c.requires.ready.sound.desks

pub returns-clause-works : goal.returns-clause-works
returns-clause-works g c =
    let m = c.args.machine.now in
    let e = c.end_abort.ensures in
    let n : PagedMachine g.row.D.Denot = record m { machine = record m.machine { rows = c.end_abort.new.rows; seat = c.end_abort.new.seat; work = c.end_abort.new.work; latches = c.end_abort.new.latches } } in
    end_works g.D.Disk.story m n c.end_abort.result e.aborts e.works

pub returns-clause-ready : goal.returns-clause-ready
returns-clause-ready g c on =
    let m = c.args.machine.now in
    let e = c.end_abort.ensures in
    let n : PagedMachine g.row.D.Denot = record m { machine = record m.machine { rows = c.end_abort.new.rows; seat = c.end_abort.new.seat; work = c.end_abort.new.work; latches = c.end_abort.new.latches } } in
    let w = end_works g.D.Disk.story m n c.end_abort.result e.aborts e.works ∙ on in
    end_ready g.D.Disk.story m n c.requires.ready c.requires.is_open (record { shape = e.fits.1; desks = refl; latches = e.unmarked w; master = refl; pager = refl }) e.session c.laws.ensures.others (e.steps w) e.fits.0 w (e.holds w) c.end_abort.result e.aborts on

pub returns-clause-aside : goal.returns-clause-aside
returns-clause-aside g c on =
    let m = c.args.machine.now in
    let e = c.end_abort.ensures in
    let n : PagedMachine g.row.D.Denot = record m { machine = record m.machine { rows = c.end_abort.new.rows; seat = c.end_abort.new.seat; work = c.end_abort.new.work; latches = c.end_abort.new.latches } } in
    record { shape = e.fits.1; desks = refl; latches = e.unmarked (end_works g.D.Disk.story m n c.end_abort.result e.aborts e.works ∙ on); master = refl; pager = refl }

pub returns-clause-come : goal.returns-clause-come
returns-clause-come g c =
    let m = c.args.machine.now in
    let e = c.end_abort.ensures in
    let n : PagedMachine g.row.D.Denot = record m { machine = record m.machine { rows = c.end_abort.new.rows; seat = c.end_abort.new.seat; work = c.end_abort.new.work; latches = c.end_abort.new.latches } } in
    end_comes g.D.Disk.story m n c.end_abort.result e.aborts

pub returns-clause-no_broken : goal.returns-clause-no_broken
returns-clause-no_broken g c =
    let m = c.args.machine.now in
    let e = c.end_abort.ensures in
    let n : PagedMachine g.row.D.Denot = record m { machine = record m.machine { rows = c.end_abort.new.rows; seat = c.end_abort.new.seat; work = c.end_abort.new.work; latches = c.end_abort.new.latches } } in
    end_not_broken g.D.Disk.story m n c.end_abort.result e.aborts

pub returns-clause-failed : goal.returns-clause-failed
returns-clause-failed g c fault =
    let m = c.args.machine.now in
    let e = c.end_abort.ensures in
    let n : PagedMachine g.row.D.Denot = record m { machine = record m.machine { rows = c.end_abort.new.rows; seat = c.end_abort.new.seat; work = c.end_abort.new.work; latches = c.end_abort.new.latches } } in
    let q = c.laws.ensures in
    let l : Grounds = record { reached = q.reached; needs = q.needs; versions = q.versions; kept = q.kept; prefixes = q.prefixes; seals = q.seals } in
    let lawful = (g.met.D.Disk g.world.𝓛 g.world.𝓜 g.world.𝓡 ((λ s x. x), (λ x. x), (λ x. x), (λ x. x))).lawful in
    failed_log l q.places g.D.Disk.story lawful m n c.requires.ready e.session (end_keeps g.D.Disk.story m n c.end_abort.result e.aborts fault) e.fits.0
