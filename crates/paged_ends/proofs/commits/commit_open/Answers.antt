use Rattle.std.proofs.Common.{◌∙◌, refl}
use Rattle.paged_desks.proofs.session_desks.SeatLemmas.{holds_of}
use Rattle.paged_desks.specs.session_desks.Parts.{here, shape}
use Rattle.paged_desks.specs.declared.machine.PagedMachine.{PagedMachine}
use Rattle.paged_ends.proofs.CommitPieces.{comes_by, not_broken, ready_by, works_by}
use Rattle.paged_ends.proofs.commits.commit_open.Goals as goal

pub commit_tested-requires-clause-holds : goal.commit_tested-requires-clause-holds
commit_tested-requires-clause-holds g c κs within =
    let m = c.args.machine.now.machine in
    holds_of (shape m) m.seat.view (here m) m.desks.items c.requires.ready.sound.desks

pub returns-clause-ready : goal.returns-clause-ready
returns-clause-ready g c on =
    let m = c.args.machine.now in
    let e = c.commit_tested.ensures in
    let n : PagedMachine g.row.D.Denot = record m { machine = record m.machine { rows = c.commit_tested.new.rows; seat = c.commit_tested.new.seat; work = c.commit_tested.new.work; latches = c.commit_tested.new.latches } } in
    ready_by g.D.Disk.story c.laws.ensures.others m n c.requires.ready c.requires.is_open c.commit_tested.result e.commits on e.fits e.session e.works e.holds e.steps e.unmarked refl refl refl

pub returns-clause-works : goal.returns-clause-works
returns-clause-works g c =
    let m = c.args.machine.now in
    let e = c.commit_tested.ensures in
    let n : PagedMachine g.row.D.Denot = record m { machine = record m.machine { rows = c.commit_tested.new.rows; seat = c.commit_tested.new.seat; work = c.commit_tested.new.work; latches = c.commit_tested.new.latches } } in
    works_by g.D.Disk.story c.laws.ensures.others m n c.requires.ready c.requires.is_open c.commit_tested.result e.commits e.works

pub returns-clause-come : goal.returns-clause-come
returns-clause-come g c =
    let m = c.args.machine.now in
    let n : PagedMachine g.row.D.Denot = record m { machine = record m.machine { rows = c.commit_tested.new.rows; seat = c.commit_tested.new.seat; work = c.commit_tested.new.work; latches = c.commit_tested.new.latches } } in
    comes_by g.D.Disk.story c.laws.ensures.others m n c.requires.ready c.requires.is_open c.commit_tested.result c.commit_tested.ensures.commits

pub returns-clause-no_broken : goal.returns-clause-no_broken
returns-clause-no_broken g c =
    let m = c.args.machine.now in
    let n : PagedMachine g.row.D.Denot = record m { machine = record m.machine { rows = c.commit_tested.new.rows; seat = c.commit_tested.new.seat; work = c.commit_tested.new.work; latches = c.commit_tested.new.latches } } in
    not_broken g.D.Disk.story c.laws.ensures.others m n c.requires.ready c.requires.is_open c.commit_tested.result c.commit_tested.ensures.commits

pub returns-clause-aside : goal.returns-clause-aside
returns-clause-aside g c on =
    let m = c.args.machine.now in
    let e = c.commit_tested.ensures in
    let n : PagedMachine g.row.D.Denot = record m { machine = record m.machine { rows = c.commit_tested.new.rows; seat = c.commit_tested.new.seat; work = c.commit_tested.new.work; latches = c.commit_tested.new.latches } } in
    record { shape = e.fits.1; desks = refl; latches = e.unmarked (works_by g.D.Disk.story c.laws.ensures.others m n c.requires.ready c.requires.is_open c.commit_tested.result e.commits e.works ∙ on); master = refl; pager = refl }
