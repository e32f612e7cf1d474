use Rattle.std.proofs.Common.{refl}
use Rattle.paged_scans.specs.paged_desks.declared.machine.PagedMachine.{PagedMachine}
use Rattle.buffered_engine.specs.Inside.Parts.{IsTurned}
use Rattle.buffered_engine.proofs.TurnLemmas.{ready_turned}
use Rattle.buffered_engine.proofs.machine.turn_to.Goals as goal

pub returns-clause-ready : goal.returns-clause-ready
returns-clause-ready g c =
    let m = c.args.machine.now in
    let n : PagedMachine g.row.D.Denot = record { machine = c.turn_to.new.self; pager = m.pager } in
    let e = c.turn_to.ensures in
    let t : IsTurned c.args.session m n = record { turned = e.turned; view = e.same.0; disk = e.same.1; master = e.same.2; group = e.same.3; pager = refl } in
    ready_turned g.D.Disk.story c.args.session m n t e.machine e.works c.requires.ready

pub returns-clause-turned : goal.returns-clause-turned
returns-clause-turned g c = let e = c.turn_to.ensures in record { turned = e.turned; view = e.same.0; disk = e.same.1; master = e.same.2; group = e.same.3; pager = refl }
