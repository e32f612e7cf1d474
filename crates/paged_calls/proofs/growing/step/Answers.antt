use Rattle.std.proofs.Common.{◌∙◌, refl}
use Rattle.paged_desks.proofs.session_desks.SeatLemmas.{holds_of}
use Rattle.paged_desks.specs.session_desks.Parts.{here, shape}
use Rattle.paged_desks.proofs.EndingLemmas.{Grounds}
use Rattle.paged_desks.specs.declared.machine.PagedMachine.{PagedMachine}
use Rattle.paged_calls.proofs.PutWarms.{may_step, step_ready}
use Rattle.paged_calls.proofs.growing.step.Goals as goal

pub put_step-requires-clause-holds : goal.put_step-requires-clause-holds
put_step-requires-clause-holds g c κs within =
    let m = c.args.machine.now.machine in
    holds_of (shape m) m.seat.view (here m) m.desks.items c.requires.ready.sound.desks

pub put_step-requires-clause-may : goal.put_step-requires-clause-may
put_step-requires-clause-may g c κs within = may_step c.args.key c.args.machine.now c.requires.ready.works c.requires.small c.requires.key c.requires.may

pub returns-clause-ready : goal.returns-clause-ready
returns-clause-ready g c works =
    let b = c.laws.ensures in
    let l : Grounds = record { reached = b.reached; needs = b.needs; versions = b.versions; kept = b.kept; prefixes = b.prefixes; seals = b.seals } in
    let lawful = (g.met.D.Disk g.world.𝓛 g.world.𝓜 g.world.𝓡 ((λ s x. x), (λ x. x), (λ x. x), (λ x. x))).lawful in
    let m = c.args.machine.now in
    let e = c.put_step.ensures in
    let n : PagedMachine g.row.D.Denot = record m { machine = record m.machine { rows = c.put_step.new.rows; seat = c.put_step.new.seat; work = c.put_step.new.work } } in
    step_ready l b.residence g.D.Disk.story lawful c.args.key c.args.value m n c.requires.ready (record { shape = e.fits.1; desks = refl; latches = refl; master = refl; pager = refl }) e.session b.others b.standing e.fits.0 e.holds (e.works ∙ works) c.args.placed c.put_step.result works e.steps
