use Rattle.std.proofs.Common.{◌∙◌, refl}
use Rattle.paged_desks.proofs.session_desks.SeatLemmas.{holds_of}
use Rattle.paged_desks.specs.session_desks.Parts.{here, shape}
use Rattle.paged_desks.proofs.EndingLemmas.{Grounds}
use Rattle.paged_desks.specs.declared.machine.PagedMachine.{PagedMachine}
use Rattle.paged_calls.proofs.TidyWarms.{may_shrink, step_ready}
use Rattle.paged_calls.proofs.tidying.step.Goals as goal

pub tidy_step-requires-clause-holds : goal.tidy_step-requires-clause-holds
tidy_step-requires-clause-holds g c κs within =
    let m = c.args.machine.now.machine in
    holds_of (shape m) m.seat.view (here m) m.desks.items c.requires.ready.sound.desks

pub tidy_step-requires-clause-may : goal.tidy_step-requires-clause-may
tidy_step-requires-clause-may g c κs within = may_shrink c.args.key c.args.at c.args.machine.now c.requires.ready.works c.requires.small c.requires.may

pub returns-clause-ready : goal.returns-clause-ready
returns-clause-ready g c works =
    let b = c.laws.ensures in
    let l : Grounds = record { reached = b.reached; needs = b.needs; versions = b.versions; kept = b.kept; prefixes = b.prefixes; seals = b.seals } in
    let lawful = (g.met.D.Disk g.world.𝓛 g.world.𝓜 g.world.𝓡 ((λ s x. x), (λ x. x), (λ x. x), (λ x. x))).lawful in
    let m = c.args.machine.now in
    let e = c.tidy_step.ensures in
    let n : PagedMachine g.row.D.Denot = record m { machine = record m.machine { rows = c.tidy_step.new.rows; seat = c.tidy_step.new.seat; work = c.tidy_step.new.work } } in
    step_ready l g.D.Disk.story lawful c.args.key c.args.at m n c.requires.ready (record { shape = e.fits.1; desks = refl; latches = refl; master = refl; pager = refl }) e.session b.others b.standing e.fits.0 e.holds (e.works ∙ works) c.tidy_step.result works e.tidies
