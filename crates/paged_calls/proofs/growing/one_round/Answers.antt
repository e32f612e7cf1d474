use Rattle.std.proofs.Common.{◌∙◌, Ok, Err, None, ap, refl, sym, arith}
use Rattle.row_room.specs.declared.steps.Stepped.TheVariants as stepped
use Rattle.paged_desks.proofs.EndingLemmas.{Grounds}
use Rattle.paged_desks.specs.session_state.declared.work.Work.{Work}
use Rattle.paged_calls.specs.Rounds.{most_a_round}
use Rattle.paged_calls.specs.declared.growing.Round.{Round}
use Rattle.paged_calls.specs.declared.growing.Round.TheVariants as round
use Rattle.paged_calls.proofs.PutCalls.{cause_step, ok_step}
use Rattle.paged_calls.proofs.PutWarms.{done_round, going_of, grown_round, may_same_put, met_needs, most_a_step, needs_missed, refused_round, rounds_from, rounds_up, step_works, stepped_as, warm_same}
use Rattle.paged_calls.proofs.WarmLemmas.{cause_at}
use Rattle.paged_calls.proofs.growing.one_round.Goals as goal

pub returns-in-Err-clause-rounds : goal.returns-in-Err-clause-rounds
returns-in-Err-clause-rounds g c =
    let b = c.laws.ensures in
    let l : Grounds = record { reached = b.reached; needs = b.needs; versions = b.versions; kept = b.kept; prefixes = b.prefixes; seals = b.seals } in
    let lawful = (g.met.D.Disk g.world.𝓛 g.world.𝓜 g.world.𝓡 ((λ s x. x), (λ x. x), (λ x. x), (λ x. x))).lawful in
    let m = c.args.machine.now in
    let n = c.step_hot.new.machine in
    let d = c.in-Err.ensures in
    rounds_up g.D.Disk.story c.args.key c.args.value most_a_step most_a_round m n (omega arith) (Err c.in-Err.why)
    (refused_round l b.residence g.D.Disk.story lawful c.args.key c.args.value m n c.requires.ready d.aside d.session c.in-Err.why None (λ on. d.is_half_aborted (d.works ∙ on)) (going_of c.args.key m c.requires.may) c.requires.small d.steps)

pub returns-in-Err-clause-works : goal.returns-in-Err-clause-works
returns-in-Err-clause-works g c = let d = c.in-Err.ensures in d.works ∙ step_works g.D.Disk.story c.args.key c.args.value None c.args.machine.now c.step_hot.new.machine Round c.in-Err.why d.steps

pub returns-in-Err-clause-ready : goal.returns-in-Err-clause-ready
returns-in-Err-clause-ready g c works = let d = c.in-Err.ensures in d.ready (step_works g.D.Disk.story c.args.key c.args.value None c.args.machine.now c.step_hot.new.machine Round c.in-Err.why d.steps ∙ works)

pub returns-in-Err-clause-session : goal.returns-in-Err-clause-session
returns-in-Err-clause-session g c = let d = c.in-Err.ensures.session in (d.1, d.2)

pub returns-in-Err-clause-turn : goal.returns-in-Err-clause-turn
returns-in-Err-clause-turn g c works = c.in-Err.ensures.session.0

pub returns-in-Err-clause-cause_disk_fault : goal.returns-in-Err-clause-cause_disk_fault
returns-in-Err-clause-cause_disk_fault g c = cause_step Round _ _ c.in-Err.why c.in-Err.ensures.cause_disk_fault

pub returns-in-Ok-Done-clause-rounds : goal.returns-in-Ok-Done-clause-rounds
returns-in-Ok-Done-clause-rounds g c =
    let b = c.laws.ensures in
    let l : Grounds = record { reached = b.reached; needs = b.needs; versions = b.versions; kept = b.kept; prefixes = b.prefixes; seals = b.seals } in
    let lawful = (g.met.D.Disk g.world.𝓛 g.world.𝓜 g.world.𝓡 ((λ s x. x), (λ x. x), (λ x. x), (λ x. x))).lawful in
    let m = c.args.machine.now in
    let n = c.step_hot.new.machine in
    let d = c.in-Ok-Done.ensures in
    rounds_up g.D.Disk.story c.args.key c.args.value most_a_step most_a_round m n (omega arith) (Ok (round.Done c.in-Ok-Done.before))
    (done_round l b.residence g.D.Disk.story lawful c.args.key c.args.value m n c.requires.ready d.aside d.session c.in-Ok-Done.before (d.is_half_aborted d.works) None (stepped_as g.D.Disk.story c.args.key c.args.value None m n c.in-Ok-Done.field-0 (stepped.Done c.in-Ok-Done.before) c.in-Ok-Done.field-0-is d.steps))

pub returns-in-Ok-Done-clause-session : goal.returns-in-Ok-Done-clause-session
returns-in-Ok-Done-clause-session g c = let d = c.in-Ok-Done.ensures.session in (d.1, d.2)

pub returns-in-Ok-Done-clause-turn : goal.returns-in-Ok-Done-clause-turn
returns-in-Ok-Done-clause-turn g c works = c.in-Ok-Done.ensures.session.0

pub returns-in-Ok-Done-clause-cause_disk_fault : goal.returns-in-Ok-Done-clause-cause_disk_fault
returns-in-Ok-Done-clause-cause_disk_fault g c = ok_step Round _ _ _ _ c.in-Ok-Done.ensures.cause_disk_fault

pub returns-in-Ok-Grown-clause-rounds : goal.returns-in-Ok-Grown-clause-rounds
returns-in-Ok-Grown-clause-rounds g c =
    let b = c.laws.ensures in
    let l : Grounds = record { reached = b.reached; needs = b.needs; versions = b.versions; kept = b.kept; prefixes = b.prefixes; seals = b.seals } in
    let lawful = (g.met.D.Disk g.world.𝓛 g.world.𝓜 g.world.𝓡 ((λ s x. x), (λ x. x), (λ x. x), (λ x. x))).lawful in
    let m = c.args.machine.now in
    let n = c.step_hot.new.machine in
    let d = c.in-Ok-Grown.ensures in
    rounds_up g.D.Disk.story c.args.key c.args.value most_a_step most_a_round m n (omega arith) (Ok round.Grown)
    (grown_round l b.residence g.D.Disk.story lawful c.args.key c.args.value m n c.requires.ready d.aside d.session (d.is_half_aborted d.works) c.requires.warm None (stepped_as g.D.Disk.story c.args.key c.args.value None m n c.in-Ok-Grown.field-0 stepped.Grown c.in-Ok-Grown.field-0-is d.steps))

pub returns-in-Ok-Grown-clause-session : goal.returns-in-Ok-Grown-clause-session
returns-in-Ok-Grown-clause-session g c = let d = c.in-Ok-Grown.ensures.session in (d.1, d.2)

pub returns-in-Ok-Grown-clause-turn : goal.returns-in-Ok-Grown-clause-turn
returns-in-Ok-Grown-clause-turn g c works = c.in-Ok-Grown.ensures.session.0

pub returns-in-Ok-Grown-clause-cause_disk_fault : goal.returns-in-Ok-Grown-clause-cause_disk_fault
returns-in-Ok-Grown-clause-cause_disk_fault g c = ok_step Round _ _ _ _ c.in-Ok-Grown.ensures.cause_disk_fault

-- ## A page is needed

pub round_into-requires-clause-may : goal.round_into-requires-clause-may
round_into-requires-clause-may g c κs within =
    let m = c.args.machine.now in
    let u = c.step_hot.new.machine in
    let d = c.in-Ok-Needs.ensures in
    let q = needs_missed g.D.Disk.story c.args.key c.args.value None m u c.in-Ok-Needs.field-0 _ c.in-Ok-Needs.field-0-is d.steps in
    may_same_put c.args.key m u q.0 q.1 c.requires.may

pub round_into-requires-clause-warm : goal.round_into-requires-clause-warm
round_into-requires-clause-warm g c κs within =
    let m = c.args.machine.now in
    let u = c.step_hot.new.machine in
    let d = c.in-Ok-Needs.ensures in
    warm_same c.args.key m u (needs_missed g.D.Disk.story c.args.key c.args.value None m u c.in-Ok-Needs.field-0 _ c.in-Ok-Needs.field-0-is d.steps).0 c.requires.warm

pub round_into-requires-clause-wanted : goal.round_into-requires-clause-wanted
round_into-requires-clause-wanted g c κs within =
    met_needs g.D.Disk.story c.args.key c.args.value None c.args.machine.now c.step_hot.new.machine c.in-Ok-Needs.field-0 c.in-Ok-Needs.page c.in-Ok-Needs.field-0-is c.in-Ok-Needs.ensures.steps

pub returns-in-Ok-Needs-clause-rounds : goal.returns-in-Ok-Needs-clause-rounds
returns-in-Ok-Needs-clause-rounds g c =
    let b = c.laws.ensures in
    let l : Grounds = record { reached = b.reached; needs = b.needs; versions = b.versions; kept = b.kept; prefixes = b.prefixes; seals = b.seals } in
    let lawful = (g.met.D.Disk g.world.𝓛 g.world.𝓜 g.world.𝓡 ((λ s x. x), (λ x. x), (λ x. x), (λ x. x))).lawful in
    let m = c.args.machine.now in
    let u = c.step_hot.new.machine in
    let d = c.in-Ok-Needs.ensures in
    rounds_from l b.residence g.D.Disk.story lawful c.args.key c.args.value m u c.round_into.new.machine d.aside (needs_missed g.D.Disk.story c.args.key c.args.value None m u c.in-Ok-Needs.field-0 _ c.in-Ok-Needs.field-0-is d.steps) c.round_into.result c.round_into.ensures.rounds

pub returns-in-Ok-Needs-clause-session : goal.returns-in-Ok-Needs-clause-session
returns-in-Ok-Needs-clause-session g c = let d = c.in-Ok-Needs.ensures.session in let b = c.round_into.ensures.session in (b.0 ∙ d.1, b.1 ∙ d.2)

pub returns-in-Ok-Needs-clause-turn : goal.returns-in-Ok-Needs-clause-turn
returns-in-Ok-Needs-clause-turn g c works = c.round_into.ensures.turn works ∙ c.in-Ok-Needs.ensures.session.0

pub returns-in-Ok-Needs-clause-cause_disk_fault : goal.returns-in-Ok-Needs-clause-cause_disk_fault
returns-in-Ok-Needs-clause-cause_disk_fault g c =
    let m = c.args.machine.now in
    let u = c.step_hot.new.machine in
    let d = c.in-Ok-Needs.ensures in
    cause_at _ _ _ _ _ (ap (λ (k : Work _). g.D.Disk.faults k.disk) (sym (needs_missed g.D.Disk.story c.args.key c.args.value None m u c.in-Ok-Needs.field-0 _ c.in-Ok-Needs.field-0-is d.steps).1)) refl c.round_into.ensures.cause_disk_fault

pub round_into-requires-clause-ready : goal.round_into-requires-clause-ready
round_into-requires-clause-ready g c κs within = c.in-Ok-Needs.ensures.ready refl
