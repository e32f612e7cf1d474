use Rattle.std.proofs.Common.{◌∙◌, ◌+◌, ◌*◌, Option, Ok, Err, Some, None, refl, sym, arith}
use Rattle.row_walks.specs.declared.steps.At.{At}
use Rattle.row_walks.specs.declared.steps.Tidied.TheVariants as tidied
use Rattle.paged_desks.proofs.EndingLemmas.{Grounds}
use Rattle.paged_calls.specs.Tidyings.{most_a_neighbour, most_a_step, most_a_tidy_round}
use Rattle.paged_calls.proofs.TidyCalls.{cause_step, never_fault, ok_step, passed_first}
use Rattle.paged_calls.proofs.TidyLive.{live_tidied}
use Rattle.paged_calls.proofs.TidyWarms.{changed_round, clean_round, refused_round, rounds_then, rounds_up, step_works, stepped_as, wished_round}
use Rattle.paged_calls.proofs.WarmLemmas.{cause_at}
use Rattle.paged_calls.proofs.tidying.round.Goals as goal

pub step_hot-requires-clause-passed : goal.step_hot-requires-clause-passed
step_hot-requires-clause-passed g c κs within = passed_first c.args.key c.args.at c.args.machine.now c.requires.may c.lowest.result c.lowest.ensures

pub returns-in-Err-clause-rounds : goal.returns-in-Err-clause-rounds
returns-in-Err-clause-rounds g c =
    let b = c.laws.ensures in
    let l : Grounds = record { reached = b.reached; needs = b.needs; versions = b.versions; kept = b.kept; prefixes = b.prefixes; seals = b.seals } in
    let lawful = (g.met.D.Disk g.world.𝓛 g.world.𝓜 g.world.𝓡 ((λ s x. x), (λ x. x), (λ x. x), (λ x. x))).lawful in
    let story = g.D.Disk.story in
    let m = c.args.machine.now in
    let n = c.step_hot.new.machine in
    let d = c.in-Err.ensures in
    rounds_up story c.args.key c.args.at most_a_step most_a_tidy_round m n (omega arith) (Err c.in-Err.why) (refused_round l story lawful c.args.key c.args.at m n c.requires.ready d.aside d.session c.in-Err.why c.requires.may d.steps)

pub returns-in-Err-clause-works : goal.returns-in-Err-clause-works
returns-in-Err-clause-works g c = let d = c.in-Err.ensures in d.works ∙ step_works g.D.Disk.story c.args.key c.args.at c.args.machine.now c.step_hot.new.machine (Option At) c.in-Err.why d.steps

pub returns-in-Err-clause-ready : goal.returns-in-Err-clause-ready
returns-in-Err-clause-ready g c works = let d = c.in-Err.ensures in d.ready (step_works g.D.Disk.story c.args.key c.args.at c.args.machine.now c.step_hot.new.machine (Option At) c.in-Err.why d.steps ∙ works)

pub returns-in-Err-clause-session : goal.returns-in-Err-clause-session
returns-in-Err-clause-session g c = let d = c.in-Err.ensures.session in (d.1, d.2)

pub returns-in-Err-clause-turn : goal.returns-in-Err-clause-turn
returns-in-Err-clause-turn g c works = c.in-Err.ensures.session.0

pub returns-in-Err-clause-cause_disk_fault : goal.returns-in-Err-clause-cause_disk_fault
returns-in-Err-clause-cause_disk_fault g c = cause_step (Option At) _ _ c.in-Err.why c.in-Err.ensures.cause_disk_fault

pub returns-in-Ok-Clean-clause-rounds : goal.returns-in-Ok-Clean-clause-rounds
returns-in-Ok-Clean-clause-rounds g c =
    let b = c.laws.ensures in
    let l : Grounds = record { reached = b.reached; needs = b.needs; versions = b.versions; kept = b.kept; prefixes = b.prefixes; seals = b.seals } in
    let lawful = (g.met.D.Disk g.world.𝓛 g.world.𝓜 g.world.𝓡 ((λ s x. x), (λ x. x), (λ x. x), (λ x. x))).lawful in
    let story = g.D.Disk.story in
    let m = c.args.machine.now in
    let n = c.step_hot.new.machine in
    let d = c.in-Ok-Clean.ensures in
    rounds_up story c.args.key c.args.at most_a_step most_a_tidy_round m n (omega arith) (Ok None)
    (clean_round l story lawful c.args.key c.args.at m n c.requires.ready d.aside d.session c.requires.may c.requires.small c.requires.warm c.requires.live (stepped_as story c.args.key c.args.at m n c.in-Ok-Clean.field-0 tidied.Clean c.in-Ok-Clean.field-0-is d.steps))

pub returns-in-Ok-Clean-clause-session : goal.returns-in-Ok-Clean-clause-session
returns-in-Ok-Clean-clause-session g c = let d = c.in-Ok-Clean.ensures.session in (d.1, d.2)

pub returns-in-Ok-Clean-clause-turn : goal.returns-in-Ok-Clean-clause-turn
returns-in-Ok-Clean-clause-turn g c works = c.in-Ok-Clean.ensures.session.0

pub returns-in-Ok-Clean-clause-cause_disk_fault : goal.returns-in-Ok-Clean-clause-cause_disk_fault
returns-in-Ok-Clean-clause-cause_disk_fault g c = ok_step (Option At) _ _ _ _ c.in-Ok-Clean.ensures.cause_disk_fault

pub returns-in-Ok-Changed-clause-rounds : goal.returns-in-Ok-Changed-clause-rounds
returns-in-Ok-Changed-clause-rounds g c =
    let b = c.laws.ensures in
    let l : Grounds = record { reached = b.reached; needs = b.needs; versions = b.versions; kept = b.kept; prefixes = b.prefixes; seals = b.seals } in
    let lawful = (g.met.D.Disk g.world.𝓛 g.world.𝓜 g.world.𝓡 ((λ s x. x), (λ x. x), (λ x. x), (λ x. x))).lawful in
    let story = g.D.Disk.story in
    let m = c.args.machine.now in
    let n = c.step_hot.new.machine in
    let d = c.in-Ok-Changed.ensures in
    let t = stepped_as story c.args.key c.args.at m n c.in-Ok-Changed.field-0 (tidied.Changed c.in-Ok-Changed.next) c.in-Ok-Changed.field-0-is d.steps in
    rounds_up story c.args.key c.args.at most_a_step most_a_tidy_round m n (omega arith) (Ok (Some c.in-Ok-Changed.next))
    (changed_round l story lawful c.args.key c.args.at m n c.requires.ready d.aside d.session c.in-Ok-Changed.next c.requires.may c.requires.warm (live_tidied story c.args.key c.requires.key c.args.at c.in-Ok-Changed.next m n c.requires.ready t.0 c.requires.live) t)

pub returns-in-Ok-Changed-clause-session : goal.returns-in-Ok-Changed-clause-session
returns-in-Ok-Changed-clause-session g c = let d = c.in-Ok-Changed.ensures.session in (d.1, d.2)

pub returns-in-Ok-Changed-clause-turn : goal.returns-in-Ok-Changed-clause-turn
returns-in-Ok-Changed-clause-turn g c works = c.in-Ok-Changed.ensures.session.0

pub returns-in-Ok-Changed-clause-cause_disk_fault : goal.returns-in-Ok-Changed-clause-cause_disk_fault
returns-in-Ok-Changed-clause-cause_disk_fault g c = ok_step (Option At) _ _ _ _ c.in-Ok-Changed.ensures.cause_disk_fault

-- ## A neighbour is needed

pub round_beside-requires-clause-may : goal.round_beside-requires-clause-may
round_beside-requires-clause-may g c κs within =
    let b = c.laws.ensures in
    let l : Grounds = record { reached = b.reached; needs = b.needs; versions = b.versions; kept = b.kept; prefixes = b.prefixes; seals = b.seals } in
    let lawful = (g.met.D.Disk g.world.𝓛 g.world.𝓜 g.world.𝓡 ((λ s x. x), (λ x. x), (λ x. x), (λ x. x))).lawful in
    let story = g.D.Disk.story in
    let m = c.args.machine.now in
    let n = c.step_hot.new.machine in
    let d = c.in-Ok-Needs.ensures in
    (wished_round l story lawful c.args.key c.args.at m n c.requires.ready d.aside d.session c.in-Ok-Needs.page c.in-Ok-Needs.level c.requires.may c.requires.small c.requires.warm c.requires.live (stepped_as story c.args.key c.args.at m n c.in-Ok-Needs.field-0 (tidied.Needs c.in-Ok-Needs.page c.in-Ok-Needs.level) c.in-Ok-Needs.field-0-is d.steps)).goes.may

pub round_beside-requires-clause-warm : goal.round_beside-requires-clause-warm
round_beside-requires-clause-warm g c κs within =
    let b = c.laws.ensures in
    let l : Grounds = record { reached = b.reached; needs = b.needs; versions = b.versions; kept = b.kept; prefixes = b.prefixes; seals = b.seals } in
    let lawful = (g.met.D.Disk g.world.𝓛 g.world.𝓜 g.world.𝓡 ((λ s x. x), (λ x. x), (λ x. x), (λ x. x))).lawful in
    let story = g.D.Disk.story in
    let m = c.args.machine.now in
    let n = c.step_hot.new.machine in
    let d = c.in-Ok-Needs.ensures in
    (wished_round l story lawful c.args.key c.args.at m n c.requires.ready d.aside d.session c.in-Ok-Needs.page c.in-Ok-Needs.level c.requires.may c.requires.small c.requires.warm c.requires.live (stepped_as story c.args.key c.args.at m n c.in-Ok-Needs.field-0 (tidied.Needs c.in-Ok-Needs.page c.in-Ok-Needs.level) c.in-Ok-Needs.field-0-is d.steps)).goes.warm

pub round_beside-requires-clause-live : goal.round_beside-requires-clause-live
round_beside-requires-clause-live g c κs within =
    let b = c.laws.ensures in
    let l : Grounds = record { reached = b.reached; needs = b.needs; versions = b.versions; kept = b.kept; prefixes = b.prefixes; seals = b.seals } in
    let lawful = (g.met.D.Disk g.world.𝓛 g.world.𝓜 g.world.𝓡 ((λ s x. x), (λ x. x), (λ x. x), (λ x. x))).lawful in
    let story = g.D.Disk.story in
    let m = c.args.machine.now in
    let n = c.step_hot.new.machine in
    let d = c.in-Ok-Needs.ensures in
    (wished_round l story lawful c.args.key c.args.at m n c.requires.ready d.aside d.session c.in-Ok-Needs.page c.in-Ok-Needs.level c.requires.may c.requires.small c.requires.warm c.requires.live (stepped_as story c.args.key c.args.at m n c.in-Ok-Needs.field-0 (tidied.Needs c.in-Ok-Needs.page c.in-Ok-Needs.level) c.in-Ok-Needs.field-0-is d.steps)).goes.live

pub round_beside-requires-clause-passed : goal.round_beside-requires-clause-passed
round_beside-requires-clause-passed g c κs within =
    let b = c.laws.ensures in
    let l : Grounds = record { reached = b.reached; needs = b.needs; versions = b.versions; kept = b.kept; prefixes = b.prefixes; seals = b.seals } in
    let lawful = (g.met.D.Disk g.world.𝓛 g.world.𝓜 g.world.𝓡 ((λ s x. x), (λ x. x), (λ x. x), (λ x. x))).lawful in
    let story = g.D.Disk.story in
    let m = c.args.machine.now in
    let n = c.step_hot.new.machine in
    let d = c.in-Ok-Needs.ensures in
    (wished_round l story lawful c.args.key c.args.at m n c.requires.ready d.aside d.session c.in-Ok-Needs.page c.in-Ok-Needs.level c.requires.may c.requires.small c.requires.warm c.requires.live (stepped_as story c.args.key c.args.at m n c.in-Ok-Needs.field-0 (tidied.Needs c.in-Ok-Needs.page c.in-Ok-Needs.level) c.in-Ok-Needs.field-0-is d.steps)).passed

pub round_beside-requires-clause-wants : goal.round_beside-requires-clause-wants
round_beside-requires-clause-wants g c κs within =
    let b = c.laws.ensures in
    let l : Grounds = record { reached = b.reached; needs = b.needs; versions = b.versions; kept = b.kept; prefixes = b.prefixes; seals = b.seals } in
    let lawful = (g.met.D.Disk g.world.𝓛 g.world.𝓜 g.world.𝓡 ((λ s x. x), (λ x. x), (λ x. x), (λ x. x))).lawful in
    let story = g.D.Disk.story in
    let m = c.args.machine.now in
    let n = c.step_hot.new.machine in
    let d = c.in-Ok-Needs.ensures in
    (wished_round l story lawful c.args.key c.args.at m n c.requires.ready d.aside d.session c.in-Ok-Needs.page c.in-Ok-Needs.level c.requires.may c.requires.small c.requires.warm c.requires.live (stepped_as story c.args.key c.args.at m n c.in-Ok-Needs.field-0 (tidied.Needs c.in-Ok-Needs.page c.in-Ok-Needs.level) c.in-Ok-Needs.field-0-is d.steps)).wants

pub returns-in-Ok-Needs-clause-rounds : goal.returns-in-Ok-Needs-clause-rounds
returns-in-Ok-Needs-clause-rounds g c =
    let b = c.laws.ensures in
    let l : Grounds = record { reached = b.reached; needs = b.needs; versions = b.versions; kept = b.kept; prefixes = b.prefixes; seals = b.seals } in
    let lawful = (g.met.D.Disk g.world.𝓛 g.world.𝓜 g.world.𝓡 ((λ s x. x), (λ x. x), (λ x. x), (λ x. x))).lawful in
    let story = g.D.Disk.story in
    let m = c.args.machine.now in
    let u = c.step_hot.new.machine in
    let n = c.round_beside.new.machine in
    let d = c.in-Ok-Needs.ensures in
    let w = wished_round l story lawful c.args.key c.args.at m u c.requires.ready d.aside d.session c.in-Ok-Needs.page c.in-Ok-Needs.level c.requires.may c.requires.small c.requires.warm c.requires.live (stepped_as story c.args.key c.args.at m u c.in-Ok-Needs.field-0 (tidied.Needs c.in-Ok-Needs.page c.in-Ok-Needs.level) c.in-Ok-Needs.field-0-is d.steps) in
    rounds_up story c.args.key c.args.at (most_a_step + 9 * most_a_neighbour) most_a_tidy_round m n (omega arith) c.round_beside.result
    (rounds_then l story lawful c.args.key c.args.at most_a_step (9 * most_a_neighbour) m u n w.made w.made.part.given c.round_beside.result c.round_beside.ensures.rounds)

pub returns-in-Ok-Needs-clause-session : goal.returns-in-Ok-Needs-clause-session
returns-in-Ok-Needs-clause-session g c = let d = c.in-Ok-Needs.ensures.session in let b = c.round_beside.ensures.session in (b.0 ∙ d.1, b.1 ∙ d.2)

pub returns-in-Ok-Needs-clause-turn : goal.returns-in-Ok-Needs-clause-turn
returns-in-Ok-Needs-clause-turn g c works = c.round_beside.ensures.turn works ∙ c.in-Ok-Needs.ensures.session.0

pub returns-in-Ok-Needs-clause-cause_disk_fault : goal.returns-in-Ok-Needs-clause-cause_disk_fault
returns-in-Ok-Needs-clause-cause_disk_fault g c = cause_at _ _ _ _ _ (sym (c.in-Ok-Needs.ensures.cause_disk_fault.calm (never_fault _))) refl c.round_beside.ensures.cause_disk_fault
