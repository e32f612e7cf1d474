use Rattle.std.proofs.Common.{◌∙◌, ◌+◌, ◌*◌, inl, Option, Ok, Err, Some, None, ap, refl, sym, subst, arith}
use Rattle.row_room.specs.row_changes.Ways.{IsLost}
use Rattle.row_walks.specs.declared.steps.At.{At}
use Rattle.row_walks.specs.declared.steps.At.TheVariants as begun
use Rattle.row_walks.specs.declared.steps.Tidied.{Tidied}
use Rattle.row_walks.specs.declared.steps.Tidied.TheVariants as tidied
use Rattle.paged_desks.specs.session_state.declared.work.Work.{Work}
use Rattle.paged_desks.proofs.EndingLemmas.{Grounds}
use Rattle.paged_calls.specs.Tidyings.{most_a_neighbour, most_a_step, most_a_tidy_round}
use Rattle.paged_calls.proofs.ChangeWarms.{cause_try}
use Rattle.paged_calls.proofs.TidyCalls.{never_fault, ok_step, passed_first}
use Rattle.paged_calls.proofs.TidyLive.{live_tidied}
use Rattle.paged_calls.proofs.TidyStands.{tidied_missed}
use Rattle.paged_calls.proofs.TidyWarms.{changed_round, clean_round, cold_missed, cold_step, may_missed, none_lost, refused_round, refused_step, refused_works, rounds_then, rounds_up, stepped_as, wished_round}
use Rattle.paged_calls.proofs.WarmLemmas.{cause_at}
use Rattle.paged_calls.proofs.tidying.first_round.Goals as goal

pub step-requires-clause-passed : goal.step-requires-clause-passed
step-requires-clause-passed g c κs within = passed_first c.args.key begun.Before c.args.machine.now c.requires.may 0 refl

pub returns-in-Ok-Clean-clause-rounds : goal.returns-in-Ok-Clean-clause-rounds
returns-in-Ok-Clean-clause-rounds g c =
    let b = c.laws.ensures in
    let l : Grounds = record { reached = b.reached; needs = b.needs; versions = b.versions; kept = b.kept; prefixes = b.prefixes; seals = b.seals } in
    let lawful = (g.met.D.Disk g.world.𝓛 g.world.𝓜 g.world.𝓡 ((λ s x. x), (λ x. x), (λ x. x), (λ x. x))).lawful in
    let story = g.D.Disk.story in
    let m = c.args.machine.now in
    let n = c.step.new.machine in
    let d = c.in-Ok-Clean.ensures in
    rounds_up story c.args.key begun.Before most_a_step (2 * most_a_tidy_round) m n (omega arith) (Ok None)
    (clean_round l story lawful c.args.key begun.Before m n c.requires.ready d.aside d.session c.requires.may c.requires.small (d.warm (λ cut. cut)) (inl refl) (stepped_as story c.args.key begun.Before m n c.in-Ok-Clean.field-0 tidied.Clean c.in-Ok-Clean.field-0-is d.steps))

pub returns-in-Ok-Clean-clause-session : goal.returns-in-Ok-Clean-clause-session
returns-in-Ok-Clean-clause-session g c = let d = c.in-Ok-Clean.ensures.session in (d.1, d.2)

pub returns-in-Ok-Clean-clause-turn : goal.returns-in-Ok-Clean-clause-turn
returns-in-Ok-Clean-clause-turn g c works = c.in-Ok-Clean.ensures.session.0

pub returns-in-Ok-Clean-clause-cause_disk_fault : goal.returns-in-Ok-Clean-clause-cause_disk_fault
returns-in-Ok-Clean-clause-cause_disk_fault g c = ok_step (Option At) _ _ _ _ c.in-Ok-Clean.ensures.cause_disk_fault

pub returns-in-Ok-Changed-clause-rounds : goal.returns-in-Ok-Changed-clause-rounds
returns-in-Ok-Changed-clause-rounds g c =
    let b = c.laws.ensures in
    let l : Grounds = record { reached = b.reached; needs = b.needs; versions = b.versions; kept = b.kept; prefixes = b.prefixes; seals = b.seals } in
    let lawful = (g.met.D.Disk g.world.𝓛 g.world.𝓜 g.world.𝓡 ((λ s x. x), (λ x. x), (λ x. x), (λ x. x))).lawful in
    let story = g.D.Disk.story in
    let m = c.args.machine.now in
    let n = c.step.new.machine in
    let d = c.in-Ok-Changed.ensures in
    let t = stepped_as story c.args.key begun.Before m n c.in-Ok-Changed.field-0 (tidied.Changed c.in-Ok-Changed.next) c.in-Ok-Changed.field-0-is d.steps in
    rounds_up story c.args.key begun.Before most_a_step (2 * most_a_tidy_round) m n (omega arith) (Ok (Some c.in-Ok-Changed.next))
    (changed_round l story lawful c.args.key begun.Before m n c.requires.ready d.aside d.session c.in-Ok-Changed.next c.requires.may (d.warm (λ cut. cut)) (live_tidied story c.args.key c.requires.key begun.Before c.in-Ok-Changed.next m n c.requires.ready t.0 (inl refl)) t)

pub returns-in-Ok-Changed-clause-session : goal.returns-in-Ok-Changed-clause-session
returns-in-Ok-Changed-clause-session g c = let d = c.in-Ok-Changed.ensures.session in (d.1, d.2)

pub returns-in-Ok-Changed-clause-turn : goal.returns-in-Ok-Changed-clause-turn
returns-in-Ok-Changed-clause-turn g c works = c.in-Ok-Changed.ensures.session.0

pub returns-in-Ok-Changed-clause-cause_disk_fault : goal.returns-in-Ok-Changed-clause-cause_disk_fault
returns-in-Ok-Changed-clause-cause_disk_fault g c = ok_step (Option At) _ _ _ _ c.in-Ok-Changed.ensures.cause_disk_fault

-- ## A neighbour is needed

pub round_beside-requires-clause-may : goal.round_beside-requires-clause-may
round_beside-requires-clause-may g c κs within =
    let b = c.laws.ensures in
    let l : Grounds = record { reached = b.reached; needs = b.needs; versions = b.versions; kept = b.kept; prefixes = b.prefixes; seals = b.seals } in
    let lawful = (g.met.D.Disk g.world.𝓛 g.world.𝓜 g.world.𝓡 ((λ s x. x), (λ x. x), (λ x. x), (λ x. x))).lawful in
    let story = g.D.Disk.story in
    let m = c.args.machine.now in
    let n = c.step.new.machine in
    let d = c.in-Ok-Needs.ensures in
    (wished_round l story lawful c.args.key begun.Before m n c.requires.ready d.aside d.session c.in-Ok-Needs.page c.in-Ok-Needs.level c.requires.may c.requires.small (d.warm (λ cut. cut)) (inl refl) (stepped_as story c.args.key begun.Before m n c.in-Ok-Needs.field-0 (tidied.Needs c.in-Ok-Needs.page c.in-Ok-Needs.level) c.in-Ok-Needs.field-0-is d.steps)).goes.may

pub round_beside-requires-clause-warm : goal.round_beside-requires-clause-warm
round_beside-requires-clause-warm g c κs within =
    let b = c.laws.ensures in
    let l : Grounds = record { reached = b.reached; needs = b.needs; versions = b.versions; kept = b.kept; prefixes = b.prefixes; seals = b.seals } in
    let lawful = (g.met.D.Disk g.world.𝓛 g.world.𝓜 g.world.𝓡 ((λ s x. x), (λ x. x), (λ x. x), (λ x. x))).lawful in
    let story = g.D.Disk.story in
    let m = c.args.machine.now in
    let n = c.step.new.machine in
    let d = c.in-Ok-Needs.ensures in
    (wished_round l story lawful c.args.key begun.Before m n c.requires.ready d.aside d.session c.in-Ok-Needs.page c.in-Ok-Needs.level c.requires.may c.requires.small (d.warm (λ cut. cut)) (inl refl) (stepped_as story c.args.key begun.Before m n c.in-Ok-Needs.field-0 (tidied.Needs c.in-Ok-Needs.page c.in-Ok-Needs.level) c.in-Ok-Needs.field-0-is d.steps)).goes.warm

pub round_beside-requires-clause-live : goal.round_beside-requires-clause-live
round_beside-requires-clause-live g c κs within =
    let b = c.laws.ensures in
    let l : Grounds = record { reached = b.reached; needs = b.needs; versions = b.versions; kept = b.kept; prefixes = b.prefixes; seals = b.seals } in
    let lawful = (g.met.D.Disk g.world.𝓛 g.world.𝓜 g.world.𝓡 ((λ s x. x), (λ x. x), (λ x. x), (λ x. x))).lawful in
    let story = g.D.Disk.story in
    let m = c.args.machine.now in
    let n = c.step.new.machine in
    let d = c.in-Ok-Needs.ensures in
    (wished_round l story lawful c.args.key begun.Before m n c.requires.ready d.aside d.session c.in-Ok-Needs.page c.in-Ok-Needs.level c.requires.may c.requires.small (d.warm (λ cut. cut)) (inl refl) (stepped_as story c.args.key begun.Before m n c.in-Ok-Needs.field-0 (tidied.Needs c.in-Ok-Needs.page c.in-Ok-Needs.level) c.in-Ok-Needs.field-0-is d.steps)).goes.live

pub round_beside-requires-clause-passed : goal.round_beside-requires-clause-passed
round_beside-requires-clause-passed g c κs within =
    let b = c.laws.ensures in
    let l : Grounds = record { reached = b.reached; needs = b.needs; versions = b.versions; kept = b.kept; prefixes = b.prefixes; seals = b.seals } in
    let lawful = (g.met.D.Disk g.world.𝓛 g.world.𝓜 g.world.𝓡 ((λ s x. x), (λ x. x), (λ x. x), (λ x. x))).lawful in
    let story = g.D.Disk.story in
    let m = c.args.machine.now in
    let n = c.step.new.machine in
    let d = c.in-Ok-Needs.ensures in
    (wished_round l story lawful c.args.key begun.Before m n c.requires.ready d.aside d.session c.in-Ok-Needs.page c.in-Ok-Needs.level c.requires.may c.requires.small (d.warm (λ cut. cut)) (inl refl) (stepped_as story c.args.key begun.Before m n c.in-Ok-Needs.field-0 (tidied.Needs c.in-Ok-Needs.page c.in-Ok-Needs.level) c.in-Ok-Needs.field-0-is d.steps)).passed

pub round_beside-requires-clause-wants : goal.round_beside-requires-clause-wants
round_beside-requires-clause-wants g c κs within =
    let b = c.laws.ensures in
    let l : Grounds = record { reached = b.reached; needs = b.needs; versions = b.versions; kept = b.kept; prefixes = b.prefixes; seals = b.seals } in
    let lawful = (g.met.D.Disk g.world.𝓛 g.world.𝓜 g.world.𝓡 ((λ s x. x), (λ x. x), (λ x. x), (λ x. x))).lawful in
    let story = g.D.Disk.story in
    let m = c.args.machine.now in
    let n = c.step.new.machine in
    let d = c.in-Ok-Needs.ensures in
    (wished_round l story lawful c.args.key begun.Before m n c.requires.ready d.aside d.session c.in-Ok-Needs.page c.in-Ok-Needs.level c.requires.may c.requires.small (d.warm (λ cut. cut)) (inl refl) (stepped_as story c.args.key begun.Before m n c.in-Ok-Needs.field-0 (tidied.Needs c.in-Ok-Needs.page c.in-Ok-Needs.level) c.in-Ok-Needs.field-0-is d.steps)).wants

pub returns-in-Ok-Needs-clause-rounds : goal.returns-in-Ok-Needs-clause-rounds
returns-in-Ok-Needs-clause-rounds g c =
    let b = c.laws.ensures in
    let l : Grounds = record { reached = b.reached; needs = b.needs; versions = b.versions; kept = b.kept; prefixes = b.prefixes; seals = b.seals } in
    let lawful = (g.met.D.Disk g.world.𝓛 g.world.𝓜 g.world.𝓡 ((λ s x. x), (λ x. x), (λ x. x), (λ x. x))).lawful in
    let story = g.D.Disk.story in
    let m = c.args.machine.now in
    let u = c.step.new.machine in
    let n = c.round_beside.new.machine in
    let d = c.in-Ok-Needs.ensures in
    let w = wished_round l story lawful c.args.key begun.Before m u c.requires.ready d.aside d.session c.in-Ok-Needs.page c.in-Ok-Needs.level c.requires.may c.requires.small (d.warm (λ cut. cut)) (inl refl) (stepped_as story c.args.key begun.Before m u c.in-Ok-Needs.field-0 (tidied.Needs c.in-Ok-Needs.page c.in-Ok-Needs.level) c.in-Ok-Needs.field-0-is d.steps) in
    rounds_up story c.args.key begun.Before (most_a_step + 9 * most_a_neighbour) (2 * most_a_tidy_round) m n (omega arith) c.round_beside.result
    (rounds_then l story lawful c.args.key begun.Before most_a_step (9 * most_a_neighbour) m u n w.made w.made.part.given c.round_beside.result c.round_beside.ensures.rounds)

pub returns-in-Ok-Needs-clause-session : goal.returns-in-Ok-Needs-clause-session
returns-in-Ok-Needs-clause-session g c = let d = c.in-Ok-Needs.ensures.session in let b = c.round_beside.ensures.session in (b.0 ∙ d.1, b.1 ∙ d.2)

pub returns-in-Ok-Needs-clause-turn : goal.returns-in-Ok-Needs-clause-turn
returns-in-Ok-Needs-clause-turn g c works = c.round_beside.ensures.turn works ∙ c.in-Ok-Needs.ensures.session.0

pub returns-in-Ok-Needs-clause-cause_disk_fault : goal.returns-in-Ok-Needs-clause-cause_disk_fault
returns-in-Ok-Needs-clause-cause_disk_fault g c = cause_at _ _ _ _ _ (sym (c.in-Ok-Needs.ensures.cause_disk_fault.calm (never_fault _))) refl c.round_beside.ensures.cause_disk_fault

-- ## A page of the way is not hot

pub round_warm-requires-clause-may : goal.round_warm-requires-clause-may
round_warm-requires-clause-may g c κs within =
    let m = c.args.machine.now in
    let n = c.step.new.machine in
    let t = cold_step g.D.Disk.story c.args.key begun.Before m n c.in-Err-Cold.field-0 _ c.in-Err-Cold.field-0-is c.in-Err-Cold.ensures.steps in
    may_missed c.args.key begun.Before m n (cold_missed c.args.key _ m n t.0 61) t.1 c.requires.may

pub returns-in-Err-Cold-clause-rounds : goal.returns-in-Err-Cold-clause-rounds
returns-in-Err-Cold-clause-rounds g c =
    let b = c.laws.ensures in
    let l : Grounds = record { reached = b.reached; needs = b.needs; versions = b.versions; kept = b.kept; prefixes = b.prefixes; seals = b.seals } in
    let lawful = (g.met.D.Disk g.world.𝓛 g.world.𝓜 g.world.𝓡 ((λ s x. x), (λ x. x), (λ x. x), (λ x. x))).lawful in
    let story = g.D.Disk.story in
    let m = c.args.machine.now in
    let u = c.step.new.machine in
    let n = c.round_warm.new.machine in
    let d = c.in-Err-Cold.ensures in
    let t = cold_step story c.args.key begun.Before m u c.in-Err-Cold.field-0 _ c.in-Err-Cold.field-0-is d.steps in
    rounds_then l story lawful c.args.key begun.Before 0 (2 * most_a_tidy_round) m u n (tidied_missed l story lawful c.args.key begun.Before 0 m u d.aside (cold_missed c.args.key _ m u t.0 0) t.1) t.0.given c.round_warm.result c.round_warm.ensures.rounds

pub returns-in-Err-Cold-clause-session : goal.returns-in-Err-Cold-clause-session
returns-in-Err-Cold-clause-session g c = let d = c.in-Err-Cold.ensures.session in let b = c.round_warm.ensures.session in (b.0 ∙ d.1, b.1 ∙ d.2)

pub returns-in-Err-Cold-clause-turn : goal.returns-in-Err-Cold-clause-turn
returns-in-Err-Cold-clause-turn g c works = c.round_warm.ensures.turn works ∙ c.in-Err-Cold.ensures.session.0

pub returns-in-Err-Cold-clause-cause_disk_fault : goal.returns-in-Err-Cold-clause-cause_disk_fault
returns-in-Err-Cold-clause-cause_disk_fault g c =
    let m = c.args.machine.now in
    let u = c.step.new.machine in
    let t = cold_step g.D.Disk.story c.args.key begun.Before m u c.in-Err-Cold.field-0 _ c.in-Err-Cold.field-0-is c.in-Err-Cold.ensures.steps in
    cause_at _ _ _ _ _ (sym (ap (λ (k : Work g.row.D.Denot). g.D.Disk.faults k.disk) t.1)) refl c.round_warm.ensures.cause_disk_fault

-- ## It was refused

pub returns-in-Err-Unserved-clause-rounds : goal.returns-in-Err-Unserved-clause-rounds
returns-in-Err-Unserved-clause-rounds g c =
    let b = c.laws.ensures in
    let l : Grounds = record { reached = b.reached; needs = b.needs; versions = b.versions; kept = b.kept; prefixes = b.prefixes; seals = b.seals } in
    let lawful = (g.met.D.Disk g.world.𝓛 g.world.𝓜 g.world.𝓡 ((λ s x. x), (λ x. x), (λ x. x), (λ x. x))).lawful in
    let story = g.D.Disk.story in
    let m = c.args.machine.now in
    let n = c.step.new.machine in
    let d = c.in-Err-Unserved.ensures in
    rounds_up story c.args.key begun.Before most_a_step (2 * most_a_tidy_round) m n (omega arith) (Err c.in-Err-Unserved.why)
    (refused_round l story lawful c.args.key begun.Before m n c.requires.ready d.aside d.session c.in-Err-Unserved.why c.requires.may (refused_step story c.args.key begun.Before m n c.in-Err-Unserved.field-0 c.in-Err-Unserved.why c.in-Err-Unserved.field-0-is d.steps))

pub returns-in-Err-Unserved-clause-works : goal.returns-in-Err-Unserved-clause-works
returns-in-Err-Unserved-clause-works g c = let d = c.in-Err-Unserved.ensures in d.works ∙ refused_works g.D.Disk.story c.args.key begun.Before c.args.machine.now c.step.new.machine (Option At) c.in-Err-Unserved.field-0 c.in-Err-Unserved.why c.in-Err-Unserved.field-0-is d.steps

pub returns-in-Err-Unserved-clause-ready : goal.returns-in-Err-Unserved-clause-ready
returns-in-Err-Unserved-clause-ready g c works = let d = c.in-Err-Unserved.ensures in d.ready (refused_works g.D.Disk.story c.args.key begun.Before c.args.machine.now c.step.new.machine (Option At) c.in-Err-Unserved.field-0 c.in-Err-Unserved.why c.in-Err-Unserved.field-0-is d.steps ∙ works)

pub returns-in-Err-Unserved-clause-session : goal.returns-in-Err-Unserved-clause-session
returns-in-Err-Unserved-clause-session g c = let d = c.in-Err-Unserved.ensures.session in (d.1, d.2)

pub returns-in-Err-Unserved-clause-turn : goal.returns-in-Err-Unserved-clause-turn
returns-in-Err-Unserved-clause-turn g c works = c.in-Err-Unserved.ensures.session.0

pub returns-in-Err-Unserved-clause-cause_disk_fault : goal.returns-in-Err-Unserved-clause-cause_disk_fault
returns-in-Err-Unserved-clause-cause_disk_fault g c = cause_try Tidied (Option At) _ _ c.in-Err-Unserved.field-0 c.in-Err-Unserved.why c.in-Err-Unserved.field-0-is c.in-Err-Unserved.ensures.cause_disk_fault

pub unreachable-requires : goal.unreachable-requires
unreachable-requires g c = none_lost g.D.Disk.story c.args.key begun.Before c.args.machine.now c.step.new.machine c.in-Err-Lost.field-0 c.in-Err-Lost.ensures.steps (subst IsLost (sym c.in-Err-Lost.field-0-is) tt)
