use Rattle.std.proofs.Common.{◌∙◌, ◌+◌, ◌*◌, Option, Ok, Err, Some, None, ap, refl, sym, arith}
use Rattle.row_walks.specs.declared.steps.At.{At}
use Rattle.row_walks.specs.declared.steps.Tidied.TheVariants as tidied
use Rattle.paged_desks.proofs.EndingLemmas.{Grounds}
use Rattle.paged_calls.specs.Tidyings.{most_a_coming, most_a_neighbour, most_a_step}
use Rattle.paged_calls.proofs.ChangeWarms.{still_self}
use Rattle.paged_calls.proofs.PutCalls.{cause_kind, ok_round}
use Rattle.paged_calls.proofs.TidyCalls.{cause_step, never_fault, ok_step}
use Rattle.paged_calls.proofs.TidyLive.{live_tidied}
use Rattle.paged_calls.proofs.TidyStands.{tidied_none, tidied_then}
use Rattle.paged_calls.proofs.TidyWarms.{changed_round, clean_round, climbs_up, refused_round, rounds_then, rounds_up, step_works, stepped_as, wished_round}
use Rattle.paged_calls.proofs.WarmLemmas.{cause_at}
use Rattle.paged_calls.proofs.tidying.round_beside.Goals as goal

pub climb-init : goal.climb-init
climb-init g c =
    let b = c.laws.ensures in
    let l : Grounds = record { reached = b.reached; needs = b.needs; versions = b.versions; kept = b.kept; prefixes = b.prefixes; seals = b.seals } in
    let lawful = (g.met.D.Disk g.world.𝓛 g.world.𝓜 g.world.𝓡 ((λ s x. x), (λ x. x), (λ x. x), (λ x. x))).lawful in
    let story = g.D.Disk.story in
    let m = c.args.machine.now in
    record {
      ready = c.requires.ready;
      may = c.requires.may;
      warm = c.requires.warm;
      live = c.requires.live;
      passed = c.requires.passed;
      wants = c.requires.wants;
      most = 0;
      made = tidied_none l story lawful c.args.key c.args.at m m (still_self story m);
      given = refl;
      few = omega arith;
      faults = refl;
    }

-- ## The neighbour does not come

pub returns-in-Err-clause-rounds : goal.returns-in-Err-clause-rounds
returns-in-Err-clause-rounds g c =
    let b = c.laws.ensures in
    let l : Grounds = record { reached = b.reached; needs = b.needs; versions = b.versions; kept = b.kept; prefixes = b.prefixes; seals = b.seals } in
    let lawful = (g.met.D.Disk g.world.𝓛 g.world.𝓜 g.world.𝓡 ((λ s x. x), (λ x. x), (λ x. x), (λ x. x))).lawful in
    let story = g.D.Disk.story in
    let i = c.climb.invariant in
    let u = c.bring_neighbour.new.machine in
    rounds_up story c.args.key c.args.at (i.most + most_a_coming) (9 * most_a_neighbour) c.args.machine.now u (let f = i.few in omega arith) (Err c.in-Err.why)
    (rounds_then l story lawful c.args.key c.args.at i.most most_a_coming c.args.machine.now c.climb.machine u i.made i.given (Err c.in-Err.why) c.in-Err.ensures.brings)

pub returns-in-Err-clause-session : goal.returns-in-Err-clause-session
returns-in-Err-clause-session g c = let d = c.climb.invariant.made.same in let b = c.in-Err.ensures.session in (b.0 ∙ d.0, b.1 ∙ d.1)

pub returns-in-Err-clause-turn : goal.returns-in-Err-clause-turn
returns-in-Err-clause-turn g c works = c.in-Err.ensures.turn works ∙ c.climb.invariant.made.turn

pub returns-in-Err-clause-cause_disk_fault : goal.returns-in-Err-clause-cause_disk_fault
returns-in-Err-clause-cause_disk_fault g c = cause_at _ _ _ _ _ (sym c.climb.invariant.faults) refl (cause_kind (Unit {0}) (Option At) _ _ c.in-Err.why c.in-Err.ensures.cause_disk_fault)

-- ## A step

pub step_hot-requires-clause-ready : goal.step_hot-requires-clause-ready
step_hot-requires-clause-ready g c κs within = c.in_default.ensures.ready refl

pub step_hot-requires-clause-may : goal.step_hot-requires-clause-may
step_hot-requires-clause-may g c κs within = c.in_default.ensures.brings.1.0.may

pub step_hot-requires-clause-small : goal.step_hot-requires-clause-small
step_hot-requires-clause-small g c κs within = c.in_default.ensures.brings.1.0.small

pub step_hot-requires-clause-passed : goal.step_hot-requires-clause-passed
step_hot-requires-clause-passed g c κs within = c.in_default.ensures.brings.1.1.0

pub step_hot-requires-clause-warm : goal.step_hot-requires-clause-warm
step_hot-requires-clause-warm g c κs within = c.in_default.ensures.brings.1.0.warm

pub returns-in-Err-step_hot-clause-rounds : goal.returns-in-Err-step_hot-clause-rounds
returns-in-Err-step_hot-clause-rounds g c =
    let b = c.laws.ensures in
    let l : Grounds = record { reached = b.reached; needs = b.needs; versions = b.versions; kept = b.kept; prefixes = b.prefixes; seals = b.seals } in
    let lawful = (g.met.D.Disk g.world.𝓛 g.world.𝓜 g.world.𝓡 ((λ s x. x), (λ x. x), (λ x. x), (λ x. x))).lawful in
    let story = g.D.Disk.story in
    let i = c.climb.invariant in
    let m = c.args.machine.now in
    let h = c.climb.machine in
    let u = c.bring_neighbour.new.machine in
    let n = c.step_hot.new.machine in
    let w = c.in_default.ensures.brings in
    let d = c.in-Err-step_hot.ensures in
    rounds_up story c.args.key c.args.at (i.most + (most_a_coming + most_a_step)) (9 * most_a_neighbour) m n (let f = i.few in omega arith) (Err c.in-Err-step_hot.why)
    (rounds_then l story lawful c.args.key c.args.at i.most (most_a_coming + most_a_step) m h n i.made i.given (Err c.in-Err-step_hot.why)
    (rounds_then l story lawful c.args.key c.args.at most_a_coming most_a_step h u n w.0 w.0.part.given (Err c.in-Err-step_hot.why) (refused_round l story lawful c.args.key c.args.at u n (c.in_default.ensures.ready refl) d.aside d.session c.in-Err-step_hot.why w.1.0.may d.steps)))

pub returns-in-Err-step_hot-clause-session : goal.returns-in-Err-step_hot-clause-session
returns-in-Err-step_hot-clause-session g c = let d = c.climb.invariant.made.same in let w = c.in_default.ensures.session in let b = c.in-Err-step_hot.ensures.session in (b.1 ∙ (w.0 ∙ d.0), b.2 ∙ (w.1 ∙ d.1))

pub returns-in-Err-step_hot-clause-turn : goal.returns-in-Err-step_hot-clause-turn
returns-in-Err-step_hot-clause-turn g c works = c.in-Err-step_hot.ensures.session.0 ∙ (c.in_default.ensures.turn refl ∙ c.climb.invariant.made.turn)

pub returns-in-Err-step_hot-clause-cause_disk_fault : goal.returns-in-Err-step_hot-clause-cause_disk_fault
returns-in-Err-step_hot-clause-cause_disk_fault g c = cause_at _ _ _ _ _ (sym (c.in_default.ensures.cause_disk_fault.calm (ok_round _ _) ∙ c.climb.invariant.faults)) refl (cause_step (Option At) _ _ c.in-Err-step_hot.why c.in-Err-step_hot.ensures.cause_disk_fault)

pub returns-in-Ok-Clean-clause-rounds : goal.returns-in-Ok-Clean-clause-rounds
returns-in-Ok-Clean-clause-rounds g c =
    let b = c.laws.ensures in
    let l : Grounds = record { reached = b.reached; needs = b.needs; versions = b.versions; kept = b.kept; prefixes = b.prefixes; seals = b.seals } in
    let lawful = (g.met.D.Disk g.world.𝓛 g.world.𝓜 g.world.𝓡 ((λ s x. x), (λ x. x), (λ x. x), (λ x. x))).lawful in
    let story = g.D.Disk.story in
    let i = c.climb.invariant in
    let m = c.args.machine.now in
    let h = c.climb.machine in
    let u = c.bring_neighbour.new.machine in
    let n = c.step_hot.new.machine in
    let w = c.in_default.ensures.brings in
    let d = c.in-Ok-Clean.ensures in
    rounds_up story c.args.key c.args.at (i.most + (most_a_coming + most_a_step)) (9 * most_a_neighbour) m n (let f = i.few in omega arith) (Ok None)
    (rounds_then l story lawful c.args.key c.args.at i.most (most_a_coming + most_a_step) m h n i.made i.given (Ok None)
    (rounds_then l story lawful c.args.key c.args.at most_a_coming most_a_step h u n w.0 w.0.part.given (Ok None) (clean_round l story lawful c.args.key c.args.at u n (c.in_default.ensures.ready refl) d.aside d.session w.1.0.may w.1.0.small w.1.0.warm w.1.0.live (stepped_as story c.args.key c.args.at u n c.in-Ok-Clean.field-0 tidied.Clean c.in-Ok-Clean.field-0-is d.steps))))

pub returns-in-Ok-Clean-clause-session : goal.returns-in-Ok-Clean-clause-session
returns-in-Ok-Clean-clause-session g c = let d = c.climb.invariant.made.same in let w = c.in_default.ensures.session in let b = c.in-Ok-Clean.ensures.session in (b.1 ∙ (w.0 ∙ d.0), b.2 ∙ (w.1 ∙ d.1))

pub returns-in-Ok-Clean-clause-turn : goal.returns-in-Ok-Clean-clause-turn
returns-in-Ok-Clean-clause-turn g c works = c.in-Ok-Clean.ensures.session.0 ∙ (c.in_default.ensures.turn refl ∙ c.climb.invariant.made.turn)

pub returns-in-Ok-Clean-clause-cause_disk_fault : goal.returns-in-Ok-Clean-clause-cause_disk_fault
returns-in-Ok-Clean-clause-cause_disk_fault g c = cause_at _ _ _ _ _ (sym (c.in_default.ensures.cause_disk_fault.calm (ok_round _ _) ∙ c.climb.invariant.faults)) refl (ok_step (Option At) _ _ _ _ c.in-Ok-Clean.ensures.cause_disk_fault)

pub returns-in-Ok-Changed-clause-rounds : goal.returns-in-Ok-Changed-clause-rounds
returns-in-Ok-Changed-clause-rounds g c =
    let b = c.laws.ensures in
    let l : Grounds = record { reached = b.reached; needs = b.needs; versions = b.versions; kept = b.kept; prefixes = b.prefixes; seals = b.seals } in
    let lawful = (g.met.D.Disk g.world.𝓛 g.world.𝓜 g.world.𝓡 ((λ s x. x), (λ x. x), (λ x. x), (λ x. x))).lawful in
    let story = g.D.Disk.story in
    let i = c.climb.invariant in
    let m = c.args.machine.now in
    let h = c.climb.machine in
    let u = c.bring_neighbour.new.machine in
    let n = c.step_hot.new.machine in
    let w = c.in_default.ensures.brings in
    let d = c.in-Ok-Changed.ensures in
    rounds_up story c.args.key c.args.at (i.most + (most_a_coming + most_a_step)) (9 * most_a_neighbour) m n (let f = i.few in omega arith) (Ok (Some c.in-Ok-Changed.next))
    (rounds_then l story lawful c.args.key c.args.at i.most (most_a_coming + most_a_step) m h n i.made i.given (Ok (Some c.in-Ok-Changed.next))
    (rounds_then l story lawful c.args.key c.args.at most_a_coming most_a_step h u n w.0 w.0.part.given (Ok (Some c.in-Ok-Changed.next)) (let t = stepped_as story c.args.key c.args.at u n c.in-Ok-Changed.field-0 (tidied.Changed c.in-Ok-Changed.next) c.in-Ok-Changed.field-0-is d.steps in changed_round l story lawful c.args.key c.args.at u n (c.in_default.ensures.ready refl) d.aside d.session c.in-Ok-Changed.next w.1.0.may w.1.0.warm (live_tidied story c.args.key c.requires.key c.args.at c.in-Ok-Changed.next u n (c.in_default.ensures.ready refl) t.0 w.1.0.live) t)))

pub returns-in-Ok-Changed-clause-session : goal.returns-in-Ok-Changed-clause-session
returns-in-Ok-Changed-clause-session g c = let d = c.climb.invariant.made.same in let w = c.in_default.ensures.session in let b = c.in-Ok-Changed.ensures.session in (b.1 ∙ (w.0 ∙ d.0), b.2 ∙ (w.1 ∙ d.1))

pub returns-in-Ok-Changed-clause-turn : goal.returns-in-Ok-Changed-clause-turn
returns-in-Ok-Changed-clause-turn g c works = c.in-Ok-Changed.ensures.session.0 ∙ (c.in_default.ensures.turn refl ∙ c.climb.invariant.made.turn)

pub returns-in-Ok-Changed-clause-cause_disk_fault : goal.returns-in-Ok-Changed-clause-cause_disk_fault
returns-in-Ok-Changed-clause-cause_disk_fault g c = cause_at _ _ _ _ _ (sym (c.in_default.ensures.cause_disk_fault.calm (ok_round _ _) ∙ c.climb.invariant.faults)) refl (ok_step (Option At) _ _ _ _ c.in-Ok-Changed.ensures.cause_disk_fault)

pub returns-in-Err-step_hot-clause-works : goal.returns-in-Err-step_hot-clause-works
returns-in-Err-step_hot-clause-works g c = let d = c.in-Err-step_hot.ensures in d.works ∙ step_works g.D.Disk.story c.args.key c.args.at c.bring_neighbour.new.machine c.step_hot.new.machine (Option At) c.in-Err-step_hot.why d.steps

pub returns-in-Err-step_hot-clause-ready : goal.returns-in-Err-step_hot-clause-ready
returns-in-Err-step_hot-clause-ready g c works = let d = c.in-Err-step_hot.ensures in d.ready (step_works g.D.Disk.story c.args.key c.args.at c.bring_neighbour.new.machine c.step_hot.new.machine (Option At) c.in-Err-step_hot.why d.steps ∙ works)

-- ## A neighbour of a higher level

pub climb-preserved : goal.climb-preserved
climb-preserved g c =
    let b = c.laws.ensures in
    let l : Grounds = record { reached = b.reached; needs = b.needs; versions = b.versions; kept = b.kept; prefixes = b.prefixes; seals = b.seals } in
    let lawful = (g.met.D.Disk g.world.𝓛 g.world.𝓜 g.world.𝓡 ((λ s x. x), (λ x. x), (λ x. x), (λ x. x))).lawful in
    let story = g.D.Disk.story in
    let i = c.climb.invariant in
    let m = c.args.machine.now in
    let h = c.climb.machine in
    let u = c.bring_neighbour.new.machine in
    let n = c.step_hot.new.machine in
    let w = c.in_default.ensures.brings in
    let d = c.in-Ok-Needs.ensures in
    let q = wished_round l story lawful c.args.key c.args.at u n (c.in_default.ensures.ready refl) d.aside d.session c.in-Ok-Needs.page c.in-Ok-Needs.level w.1.0.may w.1.0.small w.1.0.warm w.1.0.live (stepped_as story c.args.key c.args.at u n c.in-Ok-Needs.field-0 (tidied.Needs c.in-Ok-Needs.page c.in-Ok-Needs.level) c.in-Ok-Needs.field-0-is d.steps) in
    record {
      ready = d.ready refl;
      may = q.goes.may;
      warm = q.goes.warm;
      live = q.goes.live;
      passed = q.passed;
      wants = q.wants;
      most = i.most + (most_a_coming + most_a_step);
      made = tidied_then l story lawful c.args.key c.args.at c.args.at c.args.at i.most (most_a_coming + most_a_step) m h n i.made (tidied_then l story lawful c.args.key c.args.at c.args.at c.args.at most_a_coming most_a_step h u n w.0 q.made);
      given = q.made.part.given ∙ (w.0.part.given ∙ i.given);
      few = let f = i.few in let up = climbs_up c.args.key u c.climb.height c.in-Ok-Needs.level c.in-Ok-Needs.page (d.higher c.in-Ok-Needs.page c.in-Ok-Needs.level (ap Ok c.in-Ok-Needs.field-0-is)) w.1.1.1 (stepped_as story c.args.key c.args.at u n c.in-Ok-Needs.field-0 (tidied.Needs c.in-Ok-Needs.page c.in-Ok-Needs.level) c.in-Ok-Needs.field-0-is d.steps).0.neighbour in let le = q.passed.within in omega arith;
      faults = d.cause_disk_fault.calm (never_fault _) ∙ (c.in_default.ensures.cause_disk_fault.calm (ok_round _ _) ∙ i.faults);
    }

pub climb-smaller : goal.climb-smaller
climb-smaller g c =
    let story = g.D.Disk.story in
    let u = c.bring_neighbour.new.machine in
    let n = c.step_hot.new.machine in
    let w = c.in_default.ensures.brings in
    let d = c.in-Ok-Needs.ensures in
    let t = stepped_as story c.args.key c.args.at u n c.in-Ok-Needs.field-0 (tidied.Needs c.in-Ok-Needs.page c.in-Ok-Needs.level) c.in-Ok-Needs.field-0-is d.steps in
    let up = climbs_up c.args.key u c.climb.height c.in-Ok-Needs.level c.in-Ok-Needs.page (d.higher c.in-Ok-Needs.page c.in-Ok-Needs.level (ap Ok c.in-Ok-Needs.field-0-is)) w.1.1.1 t.0.neighbour in
    let le = t.0.passed.within in
    omega arith
