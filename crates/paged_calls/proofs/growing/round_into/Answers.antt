use Rattle.std.proofs.Common.{◌∙◌, Ok, Err, Some, ℕ, refl, sym, subst, arith}
use Rattle.map_model.specs.declared.call.Refusal.{Refusal}
use Rattle.paged_desks.specs.engine_trait.declared.unserved.Unserved.{Unserved}
use Rattle.paged_desks.specs.engine_trait.declared.unserved.Unserved.TheVariants as unserved
use Rattle.paged_desks.specs.Pages.{most_a_level}
use Rattle.paged_desks.specs.declared.warming.Unwarmed.TheVariants as stopped
use Rattle.row_room.proofs.row_changes.StepLemmas.{clock_at_end, clock_below, not_fault}
use Rattle.row_room.specs.declared.steps.Stepped.TheVariants as stepped
use Rattle.paged_desks.proofs.EndingLemmas.{Grounds}
use Rattle.paged_calls.specs.Rounds.{Rounds, most_behind_wish}
use Rattle.paged_calls.specs.declared.growing.Round.{Round}
use Rattle.paged_calls.specs.declared.growing.Round.TheVariants as round
use Rattle.paged_calls.proofs.ChangeWarms.{cause_warm, fits_unwarmed, ready_unwarmed, same_unwarmed, turn_unwarmed, works_unwarmed}
use Rattle.paged_calls.proofs.DelCalls.{clock_works}
use Rattle.paged_calls.proofs.PutCalls.{cause_step, ok_step}
use Rattle.paged_calls.proofs.PutWarms.{damaged_as, done_round, going_gone, going_of, grown_round, into_round, level_few, may_gone, refused_round, spent_as, step_works, stepped_as, stopped_round, stuck, unfit_full, unwarmed_rounds, wanted_free}
use Rattle.paged_calls.proofs.WarmLemmas.{cause_at, cause_none, ok_err}
use Rattle.paged_calls.proofs.growing.round_into.Goals as goal

pub frame_for-requires-clause-free : goal.frame_for-requires-clause-free
frame_for-requires-clause-free g c κs within = wanted_free g.D.Disk.story c.args.key c.args.page c.args.machine.now c.laws.ensures.room c.requires.ready c.requires.wanted

-- ## No frame

pub returns-in-Err-clause-rounds : goal.returns-in-Err-clause-rounds
returns-in-Err-clause-rounds g c =
    let b = c.laws.ensures in
    let l : Grounds = record { reached = b.reached; needs = b.needs; versions = b.versions; kept = b.kept; prefixes = b.prefixes; seals = b.seals } in
    let lawful = (g.met.D.Disk g.world.𝓛 g.world.𝓜 g.world.𝓡 ((λ s x. x), (λ x. x), (λ x. x), (λ x. x))).lawful in
    let story = g.D.Disk.story in
    let m = c.args.machine.now in
    let n = c.frame_for.new.self in
    let w = c.in-Err.ensures in
    subst (λ (why : Unserved). Rounds story c.args.key c.args.value most_behind_wish (Err why) m n) (sym c.unserved_of.ensures)
    (unwarmed_rounds l b.residence story lawful c.args.key c.args.value m n (most_a_level m.machine.work.session.workers) most_behind_wish (let f = level_few story m c.requires.ready in omega arith) c.in-Err.why w.gone w.failed (spent_as ℕ _ c.in-Err.why w.spent) (damaged_as ℕ _ c.in-Err.why w.damaged))

pub returns-in-Err-clause-works : goal.returns-in-Err-clause-works
returns-in-Err-clause-works g c = works_unwarmed g.D.Disk.story c.args.key 0 c.args.machine.now c.frame_for.new.self c.in-Err.why c.unserved_of.result c.unserved_of.ensures c.in-Err.ensures.works

pub returns-in-Err-clause-ready : goal.returns-in-Err-clause-ready
returns-in-Err-clause-ready g c = ready_unwarmed g.D.Disk.story c.args.key 0 c.args.machine.now c.frame_for.new.self c.in-Err.why c.unserved_of.result c.unserved_of.ensures c.in-Err.ensures.ready

pub returns-in-Err-clause-fits : goal.returns-in-Err-clause-fits
returns-in-Err-clause-fits g c = fits_unwarmed g.D.Disk.story c.args.key 0 c.args.machine.now c.frame_for.new.self c.in-Err.why c.in-Err.ensures.ready c.in-Err.ensures.failed

pub returns-in-Err-clause-session : goal.returns-in-Err-clause-session
returns-in-Err-clause-session g c = same_unwarmed g.D.Disk.story c.args.key _ c.args.machine.now c.frame_for.new.self c.in-Err.why c.in-Err.ensures.gone c.in-Err.ensures.failed

pub returns-in-Err-clause-turn : goal.returns-in-Err-clause-turn
returns-in-Err-clause-turn g c = turn_unwarmed g.D.Disk.story c.args.key _ c.args.machine.now c.frame_for.new.self c.in-Err.why c.unserved_of.result c.unserved_of.ensures c.in-Err.ensures.gone

pub returns-in-Err-clause-cause_disk_fault : goal.returns-in-Err-clause-cause_disk_fault
returns-in-Err-clause-cause_disk_fault g c = cause_warm ℕ Round _ _ c.in-Err.why c.unserved_of.result c.unserved_of.ensures c.in-Err.ensures.cause_disk_fault

-- ## The clock

pub returns-in-Some-clause-rounds : goal.returns-in-Some-clause-rounds
returns-in-Some-clause-rounds g c =
    let b = c.laws.ensures in
    let l : Grounds = record { reached = b.reached; needs = b.needs; versions = b.versions; kept = b.kept; prefixes = b.prefixes; seals = b.seals } in
    let lawful = (g.met.D.Disk g.world.𝓛 g.world.𝓜 g.world.𝓡 ((λ s x. x), (λ x. x), (λ x. x), (λ x. x))).lawful in
    let story = g.D.Disk.story in
    let m = c.args.machine.now in
    let k = c.frame_for.new.self in
    let q = clock_at_end k.machine.work.session.clock.clock c.in-Some.why (sym c.clock_refusal.ensures ∙ c.in-Some.is) in
    subst (λ (why : Refusal). Rounds story c.args.key c.args.value most_behind_wish (Err (unserved.Refused why)) m k) (sym q.is)
    (stopped_round l b.residence story lawful c.args.key c.args.value m k c.requires.ready (most_a_level m.machine.work.session.workers) most_behind_wish (level_few story m c.requires.ready) (c.in-Ok.ensures.gone refl) most_behind_wish (let f = level_few story m c.requires.ready in omega arith) (going_of c.args.key m c.requires.may) q.spent)

pub returns-in-Some-clause-works : goal.returns-in-Some-clause-works
returns-in-Some-clause-works g c = c.in-Ok.ensures.works ∙ sym (clock_works Round c.frame_for.new.self.machine.work.session.clock.clock c.in-Some.why (sym c.clock_refusal.ensures ∙ c.in-Some.is))

pub returns-in-Some-clause-cause_disk_fault : goal.returns-in-Some-clause-cause_disk_fault
returns-in-Some-clause-cause_disk_fault g c = cause_none _ _ _ (c.in-Ok.ensures.cause_disk_fault.calm (ok_err _ _ stopped.DiskFault)) (not_fault Round c.frame_for.new.self.machine.work.session.clock.clock c.in-Some.why (sym c.clock_refusal.ensures ∙ c.in-Some.is))

-- ## A step

pub step_hot-requires-clause-may : goal.step_hot-requires-clause-may
step_hot-requires-clause-may g c κs within =
    let m = c.args.machine.now in
    may_gone g.D.Disk.story c.args.key _ m c.frame_for.new.self c.requires.ready (c.in-Ok.ensures.gone refl).paged (unfit_full c.args.key c.requires.wanted.leaf m c.requires.wanted.unfit) c.requires.may

pub step_hot-requires-clause-small : goal.step_hot-requires-clause-small
step_hot-requires-clause-small g c κs within = clock_below c.frame_for.new.self.machine.work.session.clock.clock (sym c.clock_refusal.ensures ∙ c.in_default.is)

pub step_hot-requires-clause-placed : goal.step_hot-requires-clause-placed
step_hot-requires-clause-placed g c κs within = c.in-Ok.ensures.home.hot

pub step_hot-requires-clause-warm : goal.step_hot-requires-clause-warm
step_hot-requires-clause-warm g c κs within = c.in-Ok.ensures.home.warm

pub unreachable-requires : goal.unreachable-requires
unreachable-requires g c = absurd (stuck g.D.Disk.story c.args.key c.args.value c.args.page c.in-Ok.frame c.args.machine.now c.frame_for.new.self c.step_hot.new.machine c.requires.wanted c.in-Ok.ensures.home.free c.in-Ok-Needs.field-0 c.in-Ok-Needs.field-0-0 c.in-Ok-Needs.field-0-is c.in-Ok-Needs.ensures.steps)

-- ## Its answer

pub returns-in-Err-step_hot-clause-rounds : goal.returns-in-Err-step_hot-clause-rounds
returns-in-Err-step_hot-clause-rounds g c =
    let b = c.laws.ensures in
    let l : Grounds = record { reached = b.reached; needs = b.needs; versions = b.versions; kept = b.kept; prefixes = b.prefixes; seals = b.seals } in
    let lawful = (g.met.D.Disk g.world.𝓛 g.world.𝓜 g.world.𝓡 ((λ s x. x), (λ x. x), (λ x. x), (λ x. x))).lawful in
    let story = g.D.Disk.story in
    let m = c.args.machine.now in
    let k = c.frame_for.new.self in
    let n = c.step_hot.new.machine in
    let d = c.in-Err-step_hot.ensures in
    let gone = c.in-Ok.ensures.gone refl in
    into_round l b.residence story lawful c.args.key c.args.value m k c.requires.ready (most_a_level m.machine.work.session.workers) most_behind_wish (level_few story m c.requires.ready) gone c.requires.wanted.leaf c.requires.wanted.unfit n (Err c.in-Err-step_hot.why)
    (refused_round l b.residence story lawful c.args.key c.args.value k n (c.in-Ok.ensures.ready refl) d.aside d.session c.in-Err-step_hot.why (Some (record { page = c.args.page; frame = c.in-Ok.frame })) (λ on. d.is_half_aborted (d.works ∙ on))
    (going_gone story c.args.key _ m k c.requires.ready gone.paged (going_of c.args.key m c.requires.may)) (clock_below k.machine.work.session.clock.clock (sym c.clock_refusal.ensures ∙ c.in_default.is)) d.steps)

pub returns-in-Err-step_hot-clause-works : goal.returns-in-Err-step_hot-clause-works
returns-in-Err-step_hot-clause-works g c = let d = c.in-Err-step_hot.ensures in d.works ∙ step_works g.D.Disk.story c.args.key c.args.value (Some (record { page = c.args.page; frame = c.in-Ok.frame })) c.frame_for.new.self c.step_hot.new.machine Round c.in-Err-step_hot.why d.steps

pub returns-in-Err-step_hot-clause-ready : goal.returns-in-Err-step_hot-clause-ready
returns-in-Err-step_hot-clause-ready g c works = let d = c.in-Err-step_hot.ensures in d.ready (step_works g.D.Disk.story c.args.key c.args.value (Some (record { page = c.args.page; frame = c.in-Ok.frame })) c.frame_for.new.self c.step_hot.new.machine Round c.in-Err-step_hot.why d.steps ∙ works)

pub returns-in-Err-step_hot-clause-session : goal.returns-in-Err-step_hot-clause-session
returns-in-Err-step_hot-clause-session g c = let p = (c.in-Ok.ensures.gone refl).paged in let d = c.in-Err-step_hot.ensures.session in (d.1 ∙ p.same.0, d.2 ∙ p.same.1)

pub returns-in-Err-step_hot-clause-turn : goal.returns-in-Err-step_hot-clause-turn
returns-in-Err-step_hot-clause-turn g c works = c.in-Err-step_hot.ensures.session.0 ∙ (c.in-Ok.ensures.gone refl).paged.turn

pub returns-in-Err-step_hot-clause-cause_disk_fault : goal.returns-in-Err-step_hot-clause-cause_disk_fault
returns-in-Err-step_hot-clause-cause_disk_fault g c = cause_at _ _ _ _ _ (sym (c.in-Ok.ensures.cause_disk_fault.calm (ok_err _ _ stopped.DiskFault))) refl (cause_step Round _ _ c.in-Err-step_hot.why c.in-Err-step_hot.ensures.cause_disk_fault)

pub returns-in-Ok-Done-clause-rounds : goal.returns-in-Ok-Done-clause-rounds
returns-in-Ok-Done-clause-rounds g c =
    let b = c.laws.ensures in
    let l : Grounds = record { reached = b.reached; needs = b.needs; versions = b.versions; kept = b.kept; prefixes = b.prefixes; seals = b.seals } in
    let lawful = (g.met.D.Disk g.world.𝓛 g.world.𝓜 g.world.𝓡 ((λ s x. x), (λ x. x), (λ x. x), (λ x. x))).lawful in
    let story = g.D.Disk.story in
    let m = c.args.machine.now in
    let k = c.frame_for.new.self in
    let n = c.step_hot.new.machine in
    let d = c.in-Ok-Done.ensures in
    into_round l b.residence story lawful c.args.key c.args.value m k c.requires.ready (most_a_level m.machine.work.session.workers) most_behind_wish (level_few story m c.requires.ready) (c.in-Ok.ensures.gone refl) c.requires.wanted.leaf c.requires.wanted.unfit n (Ok (round.Done c.in-Ok-Done.before))
    (done_round l b.residence story lawful c.args.key c.args.value k n (c.in-Ok.ensures.ready refl) d.aside d.session c.in-Ok-Done.before (d.is_half_aborted d.works) (Some (record { page = c.args.page; frame = c.in-Ok.frame }))
    (stepped_as story c.args.key c.args.value (Some (record { page = c.args.page; frame = c.in-Ok.frame })) k n c.in-Ok-Done.field-0 (stepped.Done c.in-Ok-Done.before) c.in-Ok-Done.field-0-is d.steps))

pub returns-in-Ok-Done-clause-session : goal.returns-in-Ok-Done-clause-session
returns-in-Ok-Done-clause-session g c = let p = (c.in-Ok.ensures.gone refl).paged in let d = c.in-Ok-Done.ensures.session in (d.1 ∙ p.same.0, d.2 ∙ p.same.1)

pub returns-in-Ok-Done-clause-turn : goal.returns-in-Ok-Done-clause-turn
returns-in-Ok-Done-clause-turn g c works = c.in-Ok-Done.ensures.session.0 ∙ (c.in-Ok.ensures.gone refl).paged.turn

pub returns-in-Ok-Done-clause-cause_disk_fault : goal.returns-in-Ok-Done-clause-cause_disk_fault
returns-in-Ok-Done-clause-cause_disk_fault g c = cause_at _ _ _ _ _ (sym (c.in-Ok.ensures.cause_disk_fault.calm (ok_err _ _ stopped.DiskFault))) refl (ok_step Round _ _ _ _ c.in-Ok-Done.ensures.cause_disk_fault)

pub returns-in-Ok-Grown-clause-rounds : goal.returns-in-Ok-Grown-clause-rounds
returns-in-Ok-Grown-clause-rounds g c =
    let b = c.laws.ensures in
    let l : Grounds = record { reached = b.reached; needs = b.needs; versions = b.versions; kept = b.kept; prefixes = b.prefixes; seals = b.seals } in
    let lawful = (g.met.D.Disk g.world.𝓛 g.world.𝓜 g.world.𝓡 ((λ s x. x), (λ x. x), (λ x. x), (λ x. x))).lawful in
    let story = g.D.Disk.story in
    let m = c.args.machine.now in
    let k = c.frame_for.new.self in
    let n = c.step_hot.new.machine in
    let d = c.in-Ok-Grown.ensures in
    into_round l b.residence story lawful c.args.key c.args.value m k c.requires.ready (most_a_level m.machine.work.session.workers) most_behind_wish (level_few story m c.requires.ready) (c.in-Ok.ensures.gone refl) c.requires.wanted.leaf c.requires.wanted.unfit n (Ok round.Grown)
    (grown_round l b.residence story lawful c.args.key c.args.value k n (c.in-Ok.ensures.ready refl) d.aside d.session (d.is_half_aborted d.works) c.in-Ok.ensures.home.warm (Some (record { page = c.args.page; frame = c.in-Ok.frame }))
    (stepped_as story c.args.key c.args.value (Some (record { page = c.args.page; frame = c.in-Ok.frame })) k n c.in-Ok-Grown.field-0 stepped.Grown c.in-Ok-Grown.field-0-is d.steps))

pub returns-in-Ok-Grown-clause-session : goal.returns-in-Ok-Grown-clause-session
returns-in-Ok-Grown-clause-session g c = let p = (c.in-Ok.ensures.gone refl).paged in let d = c.in-Ok-Grown.ensures.session in (d.1 ∙ p.same.0, d.2 ∙ p.same.1)

pub returns-in-Ok-Grown-clause-turn : goal.returns-in-Ok-Grown-clause-turn
returns-in-Ok-Grown-clause-turn g c works = c.in-Ok-Grown.ensures.session.0 ∙ (c.in-Ok.ensures.gone refl).paged.turn

pub returns-in-Ok-Grown-clause-cause_disk_fault : goal.returns-in-Ok-Grown-clause-cause_disk_fault
returns-in-Ok-Grown-clause-cause_disk_fault g c = cause_at _ _ _ _ _ (sym (c.in-Ok.ensures.cause_disk_fault.calm (ok_err _ _ stopped.DiskFault))) refl (ok_step Round _ _ _ _ c.in-Ok-Grown.ensures.cause_disk_fault)

pub returns-in-Some-clause-ready : goal.returns-in-Some-clause-ready
returns-in-Some-clause-ready g c works = c.in-Ok.ensures.ready refl

pub step_hot-requires-clause-ready : goal.step_hot-requires-clause-ready
step_hot-requires-clause-ready g c κs within = c.in-Ok.ensures.ready refl
