use Rattle.std.proofs.Common.{◌∙◌, ◌+◌, ◌*◌, inl, Option, Err, refl, sym, subst, arith}
use Rattle.map_model.specs.declared.call.Refusal.{Refusal}
use Rattle.paged_desks.specs.engine_trait.declared.unserved.Unserved.{Unserved}
use Rattle.paged_desks.specs.engine_trait.declared.unserved.Unserved.TheVariants as unserved
use Rattle.paged_desks.specs.Pages.{most_a_level}
use Rattle.paged_desks.specs.declared.warming.Unwarmed.TheVariants as stopped
use Rattle.row_room.proofs.row_changes.StepLemmas.{clock_at_end, clock_below, not_fault}
use Rattle.row_walks.specs.declared.steps.At.{At}
use Rattle.row_walks.specs.declared.steps.At.TheVariants as begun
use Rattle.paged_desks.proofs.EndingLemmas.{Grounds}
use Rattle.paged_calls.specs.Tidyings.{TidyRounds, most_a_tidy_round}
use Rattle.paged_calls.proofs.ChangeWarms.{cause_warm, fits_unwarmed, ready_unwarmed, same_unwarmed, turn_unwarmed, works_unwarmed}
use Rattle.paged_calls.proofs.DelCalls.{clock_works}
use Rattle.paged_calls.proofs.PutWarms.{damaged_as, spent_as, way_few}
use Rattle.paged_calls.proofs.TidyStands.{tidied_come, tidied_up}
use Rattle.paged_calls.proofs.TidyWarms.{going_of, may_come, rounds_then, rounds_up, unwarmed_ends, way_around}
use Rattle.paged_calls.proofs.WarmLemmas.{cause_at, cause_none, ok_err}
use Rattle.paged_calls.proofs.tidying.round_warm.Goals as goal

pub returns-in-Err-clause-rounds : goal.returns-in-Err-clause-rounds
returns-in-Err-clause-rounds g c =
    let b = c.laws.ensures in
    let l : Grounds = record { reached = b.reached; needs = b.needs; versions = b.versions; kept = b.kept; prefixes = b.prefixes; seals = b.seals } in
    let lawful = (g.met.D.Disk g.world.𝓛 g.world.𝓜 g.world.𝓡 ((λ s x. x), (λ x. x), (λ x. x), (λ x. x))).lawful in
    let story = g.D.Disk.story in
    let m = c.args.machine.now in
    let n = c.warm.new.self in
    let w = c.in-Err.ensures in
    subst (λ (why : Unserved). TidyRounds story c.args.key begun.Before (2 * most_a_tidy_round) (Err why) m n) (sym c.unserved_of.ensures)
    (unwarmed_ends l story lawful c.args.key begun.Before m n (9 * most_a_level m.machine.work.session.workers) (2 * most_a_tidy_round) (let f = way_few story m c.requires.ready in omega arith) c.in-Err.why (λ on. way_around story c.args.key _ m n (w.gone on)) w.failed (spent_as _ _ c.in-Err.why w.spent) (damaged_as _ _ c.in-Err.why w.damaged))

pub returns-in-Err-clause-works : goal.returns-in-Err-clause-works
returns-in-Err-clause-works g c = works_unwarmed g.D.Disk.story c.args.key 0 c.args.machine.now c.warm.new.self c.in-Err.why c.unserved_of.result c.unserved_of.ensures c.in-Err.ensures.works

pub returns-in-Err-clause-ready : goal.returns-in-Err-clause-ready
returns-in-Err-clause-ready g c = ready_unwarmed g.D.Disk.story c.args.key 0 c.args.machine.now c.warm.new.self c.in-Err.why c.unserved_of.result c.unserved_of.ensures c.in-Err.ensures.ready

pub returns-in-Err-clause-fits : goal.returns-in-Err-clause-fits
returns-in-Err-clause-fits g c = fits_unwarmed g.D.Disk.story c.args.key 0 c.args.machine.now c.warm.new.self c.in-Err.why c.in-Err.ensures.ready c.in-Err.ensures.failed

pub returns-in-Err-clause-session : goal.returns-in-Err-clause-session
returns-in-Err-clause-session g c = same_unwarmed g.D.Disk.story c.args.key _ c.args.machine.now c.warm.new.self c.in-Err.why c.in-Err.ensures.gone c.in-Err.ensures.failed

pub returns-in-Err-clause-turn : goal.returns-in-Err-clause-turn
returns-in-Err-clause-turn g c = turn_unwarmed g.D.Disk.story c.args.key _ c.args.machine.now c.warm.new.self c.in-Err.why c.unserved_of.result c.unserved_of.ensures c.in-Err.ensures.gone

pub returns-in-Err-clause-cause_disk_fault : goal.returns-in-Err-clause-cause_disk_fault
returns-in-Err-clause-cause_disk_fault g c = cause_warm _ (Option At) _ _ c.in-Err.why c.unserved_of.result c.unserved_of.ensures c.in-Err.ensures.cause_disk_fault

pub returns-in-Some-clause-rounds : goal.returns-in-Some-clause-rounds
returns-in-Some-clause-rounds g c =
    let b = c.laws.ensures in
    let l : Grounds = record { reached = b.reached; needs = b.needs; versions = b.versions; kept = b.kept; prefixes = b.prefixes; seals = b.seals } in
    let lawful = (g.met.D.Disk g.world.𝓛 g.world.𝓜 g.world.𝓡 ((λ s x. x), (λ x. x), (λ x. x), (λ x. x))).lawful in
    let story = g.D.Disk.story in
    let m = c.args.machine.now in
    let k = c.warm.new.self in
    let q = clock_at_end k.machine.work.session.clock.clock c.in-Some.why (sym c.clock_refusal.ensures ∙ c.in-Some.is) in
    subst (λ (why : Refusal). TidyRounds story c.args.key begun.Before (2 * most_a_tidy_round) (Err (unserved.Refused why)) m k) (sym q.is)
    (record {
      there = begun.Before;
      made = tidied_up story c.args.key begun.Before begun.Before (9 * most_a_level m.machine.work.session.workers) (2 * most_a_tidy_round) m k (let f = way_few story m c.requires.ready in omega arith) (tidied_come l story lawful c.args.key begun.Before _ m k (way_around story c.args.key _ m k (c.in_default.ensures.gone refl)));
      going = going_of c.args.key begun.Before k (may_come story c.args.key begun.Before _ _ m k c.requires.ready (c.in_default.ensures.gone refl).paged c.requires.may);
      spent = q.spent;
    })

pub returns-in-Some-clause-works : goal.returns-in-Some-clause-works
returns-in-Some-clause-works g c = c.in_default.ensures.works ∙ sym (clock_works (Option At) c.warm.new.self.machine.work.session.clock.clock c.in-Some.why (sym c.clock_refusal.ensures ∙ c.in-Some.is))

pub returns-in-Some-clause-cause_disk_fault : goal.returns-in-Some-clause-cause_disk_fault
returns-in-Some-clause-cause_disk_fault g c = cause_none _ _ _ (c.in_default.ensures.cause_disk_fault.calm (ok_err _ _ stopped.DiskFault)) (not_fault (Option At) c.warm.new.self.machine.work.session.clock.clock c.in-Some.why (sym c.clock_refusal.ensures ∙ c.in-Some.is))

pub round-requires-clause-may : goal.round-requires-clause-may
round-requires-clause-may g c κs within = may_come g.D.Disk.story c.args.key begun.Before _ _ c.args.machine.now c.warm.new.self c.requires.ready (c.in_default.ensures.gone refl).paged c.requires.may

pub round-requires-clause-small : goal.round-requires-clause-small
round-requires-clause-small g c κs within = clock_below c.warm.new.self.machine.work.session.clock.clock (sym c.clock_refusal.ensures ∙ c.in_default-clock_refusal.is)

pub returns-clause-rounds : goal.returns-clause-rounds
returns-clause-rounds g c =
    let b = c.laws.ensures in
    let l : Grounds = record { reached = b.reached; needs = b.needs; versions = b.versions; kept = b.kept; prefixes = b.prefixes; seals = b.seals } in
    let lawful = (g.met.D.Disk g.world.𝓛 g.world.𝓜 g.world.𝓡 ((λ s x. x), (λ x. x), (λ x. x), (λ x. x))).lawful in
    let story = g.D.Disk.story in
    let m = c.args.machine.now in
    let k = c.warm.new.self in
    let n = c.round.new.machine in
    rounds_up story c.args.key begun.Before (9 * most_a_level m.machine.work.session.workers + most_a_tidy_round) (2 * most_a_tidy_round) m n (let f = way_few story m c.requires.ready in omega arith) c.round.result
    (rounds_then l story lawful c.args.key begun.Before (9 * most_a_level m.machine.work.session.workers) most_a_tidy_round m k n (tidied_come l story lawful c.args.key begun.Before _ m k (way_around story c.args.key _ m k (c.in_default.ensures.gone refl))) (c.in_default.ensures.gone refl).paged.given c.round.result c.round.ensures.rounds)

pub returns-clause-session : goal.returns-clause-session
returns-clause-session g c = let p = (c.in_default.ensures.gone refl).paged in let d = c.round.ensures.session in (d.0 ∙ p.same.0, d.1 ∙ p.same.1)

pub returns-clause-turn : goal.returns-clause-turn
returns-clause-turn g c works = c.round.ensures.turn works ∙ (c.in_default.ensures.gone refl).paged.turn

pub returns-clause-cause_disk_fault : goal.returns-clause-cause_disk_fault
returns-clause-cause_disk_fault g c = cause_at _ _ _ _ _ (sym (c.in_default.ensures.cause_disk_fault.calm (ok_err _ _ stopped.DiskFault))) refl c.round.ensures.cause_disk_fault

pub returns-in-Some-clause-ready : goal.returns-in-Some-clause-ready
returns-in-Some-clause-ready g c works = c.in_default.ensures.ready refl

pub round-requires-clause-ready : goal.round-requires-clause-ready
round-requires-clause-ready g c κs within = c.in_default.ensures.ready refl

pub round-requires-clause-live : goal.round-requires-clause-live
round-requires-clause-live g c κs within = inl refl
