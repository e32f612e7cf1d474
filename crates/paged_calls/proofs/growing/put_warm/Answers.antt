use Rattle.std.proofs.Common.{◌∙◌, ◌+◌, ◌*◌, Option, Err, ℕ, refl, sym, subst, arith}
use Rattle.map_model.specs.declared.call.Refusal.{Refusal}
use Rattle.paged_desks.specs.engine_trait.declared.unserved.Unserved.{Unserved}
use Rattle.paged_desks.specs.engine_trait.declared.unserved.Unserved.TheVariants as unserved
use Rattle.paged_desks.proofs.EndingLemmas.{Grounds}
use Rattle.paged_desks.specs.Pages.{most_a_level}
use Rattle.paged_desks.specs.declared.warming.Unwarmed.TheVariants as stopped
use Rattle.row_room.proofs.row_changes.StepLemmas.{clock_at_end, clock_below, not_fault}
use Rattle.paged_calls.specs.Rounds.{Rounds, most_a_put, most_a_round, most_rounds, round_of}
use Rattle.paged_calls.proofs.ChangeWarms.{cause_warm, fits_unwarmed, ready_unwarmed, same_unwarmed, turn_unwarmed, works_unwarmed}
use Rattle.paged_calls.proofs.DelCalls.{clock_works}
use Rattle.paged_calls.proofs.MadeLemmas.{made_gone}
use Rattle.paged_calls.proofs.PutWarms.{damaged_as, going_of, may_first, put_grown, rounds_then, rounds_up, spent_as, stopped_round, unwarmed_rounds, way_few}
use Rattle.paged_calls.proofs.RoomLemmas.{may_behind}
use Rattle.paged_calls.proofs.WarmLemmas.{cause_at, cause_none, ok_err}
use Rattle.paged_calls.proofs.growing.put_warm.Goals as goal

pub returns-in-Err-clause-rounds : goal.returns-in-Err-clause-rounds
returns-in-Err-clause-rounds g c =
    let b = c.laws.ensures in
    let l : Grounds = record { reached = b.reached; needs = b.needs; versions = b.versions; kept = b.kept; prefixes = b.prefixes; seals = b.seals } in
    let lawful = (g.met.D.Disk g.world.𝓛 g.world.𝓜 g.world.𝓡 ((λ s x. x), (λ x. x), (λ x. x), (λ x. x))).lawful in
    let story = g.D.Disk.story in
    let m = c.args.machine.now in
    let n = c.warm.new.self in
    let w = c.in-Err.ensures in
    subst (λ (why : Unserved). Rounds story c.args.key c.args.value most_a_put (Err why) m n) (sym c.unserved_of.ensures)
    (unwarmed_rounds l b.residence story lawful c.args.key c.args.value m n (9 * most_a_level m.machine.work.session.workers) most_a_put (let f = way_few story m c.requires.ready in omega arith) c.in-Err.why w.gone w.failed (spent_as _ _ c.in-Err.why w.spent) (damaged_as _ _ c.in-Err.why w.damaged))

pub returns-in-Err-clause-works : goal.returns-in-Err-clause-works
returns-in-Err-clause-works g c = works_unwarmed g.D.Disk.story c.args.key 0 c.args.machine.now c.warm.new.self c.in-Err.why c.unserved_of.result c.unserved_of.ensures c.in-Err.ensures.works

pub returns-in-Err-clause-ready : goal.returns-in-Err-clause-ready
returns-in-Err-clause-ready g c = ready_unwarmed g.D.Disk.story c.args.key 0 c.args.machine.now c.warm.new.self c.in-Err.why c.unserved_of.result c.unserved_of.ensures c.in-Err.ensures.ready

pub returns-in-Err-clause-fits : goal.returns-in-Err-clause-fits
returns-in-Err-clause-fits g c = fits_unwarmed g.D.Disk.story c.args.key 0 c.args.machine.now c.warm.new.self c.in-Err.why c.in-Err.ensures.ready c.in-Err.ensures.failed

pub returns-in-Err-clause-session : goal.returns-in-Err-clause-session
returns-in-Err-clause-session g c = same_unwarmed g.D.Disk.story c.args.key _ c.args.machine.now c.warm.new.self c.in-Err.why c.in-Err.ensures.gone c.in-Err.ensures.failed

pub returns-in-Err-clause-turn : goal.returns-in-Err-clause-turn
returns-in-Err-clause-turn g c = turn_unwarmed g.D.Disk.story c.args.key _ c.args.machine.now c.warm.new.self c.in-Err.why c.unserved_of.result c.unserved_of.ensures c.in-Err.ensures.gone

pub returns-in-Err-clause-cause_disk_fault : goal.returns-in-Err-clause-cause_disk_fault
returns-in-Err-clause-cause_disk_fault g c = cause_warm _ (Option ℕ) _ _ c.in-Err.why c.unserved_of.result c.unserved_of.ensures c.in-Err.ensures.cause_disk_fault

pub returns-in-Some-clause-rounds : goal.returns-in-Some-clause-rounds
returns-in-Some-clause-rounds g c =
    let b = c.laws.ensures in
    let l : Grounds = record { reached = b.reached; needs = b.needs; versions = b.versions; kept = b.kept; prefixes = b.prefixes; seals = b.seals } in
    let lawful = (g.met.D.Disk g.world.𝓛 g.world.𝓜 g.world.𝓡 ((λ s x. x), (λ x. x), (λ x. x), (λ x. x))).lawful in
    let story = g.D.Disk.story in
    let m = c.args.machine.now in
    let k = c.warm.new.self in
    let q = clock_at_end k.machine.work.session.clock.clock c.in-Some.why (sym c.clock_refusal.ensures ∙ c.in-Some.is) in
    subst (λ (why : Refusal). Rounds story c.args.key c.args.value most_a_put (Err (unserved.Refused why)) m k) (sym q.is)
    (stopped_round l b.residence story lawful c.args.key c.args.value m k c.requires.ready (9 * most_a_level m.machine.work.session.workers) most_a_round (way_few story m c.requires.ready) (c.in_default.ensures.gone refl) most_a_put (let f = way_few story m c.requires.ready in omega arith) (going_of c.args.key m (may_first c.args.key m c.requires.may)) q.spent)

pub returns-in-Some-clause-works : goal.returns-in-Some-clause-works
returns-in-Some-clause-works g c = c.in_default.ensures.works ∙ sym (clock_works (Option ℕ) c.warm.new.self.machine.work.session.clock.clock c.in-Some.why (sym c.clock_refusal.ensures ∙ c.in-Some.is))

pub returns-in-Some-clause-cause_disk_fault : goal.returns-in-Some-clause-cause_disk_fault
returns-in-Some-clause-cause_disk_fault g c = cause_none _ _ _ (c.in_default.ensures.cause_disk_fault.calm (ok_err _ _ stopped.DiskFault)) (not_fault (Option ℕ) c.warm.new.self.machine.work.session.clock.clock c.in-Some.why (sym c.clock_refusal.ensures ∙ c.in-Some.is))

pub put_hot-requires-clause-may : goal.put_hot-requires-clause-may
put_hot-requires-clause-may g c κs within = may_first c.args.key c.warm.new.self (may_behind g.D.Disk.story c.args.key _ c.args.machine.now c.warm.new.self c.requires.ready (c.in_default.ensures.gone refl).paged c.requires.may)

pub put_hot-requires-clause-small : goal.put_hot-requires-clause-small
put_hot-requires-clause-small g c κs within = clock_below c.warm.new.self.machine.work.session.clock.clock (sym c.clock_refusal.ensures ∙ c.in_default-clock_refusal.is)

pub returns-clause-rounds : goal.returns-clause-rounds
returns-clause-rounds g c =
    let b = c.laws.ensures in
    let l : Grounds = record { reached = b.reached; needs = b.needs; versions = b.versions; kept = b.kept; prefixes = b.prefixes; seals = b.seals } in
    let lawful = (g.met.D.Disk g.world.𝓛 g.world.𝓜 g.world.𝓡 ((λ s x. x), (λ x. x), (λ x. x), (λ x. x))).lawful in
    let story = g.D.Disk.story in
    let m = c.args.machine.now in
    let k = c.warm.new.self in
    let n = c.put_hot.new.machine in
    let r = round_of c.put_hot.result in
    rounds_up story c.args.key c.args.value (9 * most_a_level m.machine.work.session.workers + most_rounds * most_a_round) most_a_put m n (let f = way_few story m c.requires.ready in omega arith) r
    (rounds_then l b.residence story lawful c.args.key c.args.value (9 * most_a_level m.machine.work.session.workers) (most_rounds * most_a_round) m k n
    (made_gone l b.residence story lawful c.args.key _ m k (c.in_default.ensures.gone refl)) r (put_grown c.put_hot.result _) c.put_hot.ensures.rounds)

pub returns-clause-session : goal.returns-clause-session
returns-clause-session g c = let p = (c.in_default.ensures.gone refl).paged in let d = c.put_hot.ensures.session in (d.0 ∙ p.same.0, d.1 ∙ p.same.1)

pub returns-clause-turn : goal.returns-clause-turn
returns-clause-turn g c works = c.put_hot.ensures.turn works ∙ (c.in_default.ensures.gone refl).paged.turn

pub returns-clause-cause_disk_fault : goal.returns-clause-cause_disk_fault
returns-clause-cause_disk_fault g c = cause_at _ _ _ _ _ (sym (c.in_default.ensures.cause_disk_fault.calm (ok_err _ _ stopped.DiskFault))) refl c.put_hot.ensures.cause_disk_fault

pub returns-in-Some-clause-ready : goal.returns-in-Some-clause-ready
returns-in-Some-clause-ready g c works = c.in_default.ensures.ready refl

pub put_hot-requires-clause-ready : goal.put_hot-requires-clause-ready
put_hot-requires-clause-ready g c κs within = c.in_default.ensures.ready refl
