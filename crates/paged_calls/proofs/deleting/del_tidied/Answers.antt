use Rattle.std.proofs.Common.{◌∙◌, Option, ℕ, refl, sym}
use Rattle.row_walks.specs.declared.steps.At.TheVariants as begun
use Rattle.paged_desks.proofs.EndingLemmas.{Grounds}
use Rattle.paged_calls.specs.Tidyings.{most_a_del}
use Rattle.paged_calls.proofs.ChangeWarms.{cause_made, made_works}
use Rattle.paged_calls.proofs.PutCalls.{cause_kind, ok_round}
use Rattle.paged_calls.proofs.TidyWarms.{dels_by, may_over}
use Rattle.paged_calls.proofs.WarmLemmas.{cause_at}
use Rattle.paged_calls.proofs.deleting.del_tidied.Goals as goal

pub returns-in-Err-clause-dels : goal.returns-in-Err-clause-dels
returns-in-Err-clause-dels g c = c.in-Err.ensures.tidies

pub returns-in-Err-clause-turn : goal.returns-in-Err-clause-turn
returns-in-Err-clause-turn g c works = c.in-Err.ensures.turn works

pub returns-in-Err-clause-cause_disk_fault : goal.returns-in-Err-clause-cause_disk_fault
returns-in-Err-clause-cause_disk_fault g c = cause_kind (Unit {0}) (Option ℕ) _ _ c.in-Err.why c.in-Err.ensures.cause_disk_fault

pub del_hot-requires-clause-ready : goal.del_hot-requires-clause-ready
del_hot-requires-clause-ready g c κs within = c.in_default.ensures.ready refl

pub del_hot-requires-clause-may : goal.del_hot-requires-clause-may
del_hot-requires-clause-may g c κs within = let t = c.in_default.ensures.tidies in may_over c.args.key t.there c.tidy.new.machine t.goes.may

pub del_hot-requires-clause-small : goal.del_hot-requires-clause-small
del_hot-requires-clause-small g c κs within = c.in_default.ensures.tidies.goes.small

pub del_hot-requires-clause-warm : goal.del_hot-requires-clause-warm
del_hot-requires-clause-warm g c κs within = c.in_default.ensures.tidies.goes.warm

pub returns-clause-dels : goal.returns-clause-dels
returns-clause-dels g c =
    let b = c.laws.ensures in
    let l : Grounds = record { reached = b.reached; needs = b.needs; versions = b.versions; kept = b.kept; prefixes = b.prefixes; seals = b.seals } in
    let lawful = (g.met.D.Disk g.world.𝓛 g.world.𝓜 g.world.𝓡 ((λ s x. x), (λ x. x), (λ x. x), (λ x. x))).lawful in
    let story = g.D.Disk.story in
    let m = c.args.machine.now in
    let u = c.tidy.new.machine in
    let d = c.del_hot.ensures in
    let t = c.in_default.ensures.tidies in
    dels_by l story lawful c.args.key begun.Before t.there most_a_del m u c.del_hot.new.machine t.made (c.in_default.ensures.ready refl) d.aside d.session t.goes.may t.goes.live t.tidy c.del_hot.result (λ works. d.is_half_aborted (d.works ∙ works)) d.dels

pub returns-clause-works : goal.returns-clause-works
returns-clause-works g c = c.del_hot.ensures.works ∙ made_works g.D.Disk.story c.args.key c.tidy.new.machine c.del_hot.new.machine c.del_hot.result c.del_hot.ensures.dels

pub returns-clause-ready : goal.returns-clause-ready
returns-clause-ready g c works = c.del_hot.ensures.ready (made_works g.D.Disk.story c.args.key c.tidy.new.machine c.del_hot.new.machine c.del_hot.result c.del_hot.ensures.dels ∙ works)

pub returns-clause-session : goal.returns-clause-session
returns-clause-session g c = let p = c.in_default.ensures.session in let d = c.del_hot.ensures.session in (d.1 ∙ p.0, d.2 ∙ p.1)

pub returns-clause-turn : goal.returns-clause-turn
returns-clause-turn g c works = c.del_hot.ensures.session.0 ∙ c.in_default.ensures.turn refl

pub returns-clause-cause_disk_fault : goal.returns-clause-cause_disk_fault
returns-clause-cause_disk_fault g c = cause_at _ _ _ _ _ (sym (c.in_default.ensures.cause_disk_fault.calm (ok_round _ _))) refl (cause_made _ _ c.del_hot.result c.del_hot.ensures.cause_disk_fault)
