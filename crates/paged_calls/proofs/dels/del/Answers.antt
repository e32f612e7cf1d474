use Rattle.std.proofs.Common.{◌∙◌, ℕ, Option, Err, ap, refl, sym}
use Rattle.row_room.proofs.row_changes.StepLemmas.{clock_below, not_fault}
use Rattle.paged_calls.proofs.ChangeTests.{test_broken, test_comes, test_works}
use Rattle.paged_calls.proofs.ChangeWarms.{may_taken}
use Rattle.paged_calls.proofs.DelCalls.{clock_comes, clock_late, dels_come, dels_late, untaken_late}
use Rattle.paged_calls.proofs.DelLemmas.{del_did, del_stopped, del_tested, del_untaken}
use Rattle.paged_desks.proofs.EndingLemmas.{Grounds}
use Rattle.paged_calls.proofs.TakingLemmas.{none_is, some_is}
use Rattle.paged_calls.proofs.WarmLemmas.{cause_none, come_none}
use Rattle.paged_calls.specs.Tidyings.{most_a_del}
use Rattle.paged_calls.proofs.dels.del.Goals as goal

pub returns-in-Some-clause-does : goal.returns-in-Some-clause-does
returns-in-Some-clause-does g c works =
    let e = c.laws.ensures in
    let l : Grounds = record { reached = e.reached; needs = e.needs; versions = e.versions; kept = e.kept; prefixes = e.prefixes; seals = e.seals } in
    let lawful = (g.met.D.Disk g.world.𝓛 g.world.𝓜 g.world.𝓡 ((λ s x. x), (λ x. x), (λ x. x), (λ x. x))).lawful in
    del_tested l e.residence e.answers e.coming e.frames g.D.Disk.story lawful c.args.machine.now (c.requires.ready works) c.args.key c.in-Some.why (sym c.change_refusal.ensures ∙ c.in-Some.is)

pub returns-in-Err-clause-does : goal.returns-in-Err-clause-does
returns-in-Err-clause-does g c works =
    let e = c.laws.ensures in
    let l : Grounds = record { reached = e.reached; needs = e.needs; versions = e.versions; kept = e.kept; prefixes = e.prefixes; seals = e.seals } in
    let lawful = (g.met.D.Disk g.world.𝓛 g.world.𝓜 g.world.𝓡 ((λ s x. x), (λ x. x), (λ x. x), (λ x. x))).lawful in
    del_untaken l e.residence e.answers e.coming e.frames g.D.Disk.story lawful c.args.machine.now (c.requires.ready works) c.args.key (sym c.change_refusal.ensures ∙ c.in_default.is) c.take.new.machine c.take.ensures.ready c.in-Err.why c.in-Err.ensures.not_taken

pub returns-in-Some-clock_refusal-clause-does : goal.returns-in-Some-clock_refusal-clause-does
returns-in-Some-clock_refusal-clause-does g c works =
    let e = c.laws.ensures in
    let l : Grounds = record { reached = e.reached; needs = e.needs; versions = e.versions; kept = e.kept; prefixes = e.prefixes; seals = e.seals } in
    let lawful = (g.met.D.Disk g.world.𝓛 g.world.𝓜 g.world.𝓡 ((λ s x. x), (λ x. x), (λ x. x), (λ x. x))).lawful in
    let none = sym c.change_refusal.ensures ∙ c.in_default.is in
    let u = c.take.new.machine in
    let t = c.in_default-take.ensures.taken in
    del_stopped l e.residence e.answers e.coming e.frames g.D.Disk.story lawful c.args.machine.now (c.requires.ready works) c.args.key none u t c.take.ensures.ready c.in-Some-clock_refusal.why (come_none l g.D.Disk.story lawful c.args.key u) (may_taken c.args.key c.args.machine.now u none t)
    (sym c.clock_refusal.ensures ∙ c.in-Some-clock_refusal.is)

pub returns-clause-does : goal.returns-clause-does
returns-clause-does g c works =
    let e = c.laws.ensures in
    let l : Grounds = record { reached = e.reached; needs = e.needs; versions = e.versions; kept = e.kept; prefixes = e.prefixes; seals = e.seals } in
    let lawful = (g.met.D.Disk g.world.𝓛 g.world.𝓜 g.world.𝓡 ((λ s x. x), (λ x. x), (λ x. x), (λ x. x))).lawful in
    let w = c.del_warm.ensures in
    del_did l e.residence e.answers e.coming e.frames g.D.Disk.story lawful c.args.machine.now (c.requires.ready works) c.args.key (sym c.change_refusal.ensures ∙ c.in_default.is) c.take.new.machine c.in_default-take.ensures.taken c.take.ensures.ready
    (clock_below c.take.new.machine.machine.work.session.clock.clock (sym c.clock_refusal.ensures ∙ c.in_default-clock_refusal.is)) c.del_warm.new.machine c.del_warm.result w.ready w.dels

pub del_warm-requires-clause-may : goal.del_warm-requires-clause-may
del_warm-requires-clause-may g c κs within = may_taken c.args.key c.args.machine.now c.take.new.machine (sym c.change_refusal.ensures ∙ c.in_default.is) c.in_default-take.ensures.taken

pub del_warm-requires-clause-small : goal.del_warm-requires-clause-small
del_warm-requires-clause-small g c κs within = clock_below c.take.new.machine.machine.work.session.clock.clock (sym c.clock_refusal.ensures ∙ c.in_default-clock_refusal.is)

pub returns-in-Some-clause-works : goal.returns-in-Some-clause-works
returns-in-Some-clause-works g c = test_works c.args.machine.now.machine.work.session c.args.machine.now.machine.work.log c.in-Some.why (sym c.change_refusal.ensures ∙ c.in-Some.is) (Option ℕ)

pub returns-in-Some-clause-come : goal.returns-in-Some-clause-come
returns-in-Some-clause-come g c = test_comes c.args.machine.now.machine.work.session c.args.machine.now.machine.work.log c.in-Some.why (sym c.change_refusal.ensures ∙ c.in-Some.is) c.args.machine.now.machine.work.session.workers

pub returns-in-Some-clause-cause_broken : goal.returns-in-Some-clause-cause_broken
returns-in-Some-clause-cause_broken g c = test_broken c.args.machine.now.machine.work.session c.args.machine.now.machine.work.log c.in-Some.why (sym c.change_refusal.ensures ∙ c.in-Some.is) (Option ℕ)

pub returns-in-Some-clause-tested : goal.returns-in-Some-clause-tested
returns-in-Some-clause-tested g c why e = (ap Err (some_is c.in-Some.why why (sym c.in-Some.is ∙ (c.change_refusal.ensures ∙ e))), refl)

pub returns-in-Err-clause-tested : goal.returns-in-Err-clause-tested
returns-in-Err-clause-tested g c why e = absurd (none_is why (sym (sym c.change_refusal.ensures ∙ c.in_default.is) ∙ e))

pub returns-in-Some-clock_refusal-clause-tested : goal.returns-in-Some-clock_refusal-clause-tested
returns-in-Some-clock_refusal-clause-tested g c why e = absurd (none_is why (sym (sym c.change_refusal.ensures ∙ c.in_default.is) ∙ e))

pub returns-clause-tested : goal.returns-clause-tested
returns-clause-tested g c why e = absurd (none_is why (sym (sym c.change_refusal.ensures ∙ c.in_default.is) ∙ e))

pub returns-in-Err-clause-same : goal.returns-in-Err-clause-same
returns-in-Err-clause-same g c early = absurd (untaken_late c.in-Err.why _ _ _ _ _ c.in-Err.ensures.not_taken.not_taken early)

pub returns-in-Some-clock_refusal-clause-same : goal.returns-in-Some-clock_refusal-clause-same
returns-in-Some-clock_refusal-clause-same g c early = absurd (clock_late c.take.new.machine.machine.work.session.clock.clock c.in-Some-clock_refusal.why (sym c.clock_refusal.ensures ∙ c.in-Some-clock_refusal.is) early)

pub returns-clause-same : goal.returns-clause-same
returns-clause-same g c early = absurd (dels_late g.D.Disk.story c.args.key most_a_del c.del_warm.result c.take.new.machine c.del_warm.new.machine c.del_warm.ensures.dels early)

pub returns-in-Some-clock_refusal-clause-come : goal.returns-in-Some-clock_refusal-clause-come
returns-in-Some-clock_refusal-clause-come g c = clock_comes c.args.machine.now.machine.work.session.workers c.take.new.machine.machine.work.session.clock.clock c.in-Some-clock_refusal.why (sym c.clock_refusal.ensures ∙ c.in-Some-clock_refusal.is)

pub returns-clause-come : goal.returns-clause-come
returns-clause-come g c = dels_come g.D.Disk.story c.args.key most_a_del c.args.machine.now.machine.work.session.workers c.del_warm.result c.take.new.machine c.del_warm.new.machine c.del_warm.ensures.dels

pub returns-in-Some-clock_refusal-clause-cause_disk_fault : goal.returns-in-Some-clock_refusal-clause-cause_disk_fault
returns-in-Some-clock_refusal-clause-cause_disk_fault g c = cause_none _ _ _ (ap g.D.Disk.faults c.in_default-take.ensures.taken.beside.disk) (not_fault (Option ℕ) c.take.new.machine.machine.work.session.clock.clock c.in-Some-clock_refusal.why (sym c.clock_refusal.ensures ∙ c.in-Some-clock_refusal.is))
