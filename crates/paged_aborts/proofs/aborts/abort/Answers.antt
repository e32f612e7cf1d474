use Rattle.std.proofs.Common.{◌∙◌, ap, inl, Err, refl, sym}
use Rattle.paged_desks.proofs.EndingLemmas.{Grounds}
use Rattle.paged_aborts.proofs.AbortCalls.{abort_closed, back_comes, back_late, closed_broken, closed_comes, closed_works, end_late, ends_by, err_late, may_abort, none_is, not_back, not_broken, receipt_of, some_is}
use Rattle.paged_aborts.proofs.CrampedLemmas.{Bounds}
use Rattle.paged_aborts.proofs.CauseLemmas.{all_calm, as_ended, cause_at, cause_ended}
use Rattle.paged_aborts.specs.Backs.{NoneLeft}
use Rattle.paged_aborts.proofs.aborts.abort.Goals as goal

pub returns-in-Some-clause-does : goal.returns-in-Some-clause-does
returns-in-Some-clause-does g c works =
    let e = c.laws.ensures in
    let l : Grounds = record { reached = e.reached; needs = e.needs; versions = e.versions; kept = e.kept; prefixes = e.prefixes; seals = e.seals } in
    let bounds : Bounds = record { opened = e.opened; reserve = e.reserve; counts = e.counts; tights = e.tights } in
    let lawful = (g.met.D.Disk g.world.𝓛 g.world.𝓜 g.world.𝓡 ((λ s x. x), (λ x. x), (λ x. x), (λ x. x))).lawful in
    let story = g.D.Disk.story in
    let m = c.args.machine.now in
    abort_closed l bounds e.places e.answers e.coming e.entries e.frames story lawful m (c.requires.ready works) works c.in-Some.why (sym c.abort_refusal.ensures ∙ c.in-Some.is)

pub returns-in-Some-clause-works : goal.returns-in-Some-clause-works
returns-in-Some-clause-works g c = closed_works c.args.machine.now.machine.work.session c.in-Some.why (sym c.abort_refusal.ensures ∙ c.in-Some.is)

pub returns-in-Some-clause-come : goal.returns-in-Some-clause-come
returns-in-Some-clause-come g c = closed_comes c.args.machine.now.machine.work.session c.in-Some.why (sym c.abort_refusal.ensures ∙ c.in-Some.is)

pub returns-in-Some-clause-cause_broken : goal.returns-in-Some-clause-cause_broken
returns-in-Some-clause-cause_broken g c = closed_broken c.args.machine.now.machine.work.session c.in-Some.why (sym c.abort_refusal.ensures ∙ c.in-Some.is)

pub put_back_all-requires-clause-ready : goal.put_back_all-requires-clause-ready
put_back_all-requires-clause-ready g c κs within = c.requires.ready (may_abort c.args.machine.now.machine.work.session (sym c.abort_refusal.ensures ∙ c.in_default.is)).works

pub put_back_all-requires-clause-is_open : goal.put_back_all-requires-clause-is_open
put_back_all-requires-clause-is_open g c κs within = (may_abort c.args.machine.now.machine.work.session (sym c.abort_refusal.ensures ∙ c.in_default.is)).is_open

pub returns-in-Err-clause-does : goal.returns-in-Err-clause-does
returns-in-Err-clause-does g c works =
    let e = c.laws.ensures in
    let l : Grounds = record { reached = e.reached; needs = e.needs; versions = e.versions; kept = e.kept; prefixes = e.prefixes; seals = e.seals } in
    let bounds : Bounds = record { opened = e.opened; reserve = e.reserve; counts = e.counts; tights = e.tights } in
    let lawful = (g.met.D.Disk g.world.𝓛 g.world.𝓜 g.world.𝓡 ((λ s x. x), (λ x. x), (λ x. x), (λ x. x))).lawful in
    let story = g.D.Disk.story in
    let m = c.args.machine.now in
    not_back l bounds e.places e.answers e.coming e.entries e.frames story lawful m (c.requires.ready works) c.put_back_all.new.machine c.in-Err.why c.in-Err.ensures.ready c.in-Err.ensures.backs

pub finish-requires-clause-is_open : goal.finish-requires-clause-is_open
finish-requires-clause-is_open g c κs within = c.in_default-put_back_all.ensures.backs.0.is_open ∙ (may_abort c.args.machine.now.machine.work.session (sym c.abort_refusal.ensures ∙ c.in_default.is)).is_open

pub finish-requires-clause-left : goal.finish-requires-clause-left
finish-requires-clause-left g c κs within = c.in_default-put_back_all.ensures.backs.1

pub returns-clause-does : goal.returns-clause-does
returns-clause-does g c works =
    let e = c.laws.ensures in
    let l : Grounds = record { reached = e.reached; needs = e.needs; versions = e.versions; kept = e.kept; prefixes = e.prefixes; seals = e.seals } in
    let bounds : Bounds = record { opened = e.opened; reserve = e.reserve; counts = e.counts; tights = e.tights } in
    let lawful = (g.met.D.Disk g.world.𝓛 g.world.𝓜 g.world.𝓡 ((λ s x. x), (λ x. x), (λ x. x), (λ x. x))).lawful in
    let story = g.D.Disk.story in
    let m = c.args.machine.now in
    let b = c.in_default-put_back_all.ensures in
    let d = c.finish.ensures in
    ends_by l bounds e.places e.answers e.coming e.entries e.frames story lawful m (c.requires.ready works) c.put_back_all.new.machine c.finish.new.machine b.backs.0 (may_abort m.machine.work.session (sym c.abort_refusal.ensures ∙ c.in_default.is)).is_open (b.ready refl) d.same_session c.finish.result d.aborts d.ready d.aside d.failed

pub returns-in-Some-clause-tested : goal.returns-in-Some-clause-tested
returns-in-Some-clause-tested g c why e = (ap Err (some_is c.in-Some.why why (sym c.in-Some.is ∙ (c.abort_refusal.ensures ∙ e))), refl)

pub returns-in-Err-clause-tested : goal.returns-in-Err-clause-tested
returns-in-Err-clause-tested g c why e = absurd (none_is why (sym (sym c.abort_refusal.ensures ∙ c.in_default.is) ∙ e))

pub returns-clause-tested : goal.returns-clause-tested
returns-clause-tested g c why e = absurd (none_is why (sym (sym c.abort_refusal.ensures ∙ c.in_default.is) ∙ e))

pub returns-in-Err-clause-same : goal.returns-in-Err-clause-same
returns-in-Err-clause-same g c early = absurd (err_late c.in-Err.why (back_late g.D.Disk.story c.args.machine.now c.put_back_all.new.machine _ NoneLeft c.in-Err.why c.in-Err.ensures.backs) early)

pub returns-clause-same : goal.returns-clause-same
returns-clause-same g c early = absurd (end_late g.D.Disk.story c.put_back_all.new.machine c.finish.new.machine c.finish.result c.finish.ensures.aborts early)

pub returns-in-Err-clause-works : goal.returns-in-Err-clause-works
returns-in-Err-clause-works g c = c.in-Err.ensures.works ∙ as_ended c.in-Err.why

pub returns-in-Err-clause-come : goal.returns-in-Err-clause-come
returns-in-Err-clause-come g c = back_comes g.D.Disk.story c.args.machine.now c.put_back_all.new.machine _ NoneLeft c.in-Err.why c.in-Err.ensures.backs

pub returns-in-Err-clause-cause_broken : goal.returns-in-Err-clause-cause_broken
returns-in-Err-clause-cause_broken g c =
    not_broken _ _ (λ e. err_late c.in-Err.why (back_late g.D.Disk.story c.args.machine.now c.put_back_all.new.machine _ NoneLeft c.in-Err.why c.in-Err.ensures.backs) (inl e)) (may_abort c.args.machine.now.machine.work.session (sym c.abort_refusal.ensures ∙ c.in_default.is)).works

pub returns-clause-cause_broken : goal.returns-clause-cause_broken
returns-clause-cause_broken g c = not_broken _ _ c.finish.ensures.no_broken (may_abort c.args.machine.now.machine.work.session (sym c.abort_refusal.ensures ∙ c.in_default.is)).works

pub returns-clause-receipt : goal.returns-clause-receipt
returns-clause-receipt g c = receipt_of g.D.Disk.story _ c.args.machine.now c.put_back_all.new.machine c.finish.new.machine c.in_default-put_back_all.ensures.backs.0 c.finish.result c.finish.ensures.aborts c.finish.ensures.receipt

pub returns-clause-session : goal.returns-clause-session
returns-clause-session g c = let u = c.in_default-put_back_all.ensures.backs.0 in let d = c.finish.ensures.same_session in (d.1 ∙ u.same.0, d.2 ∙ u.same.1)

pub returns-clause-turn : goal.returns-clause-turn
returns-clause-turn g c works = c.finish.ensures.same_session.0 ∙ c.in_default-put_back_all.ensures.backs.0.turn

pub returns-in-Err-clause-cause_disk_fault : goal.returns-in-Err-clause-cause_disk_fault
returns-in-Err-clause-cause_disk_fault g c = cause_ended _ _ c.in-Err.why c.in-Err.ensures.cause_disk_fault

pub returns-clause-cause_disk_fault : goal.returns-clause-cause_disk_fault
returns-clause-cause_disk_fault g c = cause_at _ _ _ _ _ (sym (c.in_default-put_back_all.ensures.cause_disk_fault.calm all_calm)) refl c.finish.ensures.cause_disk_fault
