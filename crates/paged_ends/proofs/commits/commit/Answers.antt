use Rattle.std.proofs.Common.{◌∙◌, sym}
use Rattle.paged_desks.proofs.EndingLemmas.{Grounds}
use Rattle.row_ends.proofs.GoingLemmas.{ready_of}
use Rattle.paged_ends.proofs.CommitCalls.{closed_broken, closed_comes, closed_tested, closed_works, commit_did}
use Rattle.paged_ends.proofs.commits.commit.Goals as goal

pub returns-in-Some-clause-does : goal.returns-in-Some-clause-does
returns-in-Some-clause-does g c works =
    let e = c.laws.ensures in
    let l : Grounds = record { reached = e.reached; needs = e.needs; versions = e.versions; kept = e.kept; prefixes = e.prefixes; seals = e.seals } in
    let lawful = (g.met.D.Disk g.world.𝓛 g.world.𝓜 g.world.𝓡 ((λ s x. x), (λ x. x), (λ x. x), (λ x. x))).lawful in
    let m = c.args.machine.now in
    let story = g.D.Disk.story in
    closed_tested l e.answers e.coming story lawful m (c.requires.ready works) works c.in-Some.why (sym c.call_refusal.ensures ∙ c.in-Some.is)

pub returns-in-Some-clause-works : goal.returns-in-Some-clause-works
returns-in-Some-clause-works g c = closed_works c.args.machine.now.machine.work.session c.in-Some.why (sym c.call_refusal.ensures ∙ c.in-Some.is)

pub returns-in-Some-clause-come : goal.returns-in-Some-clause-come
returns-in-Some-clause-come g c = closed_comes c.args.machine.now.machine.work.session c.in-Some.why (sym c.call_refusal.ensures ∙ c.in-Some.is)

pub returns-in-Some-clause-cause_broken : goal.returns-in-Some-clause-cause_broken
returns-in-Some-clause-cause_broken g c = closed_broken c.args.machine.now.machine.work.session c.in-Some.why (sym c.call_refusal.ensures ∙ c.in-Some.is)

pub commit_open-requires-clause-ready : goal.commit_open-requires-clause-ready
commit_open-requires-clause-ready g c κs within = c.requires.ready (ready_of c.args.machine.now.machine.work.session (sym c.call_refusal.ensures ∙ c.in_default.is)).works

pub commit_open-requires-clause-is_open : goal.commit_open-requires-clause-is_open
commit_open-requires-clause-is_open g c κs within = (ready_of c.args.machine.now.machine.work.session (sym c.call_refusal.ensures ∙ c.in_default.is)).is_open

pub returns-clause-does : goal.returns-clause-does
returns-clause-does g c works =
    let e = c.laws.ensures in
    let l : Grounds = record { reached = e.reached; needs = e.needs; versions = e.versions; kept = e.kept; prefixes = e.prefixes; seals = e.seals } in
    let lawful = (g.met.D.Disk g.world.𝓛 g.world.𝓜 g.world.𝓡 ((λ s x. x), (λ x. x), (λ x. x), (λ x. x))).lawful in
    let m = c.args.machine.now in
    let story = g.D.Disk.story in
    let b = c.commit_open.ensures in
    let may = ready_of m.machine.work.session (sym c.call_refusal.ensures ∙ c.in_default.is) in
    commit_did l e.answers e.coming e.entries story lawful m c.commit_open.new.machine (c.requires.ready works) may.is_open may.whole c.commit_open.result b.commits b.ready b.aside b.same_session

pub returns-clause-come : goal.returns-clause-come
returns-clause-come g c = c.commit_open.ensures.come
