use Rattle.std.proofs.Common.{◌∙◌, inl, inr, Option, ℕ, refl, sym, subst, true≢false}
use Rattle.map_model.specs.declared.call.Call.TheVariants as call
use Rattle.paged_desks.specs.engine_trait.declared.unserved.Unserved.{Unserved}
use Rattle.paged_desks.specs.Calls.{CallDoes, OnLine}
use Rattle.paged_calls.proofs.GetLemmas.{get_closed, get_read, get_untaken, get_unwarmed}
use Rattle.paged_desks.proofs.EndingLemmas.{Grounds}
use Rattle.paged_calls.proofs.TakingLemmas.{call_closed, call_open, closed_broken, closed_come, closed_works}
use Rattle.paged_calls.proofs.WarmLemmas.{fits_warm}
use Rattle.paged_desks.specs.engine_trait.Serving.{unserved_answer}
use Rattle.paged_calls.proofs.gets.get.Goals as goal

pub returns-in-Some-clause-does : goal.returns-in-Some-clause-does
returns-in-Some-clause-does g c works =
    let e = c.laws.ensures in
    let l : Grounds = record { reached = e.reached; needs = e.needs; versions = e.versions; kept = e.kept; prefixes = e.prefixes; seals = e.seals } in
    let lawful = (g.met.D.Disk g.world.𝓛 g.world.𝓜 g.world.𝓡 ((λ s x. x), (λ x. x), (λ x. x), (λ x. x))).lawful in
    let m = c.args.machine.now in
    let story = g.D.Disk.story in
    elim (call_closed m.machine.work.session c.in-Some.why (sym c.call_refusal.ensures ∙ c.in-Some.is)) [
      | inl q ↦ absurd (true≢false (sym works ∙ q.0))
      | inr q ↦ subst (λ (why : Unserved). CallDoes story OnLine m.machine.work.session.own (call.Get c.args.key) (unserved_answer why) m m) (sym q.2) (get_closed l e.answers e.coming story lawful m (c.requires.ready works) c.args.key q.1)
    ]

pub returns-in-Err-clause-does : goal.returns-in-Err-clause-does
returns-in-Err-clause-does g c works =
    let e = c.laws.ensures in
    let l : Grounds = record { reached = e.reached; needs = e.needs; versions = e.versions; kept = e.kept; prefixes = e.prefixes; seals = e.seals } in
    let lawful = (g.met.D.Disk g.world.𝓛 g.world.𝓜 g.world.𝓡 ((λ s x. x), (λ x. x), (λ x. x), (λ x. x))).lawful in
    let m = c.args.machine.now in
    let o = call_open m.machine.work.session (sym c.call_refusal.ensures ∙ c.in_default.is) in
    get_untaken l e.answers e.coming g.D.Disk.story lawful m (c.requires.ready works) c.args.key o.1 o.2 c.take.new.machine c.take.ensures.ready c.in-Err.why c.in-Err.ensures.not_taken

pub returns-in-Ok-clause-does : goal.returns-in-Ok-clause-does
returns-in-Ok-clause-does g c works =
    let e = c.laws.ensures in
    let l : Grounds = record { reached = e.reached; needs = e.needs; versions = e.versions; kept = e.kept; prefixes = e.prefixes; seals = e.seals } in
    let lawful = (g.met.D.Disk g.world.𝓛 g.world.𝓜 g.world.𝓡 ((λ s x. x), (λ x. x), (λ x. x), (λ x. x))).lawful in
    let m = c.args.machine.now in
    let o = call_open m.machine.work.session (sym c.call_refusal.ensures ∙ c.in_default.is) in
    get_read l e.answers e.coming g.D.Disk.story lawful m (c.requires.ready works) c.args.key o.1 o.2 c.take.new.machine c.in_default-take.ensures.taken c.take.ensures.ready c.read_warm.new.machine c.in-Ok.value (c.in-Ok.ensures.ready refl) c.in-Ok.ensures.reads

pub returns-in-Err-read_warm-clause-does : goal.returns-in-Err-read_warm-clause-does
returns-in-Err-read_warm-clause-does g c works =
    let e = c.laws.ensures in
    let l : Grounds = record { reached = e.reached; needs = e.needs; versions = e.versions; kept = e.kept; prefixes = e.prefixes; seals = e.seals } in
    let lawful = (g.met.D.Disk g.world.𝓛 g.world.𝓜 g.world.𝓡 ((λ s x. x), (λ x. x), (λ x. x), (λ x. x))).lawful in
    let m = c.args.machine.now in
    let o = call_open m.machine.work.session (sym c.call_refusal.ensures ∙ c.in_default.is) in
    let n = c.read_warm.new.machine in
    subst (λ (why : Unserved). CallDoes g.D.Disk.story OnLine m.machine.work.session.own (call.Get c.args.key) (unserved_answer why) m n) (sym c.unserved_of.ensures)
    (get_unwarmed l e.answers e.coming g.D.Disk.story lawful m (c.requires.ready works) c.args.key o.1 o.2 c.take.new.machine c.in_default-take.ensures.taken c.take.ensures.ready n c.in-Err-read_warm.why c.in-Err-read_warm.ensures.ready c.in-Err-read_warm.ensures.reads)

pub returns-in-Err-read_warm-clause-fits : goal.returns-in-Err-read_warm-clause-fits
returns-in-Err-read_warm-clause-fits g c fits = fits_warm g.D.Disk.story c.args.key c.in-Err-read_warm.why c.take.new.machine c.read_warm.new.machine c.in-Err-read_warm.ensures.reads c.in-Err-read_warm.ensures.ready

pub returns-in-Some-clause-works : goal.returns-in-Some-clause-works
returns-in-Some-clause-works g c = closed_works c.args.machine.now.machine.work.session c.in-Some.why (sym c.call_refusal.ensures ∙ c.in-Some.is) (Option ℕ)

pub returns-in-Some-clause-come : goal.returns-in-Some-clause-come
returns-in-Some-clause-come g c = closed_come c.args.machine.now.machine.work.session c.in-Some.why (sym c.call_refusal.ensures ∙ c.in-Some.is) c.args.machine.now.machine.work.session.workers

pub returns-in-Some-clause-cause_broken : goal.returns-in-Some-clause-cause_broken
returns-in-Some-clause-cause_broken g c = closed_broken c.args.machine.now.machine.work.session c.in-Some.why (sym c.call_refusal.ensures ∙ c.in-Some.is) (Option ℕ)
