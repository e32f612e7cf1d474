use Rattle.std.proofs.Common.{◌∙◌, inl, inr, Some, None, arith, refl, sym, subst, true≢false}
use Rattle.map_model.specs.declared.call.Call.TheVariants as call
use Rattle.paged_calls.specs.engine_trait.declared.unserved.Unserved.{Unserved}
use Rattle.paged_calls.specs.paged_desks.Calls.{CallDoes}
use Rattle.paged_calls.proofs.paged_desks.EndingLemmas.{Grounds}
use Rattle.paged_calls.proofs.TakingLemmas.{call_closed, call_open, closed_broken, closed_come, closed_works}
use Rattle.paged_scans.specs.Calls.{StandsAt}
use Rattle.paged_scans.specs.declared.scans.Step.{Step}
use Rattle.paged_scans.proofs.ScanLemmas.{come_refused, fits_refused, next_as, scan_above, scan_closed, scan_over, scan_pair, scan_paused, scan_refused}
use Rattle.paged_calls.specs.engine_trait.Serving.{unserved_answer}
use Rattle.paged_scans.proofs.scans.scan_on.Goals as goal

pub returns-in-Some-clause-does : goal.returns-in-Some-clause-does
returns-in-Some-clause-does g c works =
    let e = c.laws.ensures in
    let l : Grounds = record { reached = e.reached; needs = e.needs; versions = e.versions; kept = e.kept; prefixes = e.prefixes; seals = e.seals } in
    let lawful = (g.met.D.Disk g.world.𝓛 g.world.𝓜 g.world.𝓡 ((λ s x. x), (λ x. x), (λ x. x), (λ x. x))).lawful in
    let story = g.D.Disk.story in
    let m = c.args.machine.now in
    let scan = c.args.scan.now in
    elim (call_closed m.machine.work.session c.in-Some.why (sym c.call_refusal.ensures ∙ c.in-Some.is)) [
      | inl q ↦ absurd (true≢false (sym works ∙ q.0))
      | inr q ↦ subst (λ (why : Unserved). CallDoes story (StandsAt m.machine.work.session.own scan) m.machine.work.session.own (call.Scan scan.from scan.to) (unserved_answer why) m m) (sym q.2) (scan_closed l e.answers e.coming e.frames story lawful m (c.requires.ready works) scan c.requires.within q.1)
    ]

pub returns-in-Some-clause-works : goal.returns-in-Some-clause-works
returns-in-Some-clause-works g c = closed_works c.args.machine.now.machine.work.session c.in-Some.why (sym c.call_refusal.ensures ∙ c.in-Some.is) Step

pub returns-in-Some-clause-come : goal.returns-in-Some-clause-come
returns-in-Some-clause-come g c = closed_come c.args.machine.now.machine.work.session c.in-Some.why (sym c.call_refusal.ensures ∙ c.in-Some.is) c.args.machine.now.machine.work.session.workers

pub returns-in-Some-clause-cause_broken : goal.returns-in-Some-clause-cause_broken
returns-in-Some-clause-cause_broken g c = closed_broken c.args.machine.now.machine.work.session c.in-Some.why (sym c.call_refusal.ensures ∙ c.in-Some.is) Step

pub returns-then-scan-clause-does : goal.returns-then-scan-clause-does
returns-then-scan-clause-does g c works =
    let e = c.laws.ensures in
    let l : Grounds = record { reached = e.reached; needs = e.needs; versions = e.versions; kept = e.kept; prefixes = e.prefixes; seals = e.seals } in
    let lawful = (g.met.D.Disk g.world.𝓛 g.world.𝓜 g.world.𝓡 ((λ s x. x), (λ x. x), (λ x. x), (λ x. x))).lawful in
    let story = g.D.Disk.story in
    let m = c.args.machine.now in
    let scan = c.args.scan.now in
    let o = call_open m.machine.work.session (sym c.call_refusal.ensures ∙ c.in_default.is) in
    scan_above l e.answers e.coming e.frames story lawful m (c.requires.ready works) scan c.requires.within o.1 o.2 c.if-scan.true

pub returns-then-scan-eq-PAIRS-clause-does : goal.returns-then-scan-eq-PAIRS-clause-does
returns-then-scan-eq-PAIRS-clause-does g c works =
    let e = c.laws.ensures in
    let l : Grounds = record { reached = e.reached; needs = e.needs; versions = e.versions; kept = e.kept; prefixes = e.prefixes; seals = e.seals } in
    let lawful = (g.met.D.Disk g.world.𝓛 g.world.𝓜 g.world.𝓡 ((λ s x. x), (λ x. x), (λ x. x), (λ x. x))).lawful in
    let story = g.D.Disk.story in
    let m = c.args.machine.now in
    let scan = c.args.scan.now in
    let o = call_open m.machine.work.session (sym c.call_refusal.ensures ∙ c.in_default.is) in
    let le = c.if-scan.false in
    scan_paused l e.answers e.coming e.frames story lawful m (c.requires.ready works) scan c.requires.within o.1 o.2 c.if-scan-eq-PAIRS.true (omega arith)

pub returns-in-Ok-Some-clause-does : goal.returns-in-Ok-Some-clause-does
returns-in-Ok-Some-clause-does g c works =
    let e = c.laws.ensures in
    let l : Grounds = record { reached = e.reached; needs = e.needs; versions = e.versions; kept = e.kept; prefixes = e.prefixes; seals = e.seals } in
    let lawful = (g.met.D.Disk g.world.𝓛 g.world.𝓜 g.world.𝓡 ((λ s x. x), (λ x. x), (λ x. x), (λ x. x))).lawful in
    let story = g.D.Disk.story in
    let m = c.args.machine.now in
    let scan = c.args.scan.now in
    let o = call_open m.machine.work.session (sym c.call_refusal.ensures ∙ c.in_default.is) in
    let le = c.if-scan.false in
    let most = c.requires.within.met in
    let other = c.if-scan-eq-PAIRS.false in
    let n = c.next.new.machine in
    scan_pair l e.answers e.coming e.frames story lawful m (c.requires.ready works) scan c.requires.within o.1 o.2 n (omega arith) (omega arith) c.in-Ok-Some.key c.in-Ok-Some.value (c.in-Ok-Some.ensures.ready refl)
    (next_as story scan.at scan.to m n c.in-Ok-Some.field-0 (Some (c.in-Ok-Some.key, c.in-Ok-Some.value)) c.in-Ok-Some.field-0-is c.in-Ok-Some.ensures.nexts)

pub returns-in-Ok-None-clause-does : goal.returns-in-Ok-None-clause-does
returns-in-Ok-None-clause-does g c works =
    let e = c.laws.ensures in
    let l : Grounds = record { reached = e.reached; needs = e.needs; versions = e.versions; kept = e.kept; prefixes = e.prefixes; seals = e.seals } in
    let lawful = (g.met.D.Disk g.world.𝓛 g.world.𝓜 g.world.𝓡 ((λ s x. x), (λ x. x), (λ x. x), (λ x. x))).lawful in
    let story = g.D.Disk.story in
    let m = c.args.machine.now in
    let scan = c.args.scan.now in
    let o = call_open m.machine.work.session (sym c.call_refusal.ensures ∙ c.in_default.is) in
    let le = c.if-scan.false in
    let most = c.requires.within.met in
    let other = c.if-scan-eq-PAIRS.false in
    let n = c.next.new.machine in
    scan_over l e.answers e.coming e.frames story lawful m (c.requires.ready works) scan c.requires.within o.1 o.2 n (omega arith) (omega arith) (c.in-Ok-None.ensures.ready refl)
    (next_as story scan.at scan.to m n c.in-Ok-None.field-0 None c.in-Ok-None.field-0-is c.in-Ok-None.ensures.nexts)

pub returns-in-Err-clause-fits : goal.returns-in-Err-clause-fits
returns-in-Err-clause-fits g c fits = fits_refused g.D.Disk.story c.args.scan.now.at c.args.scan.now.to c.args.machine.now c.next.new.machine c.in-Err.why c.in-Err.ensures.ready c.in-Err.ensures.nexts

pub returns-in-Err-clause-does : goal.returns-in-Err-clause-does
returns-in-Err-clause-does g c works =
    let e = c.laws.ensures in
    let l : Grounds = record { reached = e.reached; needs = e.needs; versions = e.versions; kept = e.kept; prefixes = e.prefixes; seals = e.seals } in
    let lawful = (g.met.D.Disk g.world.𝓛 g.world.𝓜 g.world.𝓡 ((λ s x. x), (λ x. x), (λ x. x), (λ x. x))).lawful in
    let story = g.D.Disk.story in
    let m = c.args.machine.now in
    let scan = c.args.scan.now in
    let o = call_open m.machine.work.session (sym c.call_refusal.ensures ∙ c.in_default.is) in
    let le = c.if-scan.false in
    let most = c.requires.within.met in
    let other = c.if-scan-eq-PAIRS.false in
    let n = c.next.new.machine in
    scan_refused l e.answers e.coming e.frames story lawful m (c.requires.ready works) scan c.requires.within o.1 o.2 n (omega arith) (omega arith) c.in-Err.why c.in-Err.ensures.ready c.in-Err.ensures.nexts

pub returns-in-Err-clause-come : goal.returns-in-Err-clause-come
returns-in-Err-clause-come g c = come_refused g.D.Disk.story c.args.scan.now.at c.args.scan.now.to c.args.machine.now c.next.new.machine c.args.machine.now.machine.work.session.workers c.in-Err.why c.in-Err.ensures.only c.in-Err.ensures.nexts
