use Rattle.std.proofs.Common.{◌∙◌, ◌+◌, Option, Some, None, refl, sym, arith}
use Rattle.row_walks.specs.declared.steps.At.{At}
use Rattle.paged_desks.specs.Machines.{view_of}
use Rattle.paged_desks.specs.row_words.Openings.{opening}
use Rattle.paged_desks.proofs.EndingLemmas.{Grounds}
use Rattle.paged_calls.specs.Tidyings.{most_a_tidy_round, most_behind}
use Rattle.paged_calls.proofs.ChangeWarms.{still_self}
use Rattle.paged_calls.proofs.PutCalls.{cause_kind, cause_round, ok_round}
use Rattle.paged_calls.proofs.TidyStands.{tidied_none, tidied_then}
use Rattle.paged_calls.proofs.TidyWarms.{all_then, all_up, ends_then, ends_up, round_as}
use Rattle.paged_calls.proofs.WarmLemmas.{cause_at}
use Rattle.paged_calls.proofs.tidying.tidy_on.Goals as goal

pub tidy-init : goal.tidy-init
tidy-init g c =
    let b = c.laws.ensures in
    let l : Grounds = record { reached = b.reached; needs = b.needs; versions = b.versions; kept = b.kept; prefixes = b.prefixes; seals = b.seals } in
    let lawful = (g.met.D.Disk g.world.𝓛 g.world.𝓜 g.world.𝓡 ((λ s x. x), (λ x. x), (λ x. x), (λ x. x))).lawful in
    let story = g.D.Disk.story in
    let m = c.args.machine.now in
    record {
      ready = c.requires.ready;
      goes = c.requires.goes;
      most = 0;
      made = tidied_none l story lawful c.args.key c.args.from m m (still_self story m);
      few = omega arith;
      faults = refl;
    }

pub tidy-preserved : goal.tidy-preserved
tidy-preserved g c =
    let b = c.laws.ensures in
    let l : Grounds = record { reached = b.reached; needs = b.needs; versions = b.versions; kept = b.kept; prefixes = b.prefixes; seals = b.seals } in
    let lawful = (g.met.D.Disk g.world.𝓛 g.world.𝓜 g.world.𝓡 ((λ s x. x), (λ x. x), (λ x. x), (λ x. x))).lawful in
    let story = g.D.Disk.story in
    let i = c.tidy.invariant in
    let e = c.in-Ok-Some.ensures in
    let m = c.args.machine.now in
    let u = c.tidy.machine in
    let n = c.round.new.machine in
    let next = c.in-Ok-Some.next in
    let d = round_as story c.args.key c.tidy.at most_a_tidy_round u n c.in-Ok-Some.field-0 (Some next) c.in-Ok-Some.field-0-is e.rounds in
    record {
      ready = e.ready refl;
      goes = d.goes;
      most = i.most + most_a_tidy_round;
      made = tidied_then l story lawful c.args.key c.args.from c.tidy.at next i.most most_a_tidy_round m u n i.made d.made;
      few = let t = d.fewer in let f = i.few in omega arith;
      faults = e.cause_disk_fault.calm (ok_round _ _) ∙ i.faults;
    }

pub tidy-smaller : goal.tidy-smaller
tidy-smaller g c = (round_as g.D.Disk.story c.args.key c.tidy.at most_a_tidy_round c.tidy.machine c.round.new.machine c.in-Ok-Some.field-0 (Some c.in-Ok-Some.next) c.in-Ok-Some.field-0-is c.in-Ok-Some.ensures.rounds).fewer

pub returns-in-Err-clause-tidies : goal.returns-in-Err-clause-tidies
returns-in-Err-clause-tidies g c =
    let b = c.laws.ensures in
    let l : Grounds = record { reached = b.reached; needs = b.needs; versions = b.versions; kept = b.kept; prefixes = b.prefixes; seals = b.seals } in
    let lawful = (g.met.D.Disk g.world.𝓛 g.world.𝓜 g.world.𝓡 ((λ s x. x), (λ x. x), (λ x. x), (λ x. x))).lawful in
    let story = g.D.Disk.story in
    let i = c.tidy.invariant in
    let u = c.tidy.machine in
    let n = c.round.new.machine in
    ends_up story c.args.key c.args.from (i.most + most_a_tidy_round) (most_behind (opening (view_of c.args.machine.now).given).format.levels c.args.from) c.args.machine.now n (let f = i.few in omega arith) c.in-Err.why
    (ends_then l story lawful c.args.key c.args.from c.tidy.at i.most most_a_tidy_round c.args.machine.now u n i.made c.in-Err.why c.in-Err.ensures.rounds)

pub returns-in-Ok-None-clause-tidies : goal.returns-in-Ok-None-clause-tidies
returns-in-Ok-None-clause-tidies g c =
    let b = c.laws.ensures in
    let l : Grounds = record { reached = b.reached; needs = b.needs; versions = b.versions; kept = b.kept; prefixes = b.prefixes; seals = b.seals } in
    let lawful = (g.met.D.Disk g.world.𝓛 g.world.𝓜 g.world.𝓡 ((λ s x. x), (λ x. x), (λ x. x), (λ x. x))).lawful in
    let story = g.D.Disk.story in
    let i = c.tidy.invariant in
    let u = c.tidy.machine in
    let n = c.round.new.machine in
    all_up story c.args.key c.args.from (i.most + most_a_tidy_round) (most_behind (opening (view_of c.args.machine.now).given).format.levels c.args.from) c.args.machine.now n (let f = i.few in omega arith)
    (all_then l story lawful c.args.key c.args.from c.tidy.at i.most most_a_tidy_round c.args.machine.now u n i.made (round_as story c.args.key c.tidy.at most_a_tidy_round u n c.in-Ok-None.field-0 None c.in-Ok-None.field-0-is c.in-Ok-None.ensures.rounds))

pub returns-in-Err-clause-session : goal.returns-in-Err-clause-session
returns-in-Err-clause-session g c = let d = c.tidy.invariant.made.same in let b = c.in-Err.ensures.session in (b.0 ∙ d.0, b.1 ∙ d.1)

pub returns-in-Err-clause-turn : goal.returns-in-Err-clause-turn
returns-in-Err-clause-turn g c works = c.in-Err.ensures.turn works ∙ c.tidy.invariant.made.turn

pub returns-in-Err-clause-cause_disk_fault : goal.returns-in-Err-clause-cause_disk_fault
returns-in-Err-clause-cause_disk_fault g c = cause_at _ _ _ _ _ (sym c.tidy.invariant.faults) refl (cause_kind (Option At) (Unit {0}) _ _ c.in-Err.why c.in-Err.ensures.cause_disk_fault)

pub returns-in-Ok-None-clause-session : goal.returns-in-Ok-None-clause-session
returns-in-Ok-None-clause-session g c = let d = c.tidy.invariant.made.same in let b = c.in-Ok-None.ensures.session in (b.0 ∙ d.0, b.1 ∙ d.1)

pub returns-in-Ok-None-clause-turn : goal.returns-in-Ok-None-clause-turn
returns-in-Ok-None-clause-turn g c works = c.in-Ok-None.ensures.turn refl ∙ c.tidy.invariant.made.turn

pub returns-in-Ok-None-clause-cause_disk_fault : goal.returns-in-Ok-None-clause-cause_disk_fault
returns-in-Ok-None-clause-cause_disk_fault g c = cause_at _ _ _ _ _ (sym c.tidy.invariant.faults) refl (cause_round (Unit {0}) _ _ _ _ c.in-Ok-None.ensures.cause_disk_fault)
