use Rattle.std.proofs.Common.{◌∙◌, arith, refl}
use Rattle.row_scans.specs.declared.meets.Met.TheVariants as met
use Rattle.paged_calls.proofs.paged_desks.EndingLemmas.{Grounds}
use Rattle.paged_scans.proofs.NextLemmas.{next_over, next_pair, next_refused, passed_gap, passed_none, warm_met}
use Rattle.paged_scans.proofs.nexts.next.Goals as goal

pub loop-at-init : goal.loop-at-init
loop-at-init g c =
    let e = c.laws.ensures in
    let l : Grounds = record { reached = e.reached; needs = e.needs; versions = e.versions; kept = e.kept; prefixes = e.prefixes; seals = e.seals } in
    let lawful = (g.met.D.Disk g.world.𝓛 g.world.𝓜 g.world.𝓡 ((λ s x. x), (λ x. x), (λ x. x), (λ x. x))).lawful in
    record {
      low = omega arith;
      ready = c.requires.ready;
      works = c.requires.ready.works;
      is_open = c.requires.open_is;
      many = refl;
      passed = passed_none l g.D.Disk.story lawful c.args.from c.args.machine.now;
      faults = refl;
    }

pub returns-then-key-to-clause-nexts : goal.returns-then-key-to-clause-nexts
returns-then-key-to-clause-nexts g c =
    let i = c.loop-at.invariant in
    next_pair g.D.Disk.story c.args.from c.args.to c.loop-at.at c.args.machine.now c.loop-at.machine c.walk_warm.new.machine i.low c.loop-at-test.true i.passed c.in-Ok-Pair.key c.in-Ok-Pair.value c.if-key-to.true
    (warm_met g.D.Disk.story c.loop-at.at c.loop-at.machine c.walk_warm.new.machine c.in-Ok-Pair.field-0 (met.Pair c.in-Ok-Pair.key c.in-Ok-Pair.value) c.in-Ok-Pair.field-0-is c.in-Ok-Pair.ensures.meets)

pub returns-else-key-to-clause-nexts : goal.returns-else-key-to-clause-nexts
returns-else-key-to-clause-nexts g c =
    let i = c.loop-at.invariant in
    let above = c.if-key-to.false in
    next_over g.D.Disk.story c.args.from c.args.to c.loop-at.at c.args.machine.now c.loop-at.machine c.walk_warm.new.machine i.low c.loop-at-test.true i.passed c.in-Ok-Pair.key c.in-Ok-Pair.value (omega arith)
    (warm_met g.D.Disk.story c.loop-at.at c.loop-at.machine c.walk_warm.new.machine c.in-Ok-Pair.field-0 (met.Pair c.in-Ok-Pair.key c.in-Ok-Pair.value) c.in-Ok-Pair.field-0-is c.in-Ok-Pair.ensures.meets)

pub returns-in-Err-clause-nexts : goal.returns-in-Err-clause-nexts
returns-in-Err-clause-nexts g c =
    let i = c.loop-at.invariant in
    next_refused g.D.Disk.story c.args.from c.args.to c.loop-at.at c.args.machine.now c.loop-at.machine c.walk_warm.new.machine i.low c.loop-at-test.true i.passed c.in-Err.why c.in-Err.ensures.meets

pub loop-at-preserved : goal.loop-at-preserved
loop-at-preserved g c =
    let e = c.laws.ensures in
    let l : Grounds = record { reached = e.reached; needs = e.needs; versions = e.versions; kept = e.kept; prefixes = e.prefixes; seals = e.seals } in
    let lawful = (g.met.D.Disk g.world.𝓛 g.world.𝓜 g.world.𝓡 ((λ s x. x), (λ x. x), (λ x. x), (λ x. x))).lawful in
    let story = g.D.Disk.story in
    let i = c.loop-at.invariant in
    let u = c.loop-at.machine in
    let n = c.walk_warm.new.machine in
    let high = c.in-Ok-Gap.high in
    let t = warm_met story c.loop-at.at u n c.in-Ok-Gap.field-0 (met.Gap high) c.in-Ok-Gap.field-0-is c.in-Ok-Gap.ensures.meets in
    let p = passed_gap l story lawful c.args.from c.loop-at.at high c.args.machine.now u n i.ready i.passed t in
    let up = t.is.leaf in
    record {
      low = (let a = i.low in omega arith);
      ready = c.in-Ok-Gap.ensures.ready refl;
      works = c.in-Ok-Gap.ensures.works;
      is_open = c.in-Ok-Gap.ensures.open_is;
      many = p.same.0;
      passed = p;
      faults = c.in-Ok-Gap.ensures.cause_disk_fault.calm (λ x. cc) ∙ i.faults;
    }
