use Rattle.std.proofs.Common.{◌∙◌, ◌+◌, ◌*◌, Option, Ok, Err, ℕ, refl, sym, arith}
use Rattle.paged_desks.proofs.EndingLemmas.{Grounds}
use Rattle.paged_desks.specs.Machines.{view_of}
use Rattle.row_room.proofs.row_changes.TakesLemmas.{takes_most}
use Rattle.paged_desks.specs.row_words.Openings.{opening}
use Rattle.paged_desks.specs.rows_trait.Views.{state}
use Rattle.paged_calls.specs.Rounds.{most_a_round, most_rounds}
use Rattle.paged_calls.specs.declared.growing.Round.{Round}
use Rattle.paged_calls.specs.declared.growing.Round.TheVariants as round
use Rattle.paged_calls.proofs.ChangeWarms.{still_self}
use Rattle.paged_calls.proofs.MadeLemmas.{made_none, made_then}
use Rattle.paged_calls.proofs.PutCalls.{cause_kind, cause_round, ok_round}
use Rattle.paged_calls.proofs.PutWarms.{round_as, rounds_then, rounds_up}
use Rattle.paged_calls.proofs.WarmLemmas.{cause_at}
use Rattle.paged_calls.proofs.growing.put_hot.Goals as goal

pub room-init : goal.room-init
room-init g c =
    let b = c.laws.ensures in
    let l : Grounds = record { reached = b.reached; needs = b.needs; versions = b.versions; kept = b.kept; prefixes = b.prefixes; seals = b.seals } in
    let lawful = (g.met.D.Disk g.world.𝓛 g.world.𝓜 g.world.𝓡 ((λ s x. x), (λ x. x), (λ x. x), (λ x. x))).lawful in
    let m = c.args.machine.now in
    record {
      ready = c.requires.ready;
      may = c.requires.may;
      small = c.requires.small;
      warm = c.requires.warm;
      most = 0;
      made = made_none l b.residence g.D.Disk.story lawful c.args.key m m (still_self g.D.Disk.story m);
      few = let t = takes_most (opening (view_of m).given) (state (view_of m)).core c.args.key in omega arith;
      faults = refl;
    }

pub room-preserved : goal.room-preserved
room-preserved g c =
    let b = c.laws.ensures in
    let l : Grounds = record { reached = b.reached; needs = b.needs; versions = b.versions; kept = b.kept; prefixes = b.prefixes; seals = b.seals } in
    let lawful = (g.met.D.Disk g.world.𝓛 g.world.𝓜 g.world.𝓡 ((λ s x. x), (λ x. x), (λ x. x), (λ x. x))).lawful in
    let i = c.room.invariant in
    let e = c.in-Ok-Grown.ensures in
    let m = c.args.machine.now in
    let u = c.room.machine in
    let n = c.one_round.new.machine in
    let d = round_as g.D.Disk.story c.args.key c.args.value most_a_round u n c.in-Ok-Grown.field-0 round.Grown c.in-Ok-Grown.field-0-is e.rounds in
    record {
      ready = e.ready refl;
      may = d.may;
      small = d.small;
      warm = d.warm;
      most = i.most + most_a_round;
      made = made_then l b.residence g.D.Disk.story lawful c.args.key i.most most_a_round m u n i.made d.made;
      few = let t = d.takes in let f = i.few in omega arith;
      faults = e.cause_disk_fault.calm (ok_round _ _) ∙ i.faults;
    }

pub room-smaller : goal.room-smaller
room-smaller g c = (round_as g.D.Disk.story c.args.key c.args.value most_a_round c.room.machine c.one_round.new.machine c.in-Ok-Grown.field-0 round.Grown c.in-Ok-Grown.field-0-is c.in-Ok-Grown.ensures.rounds).takes

pub returns-in-Ok-Done-clause-rounds : goal.returns-in-Ok-Done-clause-rounds
returns-in-Ok-Done-clause-rounds g c =
    let b = c.laws.ensures in
    let l : Grounds = record { reached = b.reached; needs = b.needs; versions = b.versions; kept = b.kept; prefixes = b.prefixes; seals = b.seals } in
    let lawful = (g.met.D.Disk g.world.𝓛 g.world.𝓜 g.world.𝓡 ((λ s x. x), (λ x. x), (λ x. x), (λ x. x))).lawful in
    let i = c.room.invariant in
    let u = c.room.machine in
    let n = c.one_round.new.machine in
    rounds_up g.D.Disk.story c.args.key c.args.value (i.most + most_a_round) (most_rounds * most_a_round) c.args.machine.now n (let f = i.few in omega arith) (Ok (round.Done c.in-Ok-Done.before))
    (rounds_then l b.residence g.D.Disk.story lawful c.args.key c.args.value i.most most_a_round c.args.machine.now u n i.made (Ok (round.Done c.in-Ok-Done.before)) (λ e. absurd e)
    (round_as g.D.Disk.story c.args.key c.args.value most_a_round u n c.in-Ok-Done.field-0 (round.Done c.in-Ok-Done.before) c.in-Ok-Done.field-0-is c.in-Ok-Done.ensures.rounds))

pub returns-in-Err-clause-rounds : goal.returns-in-Err-clause-rounds
returns-in-Err-clause-rounds g c =
    let b = c.laws.ensures in
    let l : Grounds = record { reached = b.reached; needs = b.needs; versions = b.versions; kept = b.kept; prefixes = b.prefixes; seals = b.seals } in
    let lawful = (g.met.D.Disk g.world.𝓛 g.world.𝓜 g.world.𝓡 ((λ s x. x), (λ x. x), (λ x. x), (λ x. x))).lawful in
    let i = c.room.invariant in
    let u = c.room.machine in
    let n = c.one_round.new.machine in
    rounds_up g.D.Disk.story c.args.key c.args.value (i.most + most_a_round) (most_rounds * most_a_round) c.args.machine.now n (let f = i.few in omega arith) (Err c.in-Err.why)
    (rounds_then l b.residence g.D.Disk.story lawful c.args.key c.args.value i.most most_a_round c.args.machine.now u n i.made (Err c.in-Err.why) (λ e. absurd e) c.in-Err.ensures.rounds)

pub returns-in-Ok-Done-clause-session : goal.returns-in-Ok-Done-clause-session
returns-in-Ok-Done-clause-session g c = let d = c.room.invariant.made.same in let b = c.in-Ok-Done.ensures.session in (b.0 ∙ d.0, b.1 ∙ d.1)

pub returns-in-Ok-Done-clause-turn : goal.returns-in-Ok-Done-clause-turn
returns-in-Ok-Done-clause-turn g c works = c.in-Ok-Done.ensures.turn refl ∙ c.room.invariant.made.turn

pub returns-in-Err-clause-session : goal.returns-in-Err-clause-session
returns-in-Err-clause-session g c = let d = c.room.invariant.made.same in let b = c.in-Err.ensures.session in (b.0 ∙ d.0, b.1 ∙ d.1)

pub returns-in-Err-clause-turn : goal.returns-in-Err-clause-turn
returns-in-Err-clause-turn g c works = c.in-Err.ensures.turn works ∙ c.room.invariant.made.turn

pub returns-in-Ok-Done-clause-cause_disk_fault : goal.returns-in-Ok-Done-clause-cause_disk_fault
returns-in-Ok-Done-clause-cause_disk_fault g c = cause_at _ _ _ _ _ (sym c.room.invariant.faults) refl (cause_round (Option ℕ) _ _ _ _ c.in-Ok-Done.ensures.cause_disk_fault)

pub returns-in-Err-clause-cause_disk_fault : goal.returns-in-Err-clause-cause_disk_fault
returns-in-Err-clause-cause_disk_fault g c = cause_at _ _ _ _ _ (sym c.room.invariant.faults) refl (cause_kind Round (Option ℕ) _ _ c.in-Err.why c.in-Err.ensures.cause_disk_fault)
