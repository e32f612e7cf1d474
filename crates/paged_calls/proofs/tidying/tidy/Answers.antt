use Rattle.std.proofs.Common.{◌∙◌, ◌+◌, ◌*◌, Option, Some, None, refl, sym, arith}
use Rattle.row_walks.specs.declared.steps.At.{At}
use Rattle.row_walks.specs.declared.steps.At.TheVariants as begun
use Rattle.paged_desks.specs.Machines.{view_of}
use Rattle.paged_desks.specs.row_words.Openings.{opening}
use Rattle.paged_desks.proofs.EndingLemmas.{Grounds}
use Rattle.paged_calls.specs.Tidyings.{TidiesOn, most_a_del, most_a_tidy_round, most_behind}
use Rattle.paged_calls.proofs.PutCalls.{cause_kind, cause_round, ok_round}
use Rattle.paged_calls.proofs.TidyWarms.{all_up, ends_up, round_as, tidies_then, tidies_up}
use Rattle.paged_calls.proofs.WarmLemmas.{cause_at}
use Rattle.paged_calls.proofs.tidying.tidy.Goals as goal

pub returns-in-Err-clause-tidies : goal.returns-in-Err-clause-tidies
returns-in-Err-clause-tidies g c = ends_up g.D.Disk.story c.args.key begun.Before (2 * most_a_tidy_round) most_a_del c.args.machine.now c.first_round.new.machine (omega arith) c.in-Err.why c.in-Err.ensures.rounds

pub returns-in-Err-clause-turn : goal.returns-in-Err-clause-turn
returns-in-Err-clause-turn g c works = c.in-Err.ensures.turn works

pub returns-in-Err-clause-cause_disk_fault : goal.returns-in-Err-clause-cause_disk_fault
returns-in-Err-clause-cause_disk_fault g c = cause_kind (Option At) (Unit {0}) _ _ c.in-Err.why c.in-Err.ensures.cause_disk_fault

pub returns-in-Ok-None-clause-tidies : goal.returns-in-Ok-None-clause-tidies
returns-in-Ok-None-clause-tidies g c =
    let m = c.args.machine.now in
    let n = c.first_round.new.machine in
    all_up g.D.Disk.story c.args.key begun.Before (2 * most_a_tidy_round) most_a_del m n (omega arith)
    (round_as g.D.Disk.story c.args.key begun.Before (2 * most_a_tidy_round) m n c.in-Ok-None.field-0 None c.in-Ok-None.field-0-is c.in-Ok-None.ensures.rounds)

pub returns-in-Ok-None-clause-turn : goal.returns-in-Ok-None-clause-turn
returns-in-Ok-None-clause-turn g c works = c.in-Ok-None.ensures.turn refl

pub returns-in-Ok-None-clause-cause_disk_fault : goal.returns-in-Ok-None-clause-cause_disk_fault
returns-in-Ok-None-clause-cause_disk_fault g c = cause_round (Unit {0}) _ _ _ _ c.in-Ok-None.ensures.cause_disk_fault

-- ## A change was made

pub tidy_on-requires-clause-ready : goal.tidy_on-requires-clause-ready
tidy_on-requires-clause-ready g c κs within = c.in-Ok-Some.ensures.ready refl

pub tidy_on-requires-clause-goes : goal.tidy_on-requires-clause-goes
tidy_on-requires-clause-goes g c κs within = (round_as g.D.Disk.story c.args.key begun.Before (2 * most_a_tidy_round) c.args.machine.now c.first_round.new.machine c.in-Ok-Some.field-0 (Some c.in-Ok-Some.next) c.in-Ok-Some.field-0-is c.in-Ok-Some.ensures.rounds).goes

pub returns-in-Ok-Some-clause-tidies : goal.returns-in-Ok-Some-clause-tidies
returns-in-Ok-Some-clause-tidies g c =
    let b = c.laws.ensures in
    let l : Grounds = record { reached = b.reached; needs = b.needs; versions = b.versions; kept = b.kept; prefixes = b.prefixes; seals = b.seals } in
    let lawful = (g.met.D.Disk g.world.𝓛 g.world.𝓜 g.world.𝓡 ((λ s x. x), (λ x. x), (λ x. x), (λ x. x))).lawful in
    let story = g.D.Disk.story in
    let m = c.args.machine.now in
    let u = c.first_round.new.machine in
    let n = c.tidy_on.new.machine in
    let next = c.in-Ok-Some.next in
    let d : TidiesOn story c.args.key begun.Before next (2 * most_a_tidy_round) m u = round_as story c.args.key begun.Before (2 * most_a_tidy_round) m u c.in-Ok-Some.field-0 (Some next) c.in-Ok-Some.field-0-is c.in-Ok-Some.ensures.rounds in
    tidies_up story c.args.key begun.Before (2 * most_a_tidy_round + most_behind (opening (view_of u).given).format.levels next) most_a_del m n (let f = d.fewer in omega arith) c.tidy_on.result
    (tidies_then l story lawful c.args.key begun.Before next (2 * most_a_tidy_round) (most_behind (opening (view_of u).given).format.levels next) m u n d.made c.tidy_on.result c.tidy_on.ensures.tidies)

pub returns-in-Ok-Some-clause-session : goal.returns-in-Ok-Some-clause-session
returns-in-Ok-Some-clause-session g c = let d = c.in-Ok-Some.ensures.session in let b = c.tidy_on.ensures.session in (b.0 ∙ d.0, b.1 ∙ d.1)

pub returns-in-Ok-Some-clause-turn : goal.returns-in-Ok-Some-clause-turn
returns-in-Ok-Some-clause-turn g c works = c.tidy_on.ensures.turn works ∙ c.in-Ok-Some.ensures.turn refl

pub returns-in-Ok-Some-clause-cause_disk_fault : goal.returns-in-Ok-Some-clause-cause_disk_fault
returns-in-Ok-Some-clause-cause_disk_fault g c = cause_at _ _ _ _ _ (sym (c.in-Ok-Some.ensures.cause_disk_fault.calm (ok_round _ _))) refl c.tidy_on.ensures.cause_disk_fault
