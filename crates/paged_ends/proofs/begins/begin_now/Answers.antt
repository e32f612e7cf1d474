use Rattle.std.proofs.Common.{◌∙◌}
use Rattle.paged_desks.proofs.EndingLemmas.{Grounds}
use Rattle.paged_ends.proofs.BeginLemmas.{at_once, begun_broken, begun_comes, begun_disk, begun_fault, begun_flushed, begun_many, begun_same, begun_turn, begun_works}
use Rattle.paged_ends.proofs.begins.begin_now.Goals as goal

pub returns-clause-does : goal.returns-clause-does
returns-clause-does g c works h xs many tied halves may =
    let e = c.laws.ensures in
    let l : Grounds = record { reached = e.reached; needs = e.needs; versions = e.versions; kept = e.kept; prefixes = e.prefixes; seals = e.seals } in
    let lawful = (g.met.D.Disk g.world.𝓛 g.world.𝓜 g.world.𝓡 ((λ s x. x), (λ x. x), (λ x. x), (λ x. x))).lawful in
    let m = c.args.machine.now in
    let story = g.D.Disk.story in
    let b = c.begin_once.ensures in
    at_once l e.answers e.coming story lawful m (c.requires.ready works) c.args.is_long (λ q. c.requires.due q works) h xs many tied halves may c.begin_once.new.machine c.begin_once.result (b.ready (b.works ∙ works)) b.begun b.refused

pub returns-clause-same : goal.returns-clause-same
returns-clause-same g c = begun_same c.args.machine.now c.begin_once.new.machine c.begin_once.result c.begin_once.ensures.refused

pub returns-clause-session : goal.returns-clause-session
returns-clause-session g c = begun_many g.D.Disk.story c.args.machine.now c.begin_once.new.machine c.begin_once.result c.begin_once.ensures.begun c.begin_once.ensures.refused

pub returns-clause-turn : goal.returns-clause-turn
returns-clause-turn g c = begun_turn g.D.Disk.story c.args.machine.now c.begin_once.new.machine c.begin_once.result c.begin_once.ensures.begun c.begin_once.ensures.refused

pub returns-clause-works : goal.returns-clause-works
returns-clause-works g c = let b = c.begin_once.ensures in begun_works c.args.machine.now c.begin_once.new.machine c.begin_once.result b.begun b.refused b.works

pub returns-clause-come : goal.returns-clause-come
returns-clause-come g c = let b = c.begin_once.ensures in begun_comes c.args.machine.now c.begin_once.new.machine c.begin_once.result b.refused

pub returns-clause-flushed : goal.returns-clause-flushed
returns-clause-flushed g c works = let b = c.begin_once.ensures in begun_flushed g.D.Disk.story c.args.machine.now c.begin_once.new.machine c.begin_once.result b.begun b.refused

pub returns-clause-cause_broken : goal.returns-clause-cause_broken
returns-clause-cause_broken g c = let b = c.begin_once.ensures in begun_broken c.args.machine.now c.begin_once.new.machine c.begin_once.result b.begun b.refused

pub returns-clause-no_disk_fault : goal.returns-clause-no_disk_fault
returns-clause-no_disk_fault g c = let b = c.begin_once.ensures in (begun_disk c.args.machine.now c.begin_once.new.machine c.begin_once.result b.begun b.refused, begun_fault c.args.machine.now c.begin_once.new.machine c.begin_once.result b.refused)
