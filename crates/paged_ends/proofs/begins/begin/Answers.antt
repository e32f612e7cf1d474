use Rattle.std.proofs.Common.{◌∙◌, refl, sym, true≢false}
use Rattle.map_model.specs.declared.call.Call.TheVariants as call
use Rattle.paged_desks.proofs.EndingLemmas.{Grounds}
use Rattle.paged_desks.proofs.Late.{cramped_of, half_in}
use Rattle.paged_ends.proofs.BeginLemmas.{same_none}
use Rattle.paged_ends.proofs.SpentLemmas.{spent_does}
use Rattle.paged_ends.proofs.begins.begin.Goals as goal

pub returns-then-not-may_sync-clause-does : goal.returns-then-not-may_sync-clause-does
returns-then-not-may_sync-clause-does g c works h xs many tied halves may =
    let e = c.laws.ensures in
    let l : Grounds = record { reached = e.reached; needs = e.needs; versions = e.versions; kept = e.kept; prefixes = e.prefixes; seals = e.seals } in
    let lawful = (g.met.D.Disk g.world.𝓛 g.world.𝓜 g.world.𝓡 ((λ s x. x), (λ x. x), (λ x. x), (λ x. x))).lawful in
    let m = c.args.machine.now in
    let ready = c.requires.ready works in
    spent_does l e.answers e.coming g.D.Disk.story lawful m ready (half_in (cramped_of m e.flush ready.sound.desks (λ all. true≢false (sym (c.may_sync.ensures.1 all) ∙ c.if-not-may_sync.true)))) m.machine.work.session.own call.Begin (λ g xs. refl) (λ g xs. refl) (λ g s. refl) h xs many tied halves may.0

pub begin_synced-requires-clause-ready : goal.begin_synced-requires-clause-ready
begin_synced-requires-clause-ready g c κs within = c.requires.ready c.if-not-machine.false

pub returns-clause-same : goal.returns-clause-same
returns-clause-same g c refused early = same_none c.args.is_long c.if-not-is_long.false _ _ _ c.begin_synced.ensures.no_broken c.begin_synced.ensures.no_early early
