use Rattle.std.proofs.Common.{◌∙◌, refl, sym, true≢false}
use Rattle.map_model.specs.declared.call.Call.TheVariants as call
use Rattle.paged_desks.proofs.EndingLemmas.{Grounds}
use Rattle.paged_desks.proofs.Late.{cramped_of, half_in, may_all}
use Rattle.paged_ends.proofs.SpentLemmas.{spent_does}
use Rattle.paged_ends.proofs.SyncLemmas.{sync_does, sync_fails}
use Rattle.paged_ends.proofs.syncs.sync.Goals as goal

pub sync-requires-clause-ready : goal.sync-requires-clause-ready
sync-requires-clause-ready g c κs within = c.requires.ready c.if-not-machine.false

pub sync-requires-clause-may : goal.sync-requires-clause-may
sync-requires-clause-may g c κs within = c.may_sync.ensures.0 c.if-not-may_sync.false

pub returns-then-not-may_sync-clause-does : goal.returns-then-not-may_sync-clause-does
returns-then-not-may_sync-clause-does g c works h xs many tied halves line =
    let e = c.laws.ensures in
    let l : Grounds = record { reached = e.reached; needs = e.needs; versions = e.versions; kept = e.kept; prefixes = e.prefixes; seals = e.seals } in
    let lawful = (g.met.D.Disk g.world.𝓛 g.world.𝓜 g.world.𝓡 ((λ s x. x), (λ x. x), (λ x. x), (λ x. x))).lawful in
    let m = c.args.machine.now in
    let story = g.D.Disk.story in
    let ready = c.requires.ready works in
    spent_does l e.answers e.coming story lawful m ready (half_in (cramped_of m e.flush ready.sound.desks (λ all. true≢false (sym (c.may_sync.ensures.1 all) ∙ c.if-not-may_sync.true)))) 0 call.Sync (λ g xs. tt) (λ g xs. refl) (λ g s. refl) h xs many tied halves line

pub returns-then-not-machine-clause-cause_spent : goal.returns-then-not-machine-clause-cause_spent
returns-then-not-machine-clause-cause_spent g c = (λ q. absurd (cc), λ p. absurd (true≢false (sym p.0 ∙ c.if-not-machine.true)))

pub returns-then-not-may_sync-clause-cause_spent : goal.returns-then-not-may_sync-clause-cause_spent
returns-then-not-may_sync-clause-cause_spent g c =
    let m = c.args.machine.now in
    let works = c.if-not-machine.false in
    (λ _. (works, cramped_of m c.laws.ensures.flush (c.requires.ready works).sound.desks (λ all. true≢false (sym (c.may_sync.ensures.1 all) ∙ c.if-not-may_sync.true))), λ _. refl)

pub returns-in-Ok-clause-cause_spent : goal.returns-in-Ok-clause-cause_spent
returns-in-Ok-clause-cause_spent g c = (λ q. absurd (cc), λ p. absurd (may_all (c.may_sync.ensures.0 c.if-not-may_sync.false) p.1))

pub returns-in-Err-clause-cause_spent : goal.returns-in-Err-clause-cause_spent
returns-in-Err-clause-cause_spent g c = (λ q. absurd (cc), λ p. absurd (may_all (c.may_sync.ensures.0 c.if-not-may_sync.false) p.1))

pub returns-in-Ok-clause-does : goal.returns-in-Ok-clause-does
returns-in-Ok-clause-does g c works h xs many tied halves line =
    let e = c.laws.ensures in
    let l : Grounds = record { reached = e.reached; needs = e.needs; versions = e.versions; kept = e.kept; prefixes = e.prefixes; seals = e.seals } in
    let lawful = (g.met.D.Disk g.world.𝓛 g.world.𝓜 g.world.𝓡 ((λ s x. x), (λ x. x), (λ x. x), (λ x. x))).lawful in
    let m = c.args.machine.now in
    let story = g.D.Disk.story in
    sync_does l story lawful m c.sync.new.self (c.requires.ready works) h xs many tied halves line (c.in-Ok.ensures.ready refl) c.in-Ok.at c.in-Ok.ensures.synced

pub returns-in-Ok-clause-written : goal.returns-in-Ok-clause-written
returns-in-Ok-clause-written g c = c.in-Ok.ensures.synced.master

pub returns-in-Err-clause-does : goal.returns-in-Err-clause-does
returns-in-Err-clause-does g c works h xs many tied halves line =
    let e = c.laws.ensures in
    let l : Grounds = record { reached = e.reached; needs = e.needs; versions = e.versions; kept = e.kept; prefixes = e.prefixes; seals = e.seals } in
    let lawful = (g.met.D.Disk g.world.𝓛 g.world.𝓜 g.world.𝓡 ((λ s x. x), (λ x. x), (λ x. x), (λ x. x))).lawful in
    let m = c.args.machine.now in
    let story = g.D.Disk.story in
    sync_fails l story lawful m c.sync.new.self (c.requires.ready works) h xs many tied halves line 0 call.Sync refl (c.in-Err.ensures.failed refl) (λ es are few. (are, few))
