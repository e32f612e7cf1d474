use Rattle.std.proofs.Common.{◌∙◌, Bool, ap, refl, sym, subst, true≢false}
use Rattle.paged_desks.specs.call_parts.Rooms.{AreReady}
use Rattle.map_model.specs.declared.call.Call.TheVariants as call
use Rattle.paged_desks.proofs.EndingLemmas.{Grounds}
use Rattle.paged_ends.proofs.BeginLemmas.{behind_sync, begun_broken, begun_comes, begun_disk, begun_fault, begun_late, begun_many, begun_turn, begun_works, calm_from, shut}
use Rattle.paged_ends.proofs.SyncLemmas.{sync_fails}
use Rattle.paged_ends.proofs.begins.begin_synced.Goals as goal

pub returns-in-Err-clause-does : goal.returns-in-Err-clause-does
returns-in-Err-clause-does g c h xs many tied halves may =
    let e = c.laws.ensures in
    let l : Grounds = record { reached = e.reached; needs = e.needs; versions = e.versions; kept = e.kept; prefixes = e.prefixes; seals = e.seals } in
    let lawful = (g.met.D.Disk g.world.𝓛 g.world.𝓜 g.world.𝓡 ((λ s x. x), (λ x. x), (λ x. x), (λ x. x))).lawful in
    let m = c.args.machine.now in
    let story = g.D.Disk.story in
    let needed = may.1 ∙ c.requires.long in
    sync_fails l story lawful m c.sync.new.self c.requires.ready h xs many tied halves may.0 m.machine.work.session.own call.Begin needed (c.in-Err.ensures.failed refl) (λ es are few. (subst (λ (b : Bool). AreReady b es) (sym needed) are, few))

pub returns-clause-does : goal.returns-clause-does
returns-clause-does g c h xs many tied halves may =
    let e = c.laws.ensures in
    let l : Grounds = record { reached = e.reached; needs = e.needs; versions = e.versions; kept = e.kept; prefixes = e.prefixes; seals = e.seals } in
    let lawful = (g.met.D.Disk g.world.𝓛 g.world.𝓜 g.world.𝓡 ((λ s x. x), (λ x. x), (λ x. x), (λ x. x))).lawful in
    let m = c.args.machine.now in
    let story = g.D.Disk.story in
    let b = c.begin_once.ensures in
    let s = c.in_default.ensures in
    behind_sync l e.answers e.coming story lawful m c.requires.ready c.requires.closed c.last.ensures.order c.sync.new.self c.in_default.field-0 s.synced (s.ready refl) h xs many tied halves (may.0, may.1 ∙ c.requires.long)
    c.begin_once.new.machine c.begin_once.result (b.ready (b.works ∙ (s.ready refl).works)) b.begun b.refused

pub returns-in-Err-clause-session : goal.returns-in-Err-clause-session
returns-in-Err-clause-session g c = (c.in-Err.ensures.failed refl).same

pub returns-in-Err-clause-fits : goal.returns-in-Err-clause-fits
returns-in-Err-clause-fits g c = (c.in-Err.ensures.failed refl).fits

pub returns-clause-session : goal.returns-clause-session
returns-clause-session g c =
    let b = c.begin_once.ensures in
    let s = c.in_default.ensures.synced in
    let k = begun_many g.D.Disk.story c.sync.new.self c.begin_once.new.machine c.begin_once.result b.begun b.refused in
    (k.0 ∙ s.same.0, k.1 ∙ s.same.1)

pub returns-clause-turn : goal.returns-clause-turn
returns-clause-turn g c _ =
    let b = c.begin_once.ensures in
    begun_turn g.D.Disk.story c.sync.new.self c.begin_once.new.machine c.begin_once.result b.begun b.refused ∙ c.in_default.ensures.synced.turn

pub returns-clause-works : goal.returns-clause-works
returns-clause-works g c = let b = c.begin_once.ensures in begun_works c.sync.new.self c.begin_once.new.machine c.begin_once.result b.begun b.refused b.works

pub returns-clause-come : goal.returns-clause-come
returns-clause-come g c = begun_comes c.sync.new.self c.begin_once.new.machine c.begin_once.result c.begin_once.ensures.refused

pub returns-clause-no_early : goal.returns-clause-no_early
returns-clause-no_early g c early =
    let b = c.begin_once.ensures in
    let m = c.args.machine.now in
    let p = c.sync.new.self in
    let s = c.in_default.ensures in
    let l = c.laws.ensures in
    let grounds : Grounds = record { reached = l.reached; needs = l.needs; versions = l.versions; kept = l.kept; prefixes = l.prefixes; seals = l.seals } in
    let lawful = (g.met.D.Disk g.world.𝓛 g.world.𝓜 g.world.𝓡 ((λ s x. x), (λ x. x), (λ x. x), (λ x. x))).lawful in
    let closed = shut grounds l.answers l.coming g.D.Disk.story lawful m c.requires.ready c.requires.closed c.last.ensures.order p c.in_default.field-0 s.synced (s.ready refl) in
    begun_late p c.begin_once.new.machine (s.ready refl).works closed c.begin_once.result b.refused early

pub returns-clause-no_broken : goal.returns-clause-no_broken
returns-clause-no_broken g c q =
    let b = c.begin_once.ensures in
    true≢false (sym (c.in_default.ensures.ready refl).works ∙ (begun_broken c.sync.new.self c.begin_once.new.machine c.begin_once.result b.begun b.refused).0 q)

pub returns-clause-fits : goal.returns-clause-fits
returns-clause-fits g c = c.begin_once.ensures.fits (c.in_default.ensures.ready refl).sound.fits

pub returns-clause-cause_disk_fault : goal.returns-clause-cause_disk_fault
returns-clause-cause_disk_fault g c =
    let b = c.begin_once.ensures in
    calm_from (g.D.Disk.faults c.args.machine.now.machine.work.disk) (g.D.Disk.faults c.sync.new.self.machine.work.disk) _ _ _ c.in_default.ensures.cause_disk_fault (λ p. true≢false (sym p)) (ap g.D.Disk.faults (begun_disk c.sync.new.self c.begin_once.new.machine c.begin_once.result b.begun b.refused))
    (begun_fault c.sync.new.self c.begin_once.new.machine c.begin_once.result b.refused)
