use Rattle.std.proofs.Common.{inl, inr, refl, true≢false, ◌∙◌, ◌+◌, ◌≤◌, arith, sym, suc}
use Rattle.lean_disk.specs.Story.{IsLawful}
use Rattle.paged_desks.specs.Machines.{pages}
use Rattle.paged_desks.specs.Pages.{IsTightFor}
use Rattle.paged_desks.proofs.Breaking.{broken_sync, broken_then, broken_up}
use Rattle.paged_desks.proofs.Doing.{done_none, done_sync, done_then, done_up}
use Rattle.paged_desks.proofs.Full.{tight_is}
use Rattle.paged_desks.proofs.Late.{cramped_of}
use Rattle.paged_desks.proofs.Losses.{unread_err}
use Rattle.paged_desks.proofs.Warmth.{can_after, comes_behind, rest_synced, warm_synced}
use Rattle.paged_desks.proofs.machine.PagedMachine.sync_and_bring.Goals as goal

pub returns-then-not-may_sync-clause-done : goal.returns-then-not-may_sync-clause-done
returns-then-not-may_sync-clause-done g c _ =
    let l = c.laws.ensures in
    let lawful : (d : g.row.D.Denot) → IsLawful (g.D.Disk.story d) = λ d. (g.met.D.Disk g.world.𝓛 g.world.𝓜 g.world.𝓡 ((λ s x. x), (λ x. x), (λ x. x), (λ x. x))).lawful d in
    done_up (omega arith) (done_none g.D.Disk.story (IsTightFor c.args.wanted c.args.key) l.kept l.prefixes l.seals l.versions lawful l.reached l.needs c.args.self.now)

pub sync-requires-clause-may : goal.sync-requires-clause-may
sync-requires-clause-may g c κs within = c.may_sync.ensures.0 c.if-not-may_sync.false

pub returns-in-Ok-clause-done : goal.returns-in-Ok-clause-done
returns-in-Ok-clause-done g c on =
    let m = c.args.self.now in
    let l = c.laws.ensures in
    let t = c.requires.crowded in
    let lawful : (d : g.row.D.Denot) → IsLawful (g.D.Disk.story d) = λ d. (g.met.D.Disk g.world.𝓛 g.world.𝓜 g.world.𝓡 ((λ s x. x), (λ x. x), (λ x. x), (λ x. x))).lawful d in
    done_then g.D.Disk.story (IsTightFor c.args.wanted c.args.key) l.kept l.prefixes l.seals l.versions lawful (let few : suc m.machine.work.session.workers + 15 ≤ 15 + suc m.machine.work.session.workers = omega arith in few)
    (done_sync g.D.Disk.story c.args.wanted c.args.key m c.sync.new.self l.reached l.needs c.in-Ok.ensures.synced (tight_is c.args.key c.args.wanted t.on t.above t.held (pages m) c.requires.ready.outside t.crowded)) (c.bring_again.ensures.done on)

pub returns-in-Ok-clause-comes : goal.returns-in-Ok-clause-comes
returns-in-Ok-clause-comes g c =
    comes_behind c.args.key c.args.wanted c.args.self.now c.sync.new.self c.bring_again.new.self (warm_synced c.args.key c.in-Ok.ensures.synced) (rest_synced c.args.wanted c.in-Ok.ensures.synced) c.requires.can c.bring_again.result c.bring_again.ensures.comes

pub bring_again-requires-clause-can : goal.bring_again-requires-clause-can
bring_again-requires-clause-can g c κs within = can_after c.args.key c.args.wanted c.args.self.now c.sync.new.self (warm_synced c.args.key c.in-Ok.ensures.synced) c.requires.can

pub returns-in-Ok-clause-broke : goal.returns-in-Ok-clause-broke
returns-in-Ok-clause-broke g c off =
    let m = c.args.self.now in
    let t = c.requires.crowded in
    let l = c.laws.ensures in
    let lawful : (d : g.row.D.Denot) → IsLawful (g.D.Disk.story d) = λ d. (g.met.D.Disk g.world.𝓛 g.world.𝓜 g.world.𝓡 ((λ s x. x), (λ x. x), (λ x. x), (λ x. x))).lawful d in
    broken_then g.D.Disk.story (IsTightFor c.args.wanted c.args.key) l.kept l.prefixes l.seals l.versions lawful (let few : suc m.machine.work.session.workers + 15 ≤ 15 + suc m.machine.work.session.workers = omega arith in few)
    (done_sync g.D.Disk.story c.args.wanted c.args.key m c.sync.new.self l.reached l.needs c.in-Ok.ensures.synced (tight_is c.args.key c.args.wanted t.on t.above t.held (pages m) c.requires.ready.outside t.crowded)) (c.bring_again.ensures.broke off)

pub returns-in-Err-clause-broke : goal.returns-in-Err-clause-broke
returns-in-Err-clause-broke g c _ =
    broken_up (let few : suc c.args.self.now.machine.work.session.workers ≤ 15 + suc c.args.self.now.machine.work.session.workers = omega arith in few) (broken_sync c.args.self.now c.sync.new.self (c.in-Err.ensures.failed refl))

pub returns-then-not-may_sync-clause-stuck : goal.returns-then-not-may_sync-clause-stuck
returns-then-not-may_sync-clause-stuck g c _ =
    let m = c.args.self.now in
    let t = c.requires.crowded in
    inr (record { tight = tight_is c.args.key c.args.wanted t.on t.above t.held (pages m) c.requires.ready.outside t.crowded; cramped = cramped_of m c.laws.ensures.flush c.requires.ready.sound.desks (λ may. true≢false (sym (c.may_sync.ensures.1 may) ∙ c.if-not-may_sync.true)) })

pub returns-in-Ok-clause-stuck : goal.returns-in-Ok-clause-stuck
returns-in-Ok-clause-stuck g c r = inl (c.bring_again.ensures.spent r)

pub returns-in-Ok-clause-unread : goal.returns-in-Ok-clause-unread
returns-in-Ok-clause-unread g c =
    let y = c.in-Ok.ensures.synced in
    unread_err g.D.Disk.story c.args.self.now c.sync.new.self y.events y.behind y.part c.bring_again.result c.bring_again.ensures.unread
