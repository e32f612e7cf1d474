use Rattle.std.proofs.Common.{ℕ, refl, sym, ◌∙◌, subst}
use Rattle.lean_disk.specs.Story.{IsLawful}
use Rattle.session_state.specs.disk_slots.declared.master.Master.{Master}
use Rattle.session_desks.specs.Parts.{here, memory, shape}
use Rattle.session_desks.specs.Runs.{memory_with}
use Rattle.session_desks.specs.Desks.{log_of}
use Rattle.session_desks.specs.Syncs.{AreRaisedTo, MayFlushEach, SyncFails, SyncMade}
use Rattle.session_desks.specs.declared.desk.Desk.{Desk}
use Rattle.session_desks.proofs.MayFlushes.{may_raised}
use Rattle.session_desks.proofs.SyncGoes.{all_logged, if_all, if_ok, sync_fails, sync_made, sync_sessions}
use Rattle.session_desks.proofs.SyncNeeds.{numbered}
use Rattle.session_desks.proofs.SyncWholes.{flush_fails}
use Rattle.session_desks.proofs.machine.Machine.sync_all.Goals as goal

pub clocks_low-requires-clause-numbered : goal.clocks_low-requires-clause-numbered
clocks_low-requires-clause-numbered g c = let m = c.flush_all.new.self in numbered (shape m) m.seat.view (here m) m.desks.items c.in_ok-flush_all.ensures.machine.desks

pub sync_flushed-requires-clause-logged : goal.sync_flushed-requires-clause-logged
sync_flushed-requires-clause-logged g c κs within =
    let s = c.args.self.now in
    let m = c.flush_all.new.self in
    let e = c.in_ok-flush_all.ensures in
    let x : Desk = here s in
    let d : Desk = here m in
    let z = shape m in
    all_logged z s.seat.view m.seat.view x d s.desks.items m.desks.items g.D.Disk.story s.work.disk m.work.disk e.session.0 c.requires.logged e.flushed e.machine.desks

pub returns-clause-sessions : goal.returns-clause-sessions
returns-clause-sessions g c =
    let s = c.args.self.now in
    let m = c.flush_all.new.self in
    let n = c.sync_flushed.new.self in
    let e = c.in_ok-flush_all.ensures in
    let x : Desk = here s in
    let d : Desk = here m in
    let y : Desk = here n in
    let z = shape m in
    if_ok c.sync_flushed.result c.sync_flushed.ensures.raised c.sync_flushed.ensures.number (λ k r at. sync_sessions z s.seat.view m.seat.view x d s.desks.items m.desks.items g.D.Disk.story s.work.disk m.work.disk e.session.0 c.requires.logged e.flushed e.machine.desks c.laws.ensures.reached m.master e.machine.numbers c.requires.opens c.clocks_low.ensures k at y n.desks.items e.still r)

pub returns-clause-may : goal.returns-clause-may
returns-clause-may g c =
    let s = c.args.self.now in
    let m = c.flush_all.new.self in
    let n = c.sync_flushed.new.self in
    let e = c.in_ok-flush_all.ensures in
    let x : Desk = here s in
    let d : Desk = here m in
    let y : Desk = here n in
    if_ok c.sync_flushed.result c.sync_flushed.ensures.raised c.sync_flushed.ensures.number (λ k r at.
    subst (λ (many : ℕ). MayFlushEach many y n.desks.items) (sym (c.sync_flushed.ensures.session.0 ∙ e.session.0))
    (may_raised c.every_flush.ensures s.work.session.workers x d y s.desks.items m.desks.items n.desks.items k e.still e.flushed.after
    (subst (λ (many : ℕ). AreRaisedTo many d m.desks.items y n.desks.items k) e.session.0 r) c.requires.may))

pub returns-clause-made : goal.returns-clause-made
returns-clause-made g c =
    let s = c.args.self.now in
    let m = c.flush_all.new.self in
    let n = c.sync_flushed.new.self in
    let e = c.in_ok-flush_all.ensures in
    let x : Desk = here s in
    let d : Desk = here m in
    let y : Desk = here n in
    let z = shape m in
    let f = c.sync_flushed.ensures in
    let l = c.laws.ensures in
    let laws : (d : g.row.D.Denot) → IsLawful (g.D.Disk.story d) = λ d. (g.met.D.Disk g.world.𝓛 g.world.𝓜 g.world.𝓡 ((λ s x. x), (λ x. x), (λ x. x), (λ x. x))).lawful d in
    if_all c.sync_flushed.result f.synced f.raised f.number f.written (λ k sync r at w.
    subst (λ (master : Master). SyncMade g.D.Disk.story s.work.session.workers k s.seat.view n.seat.view (memory_with (log_of x s.desks.items) master) (memory_with (log_of y n.desks.items) n.master) s.work.disk n.work.disk) e.master
    (sync_made z s.seat.view m.seat.view x d s.desks.items m.desks.items g.D.Disk.story s.work.disk m.work.disk e.session.0 c.requires.logged e.flushed e.machine.desks l.reached m.master e.machine.numbers c.requires.opens c.clocks_low.ensures
    l.needs laws l.kept l.prefixes l.seals l.versions k at n.seat.view y n.desks.items n.master n.work.disk sync r w))

pub returns-clause-failed : goal.returns-clause-failed
returns-clause-failed g c =
    let s = c.args.self.now in
    let m = c.flush_all.new.self in
    let n = c.sync_flushed.new.self in
    let e = c.in_ok-flush_all.ensures in
    let x : Desk = here s in
    let d : Desk = here m in
    let z = shape m in
    let l = c.laws.ensures in
    let laws : (d : g.row.D.Denot) → IsLawful (g.D.Disk.story d) = λ d. (g.met.D.Disk g.world.𝓛 g.world.𝓜 g.world.𝓡 ((λ s x. x), (λ x. x), (λ x. x), (λ x. x))).lawful d in
    λ h. subst (λ (master : Master). SyncFails s.work.session.workers s.seat.view (memory_with (log_of x s.desks.items) master) (g.D.Disk.story s.work.disk) (g.D.Disk.story n.work.disk)) e.master
    (sync_fails z s.seat.view m.seat.view x d s.desks.items m.desks.items g.D.Disk.story s.work.disk m.work.disk e.session.0 c.requires.logged e.flushed e.machine.desks l.reached m.master e.machine.numbers c.requires.opens c.clocks_low.ensures
    l.needs laws n.work.disk (c.sync_flushed.ensures.failed h))

pub returns-in_err-flush_all-clause-failed : goal.returns-in_err-flush_all-clause-failed
returns-in_err-flush_all-clause-failed g c =
    let s = c.args.self.now in
    let n = c.flush_all.new.self in
    λ _. flush_fails s.work.session.workers s.seat.view (memory s) (g.D.Disk.story s.work.disk) (g.D.Disk.story n.work.disk) (c.in_err-flush_all.ensures.failed refl)
