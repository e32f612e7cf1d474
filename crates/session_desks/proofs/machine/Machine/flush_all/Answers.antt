use Rattle.std.proofs.Common.{◌≡◌, ◌≤◌, ◌<◌, ◌+◌, ◌-◌, suc, refl, sym, ◌∙◌, subst, arith}
use Rattle.session_desks.specs.Parts.{here, shape}
use Rattle.session_desks.specs.Desks.{desk_of, log_of}
use Rattle.session_desks.specs.Syncs.{Flushed, FlushedOne}
use Rattle.session_desks.specs.declared.desk.Desk.{Desk}
use Rattle.session_desks.proofs.SeatLemmas.{holds_of}
use Rattle.session_desks.proofs.FlushOnes.{still_more}
use Rattle.session_desks.proofs.MayFlushes.{may_still}
use Rattle.session_desks.proofs.SyncViews.{ends_still, flush_fails, flushed_more, flushed_none, none_still}
use Rattle.session_desks.proofs.machine.Machine.flush_all.Goals as goal

pub overflow_add-session-end : goal.overflow_add-session-end
overflow_add-session-end g c =
    let s = c.args.self.now in
    let m = (holds_of (shape s) s.seat.view (here s) s.desks.items c.requires.machine.desks).rows.most in
    omega arith

pub loop-session-init : goal.loop-session-init
loop-session-init g c =
    let s = c.args.self.now in
    let x : Desk = here s in
    record {
      machine = c.requires.machine;
      some = omega arith;
      works = c.requires.works;
      workers = refl;
      group = refl;
      still = λ w low high. refl;
      flushed = flushed_none c.laws.ensures.kept c.laws.ensures.prefixes c.laws.ensures.seals c.laws.ensures.versions s.work.session.workers s.seat.view (log_of x s.desks.items) (g.D.Disk.story s.work.disk) ((g.met.D.Disk g.world.𝓛 g.world.𝓜 g.world.𝓡 ((λ s x. x), (λ x. x), (λ x. x), (λ x. x))).lawful s.work.disk);
      master = refl;
      calm = refl;
    }

pub loop-session-preserved : goal.loop-session-preserved
loop-session-preserved g c =
    let s = c.args.self.now in
    let l = c.loop-session in
    let i = l.invariant in
    let m = l.self in
    let n = c.flush_one.new.self in
    let e = c.in_ok-flush_one.ensures in
    let x : Desk = here s in
    let d : Desk = here m in
    let y : Desk = here n in
    let low : l.session - 1 < l.session = let a = i.some in omega arith in
    let next : l.session ≡ suc (l.session - 1) = let a = i.some in omega arith in
    let high : l.session ≤ s.work.session.workers = let a = c.loop-session-test.true in omega arith in
    let same : l.session ≡ (l.session + 1) - 1 = let a = i.some in omega arith in
    record {
      machine = e.machine;
      some = omega arith;
      works = e.works.1 (λ h. cc);
      workers = e.session.0 ∙ i.workers;
      group = e.session.1 ∙ i.group;
      still = λ w some most. still_more (desk_of x s.desks.items w).session (desk_of d m.desks.items w).session (desk_of y n.desks.items w).session (i.still w some most) (e.still w some (subst (λ k. w ≤ k) (sym i.workers) most));
      flushed = subst (λ k. Flushed k s.work.session.workers s.seat.view n.seat.view (log_of x s.desks.items) (log_of y n.desks.items) (g.D.Disk.story s.work.disk) (g.D.Disk.story n.work.disk)) same
          (flushed_more c.laws.ensures.reached c.laws.ensures.needs (l.session - 1) l.session s.work.session.workers s.seat.view m.seat.view (log_of x s.desks.items) (log_of d m.desks.items) (g.D.Disk.story s.work.disk) (g.D.Disk.story m.work.disk) (g.D.Disk.story n.work.disk)
          i.flushed next high ((g.met.D.Disk g.world.𝓛 g.world.𝓜 g.world.𝓡 ((λ s x. x), (λ x. x), (λ x. x), (λ x. x))).lawful s.work.disk) e.keeps
          n.seat.view (log_of y n.desks.items)
          (ends_still (l.session - 1) l.session s.work.session.workers s.seat.view m.seat.view (log_of x s.desks.items) (log_of d m.desks.items) (g.D.Disk.story s.work.disk) (g.D.Disk.story m.work.disk) i.flushed low high (c.requires.logged l.session i.some high).ends)
          (subst (λ k. FlushedOne l.session k m.seat.view n.seat.view (log_of d m.desks.items) (log_of y n.desks.items) (g.D.Disk.story m.work.disk) (g.D.Disk.story n.work.disk)) i.workers e.flushed));
      master = e.master ∙ i.master;
      calm = e.cause_disk_fault.calm (λ h. cc) ∙ i.calm;
    }

pub returns-in_err-flush_one-clause-failed : goal.returns-in_err-flush_one-clause-failed
returns-in_err-flush_one-clause-failed g c =
    let s = c.args.self.now in
    let l = c.loop-session in
    let i = l.invariant in
    let m = l.self in
    let n = c.flush_one.new.self in
    let x : Desk = here s in
    let d : Desk = here m in
    λ _. flush_fails c.laws.ensures.reached c.laws.ensures.needs (l.session - 1) l.session s.work.session.workers s.seat.view m.seat.view (log_of x s.desks.items) (log_of d m.desks.items) (g.D.Disk.story s.work.disk) (g.D.Disk.story m.work.disk) (g.D.Disk.story n.work.disk)
    i.flushed (let a = i.some in omega arith) (let a = c.loop-session-test.true in omega arith) ((g.met.D.Disk g.world.𝓛 g.world.𝓜 g.world.𝓡 ((λ s x. x), (λ x. x), (λ x. x), (λ x. x))).lawful s.work.disk) c.flush_one.ensures.keeps

pub returns-clause-flushed : goal.returns-clause-flushed
returns-clause-flushed g c =
    let s = c.args.self.now in
    let l = c.loop-session in
    let m = l.self in
    let x : Desk = here s in
    let d : Desk = here m in
    let at : l.session - 1 ≡ s.work.session.workers = let a = c.loop-session-test.false in let b = l.auto in omega arith in
    subst (λ k. Flushed k s.work.session.workers s.seat.view m.seat.view (log_of x s.desks.items) (log_of d m.desks.items) (g.D.Disk.story s.work.disk) (g.D.Disk.story m.work.disk)) at l.invariant.flushed

pub flush_one-requires-clause-last : goal.flush_one-requires-clause-last
flush_one-requires-clause-last g c κs within =
    let s = c.args.self.now in
    let l = c.loop-session in
    let i = l.invariant in
    let m = l.self in
    let x : Desk = here s in
    let d : Desk = here m in
    let high : l.session ≤ s.work.session.workers = let a = c.loop-session-test.true in omega arith in
    none_still (l.session - 1) l.session s.work.session.workers s.seat.view m.seat.view (log_of x s.desks.items) (log_of d m.desks.items) (g.D.Disk.story s.work.disk) (g.D.Disk.story m.work.disk) i.flushed (let a = i.some in omega arith) high
    (c.requires.logged l.session i.some high).last

pub flush_one-requires-clause-may : goal.flush_one-requires-clause-may
flush_one-requires-clause-may g c κs within =
    let s = c.args.self.now in
    let l = c.loop-session in
    let i = l.invariant in
    let m = l.self in
    let x : Desk = here s in
    let d : Desk = here m in
    let high : l.session ≤ s.work.session.workers = let a = c.loop-session-test.true in omega arith in
    let low : l.session - 1 < l.session = let a = i.some in omega arith in
    may_still (desk_of x s.desks.items l.session).session (desk_of d m.desks.items l.session).session (log_of x s.desks.items l.session) (log_of d m.desks.items l.session)
    (i.still l.session i.some high) (i.flushed.others l.session low high) (c.requires.may l.session i.some high)
