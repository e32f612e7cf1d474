use Rattle.std.proofs.Common.{sym, refl, subst}
use Rattle.session_state.specs.Staging.{KeepsLog}
use Rattle.session_desks.specs.Parts.{here, in_store, shape}
use Rattle.session_desks.specs.Desks.{log_of}
use Rattle.session_desks.specs.Machines.{AreDesks}
use Rattle.session_desks.specs.Syncs.{FlushedOne}
use Rattle.session_desks.specs.declared.desk.Desk.{Desk}
use Rattle.session_desks.proofs.FlushOnes.{flushed_one, from_turn, may_is, on_ok, same, still_same}
use Rattle.session_desks.proofs.MachineLemmas.{machine_behind}
use Rattle.session_desks.proofs.SeatLemmas.{holds_of}
use Rattle.session_desks.proofs.machine.Machine.flush_one.Goals as goal

pub flush_own-requires-clause-holds : goal.flush_own-requires-clause-holds
flush_own-requires-clause-holds g c κs within =
    let t = c.turn_to.new.self in
    holds_of (shape t) t.seat.view (here t) t.desks.items c.turn_to.ensures.machine.desks

pub returns-clause-machine : goal.returns-clause-machine
returns-clause-machine g c =
    let t = c.turn_to.new.self in
    let n = c.flush_own.new in
    let e = c.flush_own.ensures in
    let x : Desk = here t in
    let y : Desk = in_store n.work in
    let s = c.args.self.now in
    let old : Desk = here s in
    on_ok c.flush_own.result e.holds e.flushes e.works (λ h f w.
    machine_behind c.every_other.ensures t.rows.frames t.rows.locks t.rows.workers n.rows.frames n.rows.locks n.rows.workers t.rows.words.items n.rows.words.items t.seat.view n.seat.view x y t.desks.items t.latches t.latches t.master
    c.turn_to.ensures.machine e.fits.1 e.fits.0 w
    (same (shape s) t.seat.view n.seat.view c.args.session old x y s.desks.items t.desks.items (subst (λ k. AreDesks (shape s) k old s.desks.items) (sym c.turn_to.ensures.same.0) c.requires.machine.desks) c.requires.session.0 c.requires.session.1 c.turn_to.ensures.turned
    (g.D.Disk.story t.work.disk) (g.D.Disk.story n.work.disk) f) f.steps h (refl {a = t.latches}))

pub returns-clause-still : goal.returns-clause-still
returns-clause-still g c =
    let t = c.turn_to.new.self in
    let n = c.flush_own.new in
    let e = c.flush_own.ensures in
    let x : Desk = here t in
    let y : Desk = in_store n.work in
    let s = c.args.self.now in
    let old : Desk = here s in
    on_ok c.flush_own.result e.holds e.flushes e.works (λ h f w.
    still_same (shape s) t.seat.view n.seat.view c.args.session old x y s.desks.items t.desks.items (subst (λ k. AreDesks (shape s) k old s.desks.items) (sym c.turn_to.ensures.same.0) c.requires.machine.desks) c.requires.session.0 c.requires.session.1 c.turn_to.ensures.turned
    (g.D.Disk.story t.work.disk) (g.D.Disk.story n.work.disk) f)

pub returns-clause-flushed : goal.returns-clause-flushed
returns-clause-flushed g c =
    let t = c.turn_to.new.self in
    let n = c.flush_own.new in
    let e = c.flush_own.ensures in
    let x : Desk = here t in
    let y : Desk = in_store n.work in
    let s = c.args.self.now in
    let old : Desk = here s in
    on_ok c.flush_own.result e.holds e.flushes e.works (λ h f w.
    subst (λ d. FlushedOne c.args.session s.work.session.workers s.seat.view n.seat.view (log_of old s.desks.items) (log_of y t.desks.items) (g.D.Disk.story d) (g.D.Disk.story n.work.disk)) c.turn_to.ensures.same.1
    (subst (λ k. FlushedOne c.args.session s.work.session.workers k n.seat.view (log_of old s.desks.items) (log_of y t.desks.items) (g.D.Disk.story t.work.disk) (g.D.Disk.story n.work.disk)) c.turn_to.ensures.same.0
    (flushed_one (shape s) t.seat.view n.seat.view c.args.session old x y s.desks.items t.desks.items (subst (λ k. AreDesks (shape s) k old s.desks.items) (sym c.turn_to.ensures.same.0) c.requires.machine.desks) c.requires.session.0 c.requires.session.1 c.turn_to.ensures.turned
    (g.D.Disk.story t.work.disk) (g.D.Disk.story n.work.disk) f)))

pub returns-clause-keeps : goal.returns-clause-keeps
returns-clause-keeps g c =
    let t = c.turn_to.new.self in
    let n = c.flush_own.new in
    let x : Desk = here t in
    let s = c.args.self.now in
    let old : Desk = here s in
    subst (λ d. KeepsLog c.args.session (log_of old s.desks.items c.args.session) (g.D.Disk.story d) (g.D.Disk.story n.work.disk)) c.turn_to.ensures.same.1
    (from_turn (shape s) s.seat.view s.seat.view c.args.session old x x s.desks.items t.desks.items c.requires.machine.desks c.requires.session.0 c.requires.session.1 c.turn_to.ensures.turned
    (λ o l. KeepsLog o l (g.D.Disk.story t.work.disk) (g.D.Disk.story n.work.disk)) c.flush_own.ensures.keeps)

pub flush_own-requires-clause-room : goal.flush_own-requires-clause-room
flush_own-requires-clause-room g c κs within =
    let t = c.turn_to.new.self in
    let x : Desk = here t in
    let s = c.args.self.now in
    let old : Desk = here s in
    may_is (shape s) s.seat.view s.seat.view c.args.session old x x s.desks.items t.desks.items c.requires.machine.desks c.requires.session.0 c.requires.session.1 c.turn_to.ensures.turned c.requires.may
