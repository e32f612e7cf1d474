use Rattle.std.proofs.Common.{sym, subst}
use Rattle.paged_desks.specs.master_store.Masters.{IsOfSlot}
use Rattle.paged_engine.proofs.ReadyLemmas.{has_opened, ready}
use Rattle.paged_engine.proofs.opening.open.Goals as goal

-- the master is one of a slot
pub seat_sessions-requires-clause-valid : goal.seat_sessions-requires-clause-valid
seat_sessions-requires-clause-valid g c = let o = c.in-Ok.ensures.opened in subst IsOfSlot (sym o.paged.master) o.is.whole.master

pub returns-clause-opened : goal.returns-clause-opened
returns-clause-opened g c =
    let o = c.in-Ok.ensures in
    has_opened _ g.D.Disk.story c.open.new.disk (record { every = c.every_opened.ensures; reached = c.every_reached.ensures; sound = c.every_sound.ensures; numbers = c.every_begun.ensures })
    c.args.size c.requires.frames c.requires.rows (g.D.Disk.story c.args.disk) c.in-Ok.opened o.opened c.in-Ok-seat_sessions.made c.in-Ok-seat_sessions.ensures _ c.open.ensures.keeps o.mirrors
    c.every_undone.ensures c.every_own.ensures c.every_opened-2.ensures c.open.ensures.logs

pub returns-clause-ready : goal.returns-clause-ready
returns-clause-ready g c =
    let o = c.in-Ok.ensures in
    ready _ g.D.Disk.story c.open.new.disk (record { every = c.every_opened.ensures; reached = c.every_reached.ensures; sound = c.every_sound.ensures; numbers = c.every_begun.ensures })
    c.args.size c.requires.frames c.requires.rows (g.D.Disk.story c.args.disk) c.in-Ok.opened o.opened c.in-Ok-seat_sessions.made c.in-Ok-seat_sessions.ensures _ c.open.ensures.keeps o.mirrors

-- memory was refused behind an opening that met no fault
pub returns-in_default-clause-cause_disk_fault : goal.returns-in_default-clause-cause_disk_fault
returns-in_default-clause-cause_disk_fault g c =
    let e = c.open.ensures.cause_disk_fault in
    let is = c.in-Ok.is in
    record { later = e.later; cause = λ h. cc; calm = λ _. e.calm (λ h. cc) }
