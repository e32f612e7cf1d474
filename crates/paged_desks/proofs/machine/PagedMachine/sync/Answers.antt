use Rattle.std.proofs.Common.{refl, subst, ℕ, ◌<◌, ◌≤◌, sym}
use Rattle.desk_parts.specs.session_desks.Parts.{here, shape}
use Rattle.desk_parts.proofs.session_desks.SeatLemmas.{turn_high, turn_low}
use Rattle.paged_desks.specs.Machines.{view_of}
use Rattle.paged_desks.proofs.Breaking.{not_synced}
use Rattle.paged_desks.proofs.Syncing.{ready_synced, synced_is}
use Rattle.paged_desks.proofs.machine.PagedMachine.sync.Goals as goal

pub turn_to-requires-clause-session : goal.turn_to-requires-clause-session
turn_to-requires-clause-session g c κs within =
    let m = c.args.self.now in
    let are = c.requires.ready.sound.desks in
    let own = m.machine.work.session.own in
    let most = c.sync_all.new.self.work.session.workers in
    let r : (0 < own) × (own ≤ most) = (turn_low (shape m.machine) (view_of m) (here m.machine) m.machine.desks.items are, subst (λ (n : ℕ). own ≤ n) (sym c.in_ok-number.ensures.session.0) (turn_high (shape m.machine) (view_of m) (here m.machine) m.machine.desks.items are)) in r

pub returns-clause-ready : goal.returns-clause-ready
returns-clause-ready g c _ =
    let e = c.in_ok-number.ensures in
    let t = c.turn_to.ensures in
    ready_synced g.D.Disk.story c.laws.ensures.reached c.laws.ensures.needs c.laws.ensures.sync c.args.self.now c.sync_all.new.self c.turn_to.new.self c.in_ok-number.number c.requires.ready e.made e.sessions e.session.0 e.session.1 t.turned t.same.0 t.same.1 t.same.2 t.same.3 (c.every_disk_part.ensures.syncs c.args.self.now.machine.work.disk c.sync_all.new.self.work.disk) t.machine t.works

pub returns-clause-synced : goal.returns-clause-synced
returns-clause-synced g c =
    let e = c.in_ok-number.ensures in
    let t = c.turn_to.ensures in
    synced_is g.D.Disk.story c.laws.ensures.reached c.laws.ensures.needs c.laws.ensures.sync c.args.self.now c.sync_all.new.self c.turn_to.new.self c.in_ok-number.number c.requires.ready e.made e.sessions e.session.0 e.session.1 t.turned t.same.0 t.same.1 t.same.2 t.same.3 (c.every_disk_part.ensures.syncs c.args.self.now.machine.work.disk c.sync_all.new.self.work.disk)

pub returns-in_err-number-clause-failed : goal.returns-in_err-number-clause-failed
returns-in_err-number-clause-failed g c _ =
    let e = c.in_err-number.ensures in
    not_synced g.D.Disk.story c.args.self.now c.sync_all.new.self c.requires.ready (c.every_disk_part.ensures.syncs c.args.self.now.machine.work.disk c.sync_all.new.self.work.disk) (e.failed refl) e.session e.fits
