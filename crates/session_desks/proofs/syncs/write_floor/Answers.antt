use Rattle.std.proofs.Common.{subst}
use Rattle.session_state.specs.disk_slots.declared.master.Master.{Master}
use Rattle.session_state.specs.log_calls.Syncs.{SyncsOn}
use Rattle.session_desks.specs.Syncs.{IsWriting}
use Rattle.session_desks.proofs.syncs.write_floor.Goals as goal

pub returns-clause-next : goal.returns-clause-next
returns-clause-next g c = λ n.
    (subst (λ (m : Master). SyncsOn m (g.D.Disk.story c.args.disk.now) (g.D.Disk.story c.sync_master.new.disk)) c.next_master-next.ensures (c.sync_master.ensures.stands c.in-Done.is), c.next_master-next.ensures)

pub returns-clause-any_moment : goal.returns-clause-any_moment
returns-clause-any_moment g c =
    let e = c.sync_master.ensures in
    λ _. subst (λ (m : Master). IsWriting m (g.D.Disk.story c.args.disk.now) (g.D.Disk.story c.sync_master.new.disk)) c.next_master-next.ensures (record { either = e.any_moment; frame = e.frame; within = e.within })

pub returns-in_default-clause-any_moment : goal.returns-in_default-clause-any_moment
returns-in_default-clause-any_moment g c =
    let e = c.sync_master.ensures in
    λ _. subst (λ (m : Master). IsWriting m (g.D.Disk.story c.args.disk.now) (g.D.Disk.story c.sync_master.new.disk)) c.next_master-next.ensures (record { either = e.any_moment; frame = e.frame; within = e.within })
