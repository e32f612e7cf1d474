use Rattle.std.proofs.Common.{None, sym, subst}
use Rattle.map_model.specs.declared.call.Call.TheVariants as call
use Rattle.paged_scans.specs.paged_desks.Calls.{OnLine}
use Rattle.paged_scans.specs.paged_desks.Machines.{view_of}
use Rattle.paged_ends.specs.Ends.{sync_answer}
use Rattle.buffered_engine.specs.Inside.Parts.{MachineWent}
use Rattle.buffered_engine.specs.declared.ends.Response.{Response}
use Rattle.buffered_engine.proofs.WentLemmas.{call_went, syncs, syncs_none}
use Rattle.buffered_engine.proofs.machine.sync.Goals as goal

pub returns : goal.returns
returns g c =
    let m = c.args.machine.now in
    let n = c.sync.new.machine in
    let r = c.sync.result in
    let e = c.sync.ensures in
    let story = g.D.Disk.story in
    let faults = g.D.Disk.faults in
    subst (λ (x : Response). MachineWent story faults OnLine 1 0 call.Sync x m n) (sym c.synced.ensures)
    (call_went story faults OnLine 1 0 call.Sync sync_answer (syncs 1) None m n r c.requires.ready (e.does c.requires.ready.works) (syncs_none 0 (view_of m) (view_of n) r) e.ready e.fits e.session e.works e.come e.cause_broken e.cause_disk_fault)
