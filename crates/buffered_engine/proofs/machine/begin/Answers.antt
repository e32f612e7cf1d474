use Rattle.std.proofs.Common.{None, sym, subst}
use Rattle.map_model.specs.declared.call.Call.TheVariants as call
use Rattle.paged_scans.specs.paged_desks.Machines.{view_of}
use Rattle.paged_ends.specs.Ends.{OnBegin, begin_answer}
use Rattle.buffered_engine.specs.Inside.Parts.{MachineWent}
use Rattle.buffered_engine.specs.declared.ends.Response.{Response}
use Rattle.buffered_engine.proofs.WentLemmas.{begins, begins_none, call_went}
use Rattle.buffered_engine.proofs.machine.begin.Goals as goal

pub returns-clause-went : goal.returns-clause-went
returns-clause-went g c =
    let m = c.args.machine.now in
    let n = c.begin.new.machine in
    let own = m.machine.work.session.own in
    let r = c.begin.result in
    let e = c.begin.ensures in
    let story = g.D.Disk.story in
    let faults = g.D.Disk.faults in
    subst (λ (x : Response). MachineWent story faults (OnBegin own c.args.is_long) 1 own call.Begin x m n) (sym c.begun.ensures)
    (call_went story faults (OnBegin own c.args.is_long) 1 own call.Begin begin_answer (begins 1) None m n r c.requires.ready (e.does c.requires.ready.works) (begins_none own (view_of m) (view_of n) r) e.ready e.fits e.session e.works e.come e.cause_broken e.cause_disk_fault)
