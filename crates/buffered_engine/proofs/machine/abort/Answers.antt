use Rattle.std.proofs.Common.{sym, subst}
use Rattle.map_model.specs.declared.call.Call.TheVariants as call
use Rattle.paged_scans.specs.paged_desks.Calls.{CallDoes, OnLine}
use Rattle.paged_aborts.specs.Aborts.{abort_answer}
use Rattle.buffered_engine.specs.Inside.Asks.{IsDue, receipt_in}
use Rattle.buffered_engine.specs.Inside.Parts.{MachineWent}
use Rattle.buffered_engine.specs.declared.ends.Response.{Response}
use Rattle.buffered_engine.proofs.AbortLemmas.{asked_does, due_does}
use Rattle.buffered_engine.proofs.WentLemmas.{abort_ends, aborts, call_went}
use Rattle.buffered_engine.proofs.machine.abort.Goals as goal

pub returns-clause-went : goal.returns-clause-went
returns-clause-went g c =
    let m = c.args.machine.now in
    let n = c.abort.new.machine in
    let own = m.machine.work.session.own in
    let r = c.abort.result in
    let e = c.abort.ensures in
    let story = g.D.Disk.story in
    let faults = g.D.Disk.faults in
    subst (λ (x : Response). MachineWent story faults OnLine 1 own call.Abort x m n) (sym c.aborted.ensures)
    (call_went story faults OnLine 1 own call.Abort abort_answer (aborts 1) (receipt_in own r) m n r c.requires.ready (asked_does story own m.machine.work.session.is_open (abort_answer r) m n (e.does c.requires.ready.works)) (abort_ends story m n e.ready e.turn r e.works e.receipt) e.ready e.fits e.session e.works e.come e.cause_broken e.cause_disk_fault)

pub returns-clause-due : goal.returns-clause-due
returns-clause-due g c is_open h =
    let m = c.args.machine.now in
    let n = c.abort.new.machine in
    let own = m.machine.work.session.own in
    subst (λ (x : Response). CallDoes g.D.Disk.story (IsDue own h) own h x.answer m n) (sym c.aborted.ensures) (due_does g.D.Disk.story own m.machine.work.session.is_open (abort_answer c.abort.result) m n (c.abort.ensures.does c.requires.ready.works) is_open h)
