use Rattle.std.proofs.Common.{◌≡◌, None, sym, ap, ◌∙◌, subst}
use Rattle.map_model.specs.declared.call.Call.TheVariants as call
use Rattle.paged_scans.specs.paged_desks.Machines.{view_of}
use Rattle.paged_scans.specs.Calls.{StandsAt, step_answer}
use Rattle.buffered_engine.specs.Inside.Parts.{MachineWent}
use Rattle.buffered_engine.specs.Inside.Scans.{scan_behind}
use Rattle.buffered_engine.specs.declared.ends.Response.{Response}
use Rattle.buffered_engine.proofs.ScanLemmas.{step_is}
use Rattle.buffered_engine.proofs.WentLemmas.{call_went, steps, steps_none}
use Rattle.buffered_engine.proofs.machine.scan_step.Goals as goal

pub returns-clause-went : goal.returns-clause-went
returns-clause-went g c =
    let m = c.args.machine.now in
    let n = c.scan_on.new.machine in
    let x = c.args.scan.now in
    let own = m.machine.work.session.own in
    let many = m.machine.work.session.workers in
    let r = c.scan_on.result in
    let e = c.scan_on.ensures in
    let story = g.D.Disk.story in
    let faults = g.D.Disk.faults in
    subst (λ (t : Response). MachineWent story faults (StandsAt own x) many own (call.Scan x.from x.to) t m n) (sym c.stepped.ensures)
    (call_went story faults (StandsAt own x) many own (call.Scan x.from x.to) step_answer (steps many x.from x.to) None m n r c.requires.ready (e.does c.requires.ready.works) (steps_none own (view_of m) (view_of n) r) e.ready e.fits e.session e.works e.come e.cause_broken e.cause_disk_fault)

pub returns-clause-behind : goal.returns-clause-behind
returns-clause-behind g c =
    let e = c.scan_on.ensures.behind in
    (subst (λ (t : Response). c.scan_on.new.scan ≡ scan_behind t.answer c.args.scan.now) (sym c.stepped.ensures) (e.0 ∙ step_is c.scan_on.result c.args.scan.now), e.1)

pub returns-clause-none : goal.returns-clause-none
returns-clause-none g c = ap (λ (t : Response). t.receipt) c.stepped.ensures
