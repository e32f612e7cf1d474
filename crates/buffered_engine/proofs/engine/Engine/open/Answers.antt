use Rattle.std.proofs.Common.{◌≡◌, ◌≤◌, ℕ, sym, ap, ◌∙◌, subst, arith}
use Rattle.paged_scans.specs.Calls.{IsIn}
use Rattle.buffered_engine.proofs.OpenLemmas.{has_opened, is_engine}
use Rattle.buffered_engine.proofs.ScanLemmas.{new_in}
use Rattle.buffered_engine.proofs.engine.Engine.open.Goals as goal

pub returns-clause-opened : goal.returns-clause-opened
returns-clause-opened g c =
    let o = c.in-Ok.opened in
    has_opened g.D.Disk.story c.every_start.ensures c.args.size (g.D.Disk.story c.args.disk) o.machine o.winners o.undone c.in-Ok.ensures.ready c.in-Ok.ensures.opened c.new-2.result (subst IsIn (sym c.new-2.ensures) (new_in 0 0 (omega arith) (omega arith))) c.in-Ok-new.unripe c.in-Ok-new.ensures

pub invariant_of-result : goal.invariant_of-result
invariant_of-result g c =
    let o = c.in-Ok.opened in
    (is_engine g.D.Disk.story c.every_start.ensures c.args.size (g.D.Disk.story c.args.disk) o.machine o.winners o.undone c.in-Ok.ensures.ready c.in-Ok.ensures.opened c.new-2.result (subst IsIn (sym c.new-2.ensures) (new_in 0 0 (omega arith) (omega arith))) c.in-Ok-new.unripe c.in-Ok-new.ensures, tt)

-- memory was refused behind an opening that met no fault
pub returns-in_default-clause-cause_disk_fault : goal.returns-in_default-clause-cause_disk_fault
returns-in_default-clause-cause_disk_fault g c =
    let faults = g.D.Disk.faults in
    let same : faults c.disk_of.result ≡ faults c.args.disk = ap faults c.disk_of.ensures ∙ c.in-Ok.ensures.no_fault in
    record { later = subst (λ (n : ℕ). faults c.args.disk ≤ n) (sym same) (omega arith); cause = λ h. absurd (cc); calm = λ _. same }
