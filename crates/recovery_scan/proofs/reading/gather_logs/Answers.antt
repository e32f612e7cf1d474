use Rattle.std.proofs.Common.{◌≡◌, ◌≤◌, ◌+◌, ◌*◌, suc, length, ◌∙◌, arith}
use Rattle.lean_disk.proofs.MomentLemmas.{reads_then}
use Rattle.lean_disk.specs.Story.{Tells, areas_of}
use Rattle.log_index.specs.Items.{held}
use Rattle.recovery_scan.specs.Inside.{IsScan}
use Rattle.recovery_scan.proofs.LogLemmas.{next_log, next_of_logs, next_bad}
use Rattle.recovery_scan.proofs.reading.gather_logs.Goals as goal

pub loop-log-preserved : goal.loop-log-preserved
loop-log-preserved g c =
    let s0 = g.D.Disk.story c.args.disk.now in
    let s = g.D.Disk.story c.loop-log.disk in
    let s1 = g.D.Disk.story c.scan_area.new.disk in
    let inv = c.loop-log.invariant in
    let m = c.args.master.now in
    let n = c.loop-log.log in
    let more : held c.scan_area.new.index ≤ held c.loop-log.index + 2000 * 4096 = c.in-Ok.ensures.size in
    let so_far : held c.loop-log.index ≤ 2000 * 4096 * n = inv.size in
    let next : n + 1 ≡ suc n = omega arith in
    let within : n + 1 ≤ length m.heads = omega (arith, c.loop-log-test.true, c.logs.ensures.answer) in
    record {
      within = within;
      reads = reads_then s0 s s1 inv.reads c.scan_area.ensures.reads;
      faults = c.scan_area.ensures.cause_disk_fault.calm (λ e. cc) ∙ inv.faults;
      size = omega (arith, more, so_far);
      logs = next_of_logs n (n + 1) next c.loop-log.index c.scan_area.new.index (λ added. Tells s (suc (n + 1)) → IsScan m (n + 1) (areas_of s) added) inv.logs c.in-Ok.ensures.found;
      found = next_log m s0 s n (n + 1) next c.loop-log.index c.scan_area.new.index within inv.reads inv.found c.in-Ok.ensures.found;
    }

pub returns-in-Err-clause-cause_damaged : goal.returns-in-Err-clause-cause_damaged
returns-in-Err-clause-cause_damaged g c w place same =
    let s0 = g.D.Disk.story c.args.disk.now in
    let s = g.D.Disk.story c.loop-log.disk in
    let m = c.args.master.now in
    let within : c.loop-log.log + 1 ≤ length m.heads = omega (arith, c.loop-log-test.true, c.logs.ensures.answer) in
    let bad = c.scan_area.ensures.cause_damaged w place (c.in-Err.is ∙ same) in
    let is : w ≡ c.loop-log.log + 1 = bad.0 in
    (omega (arith, is), omega (arith, is, within), next_bad m s0 s w place c.loop-log.invariant.reads bad.1)
