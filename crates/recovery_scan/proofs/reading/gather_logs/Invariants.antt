use Rattle.std.proofs.Common.{◌≡◌, ◌≤◌, ◌-◌, ◌*◌, length}
use Rattle.lean_disk.specs.Moments.{OnlyReads}
use Rattle.lean_disk.specs.Story.{areas_of}
use Rattle.log_index.specs.Items.{held}
use Rattle.recovery_scan.specs.Scans.{AreOfLogs, TellsLogs}
use Rattle.recovery_scan.specs.Inside.{IsGathered}
use Rattle.recovery_scan.proofs.reading.gather_logs.Given as goal

abbrev pub decreases-loop-log : goal.decreases-loop-log
decreases-loop-log g l = length l.master.heads - l.log

abbrev pub invariant-loop-log : goal.invariant-loop-log
invariant-loop-log g l =
    let s0 = g.D.Disk.story l.fn.disk in
    let s = g.D.Disk.story l.disk in
    record {
      within : l.log ≤ length l.master.heads;
      reads : OnlyReads s0 s;
      faults : g.D.Disk.faults l.disk ≡ g.D.Disk.faults l.fn.disk;
      size : held l.index ≤ 2000 * 4096 * l.log;
      logs : AreOfLogs l.log l.index;
      found : TellsLogs l.master s0 → IsGathered l.master (areas_of s0) l.log l.index;
    }
