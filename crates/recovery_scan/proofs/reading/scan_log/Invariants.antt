use Rattle.std.proofs.Common.{◌≡◌, ◌≤◌, ◌-◌, ◌+◌, ◌*◌, suc, length}
use Rattle.lean_disk.specs.Moments.{OnlyReads}
use Rattle.lean_disk.specs.Story.{Tells}
use Rattle.log_index.specs.Items.{held}
use Rattle.recovery_scan.specs.Inside.{IsGoing, Joined}
use Rattle.recovery_scan.proofs.reading.scan_log.Given as goal

abbrev pub decreases-loop-count : goal.decreases-loop-count
decreases-loop-count g l = l.master.blocks - l.count

abbrev pub invariant-loop-count : goal.invariant-loop-count
invariant-loop-count g l =
    let s0 = g.P.Part.story l.fn.dev in
    let s = g.P.Part.story l.dev in
    record {
      within : l.count ≤ l.master.blocks;
      room : length l.buffer ≡ 2048;
      reads : OnlyReads s0 s;
      seat : g.P.Part.seat l.dev ≡ g.P.Part.seat l.fn.dev;
      faults : g.P.Part.faults l.dev ≡ g.P.Part.faults l.fn.dev;
      size : held l.index ≤ held l.fn.index + 2000 * l.count;
      going : Joined l.log l.fn.index l.index (λ added. Tells s0 (suc l.log) → IsGoing l.master l.log (s0.area (suc l.log)).bytes l.count added);
    }
