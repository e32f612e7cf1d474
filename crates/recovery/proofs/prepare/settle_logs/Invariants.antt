use Rattle.std.proofs.Common.{◌≡◌, ◌<◌, ℕ}
use Rattle.recovery.specs.Inside.{HasSettled, OnlySettles}
use Rattle.recovery.proofs.prepare.settle_logs.Given as goal

abbrev pub invariant-loop-log : goal.invariant-loop-log
invariant-loop-log g l =
    let s0 = g.D.Disk.story l.fn.disk in
    let s = g.D.Disk.story l.disk in
    record {
      settles : OnlySettles l.logs s0 s;
      same : (a : ℕ) → a < 2 → s.area a ≡ s0.area a;
      each : HasSettled l.log s0 s;
      faults : g.D.Disk.faults l.disk ≡ g.D.Disk.faults l.fn.disk;
    }
