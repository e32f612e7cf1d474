use Rattle.std.proofs.Common.{ℕ, sym, subst}
use Rattle.recovery_scan.specs.Scans.{AreOfLogs}
use Rattle.bench.proofs.recovery.redo.Goals as goal

pub recover_pages-requires-clause-of_logs : goal.recover_pages-requires-clause-of_logs
recover_pages-requires-clause-of_logs c = subst (λ (n : ℕ). AreOfLogs n c.args.index.now) (sym c.logs-logs.ensures.answer) c.requires.of_logs
