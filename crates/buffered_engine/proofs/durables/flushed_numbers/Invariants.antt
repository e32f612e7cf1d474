use Rattle.std.proofs.Common.{◌≡◌, ◌<◌, ℕ, length}
use Rattle.group_commit.specs.Ripeness.{flushed_of}
use Rattle.paged_scans.specs.session_desks.Parts.{here}
use Rattle.paged_scans.specs.session_desks.Desks.{log_of}
use Rattle.buffered_engine.proofs.durables.flushed_numbers.Given as goal

abbrev pub invariant-loop-session : goal.invariant-loop-session
invariant-loop-session g l = record {
  count : length l.numbers ≡ 16;
  done : (w : ℕ) → 0 < w → w < l.session → flushed_of l.numbers w ≡ (log_of (here l.machine) l.machine.desks.items w).flushed;
}
