use Rattle.std.proofs.Common.{◌≡◌, ◌<◌, ℕ, get_or}
use Rattle.row_sessions.specs.Standing.{HoldsRow, Stands}
use Rattle.row_sessions.proofs.sessions.Sessions.next.Given as goal

abbrev pub invariant-loop-taken : goal.invariant-loop-taken
invariant-loop-taken l = record {
  stands : Stands l.self;
  same : l.self.rows.workers ≡ l.fn.self.rows.workers;
  held : (i : ℕ) → i < l.taken-index → HoldsRow l.self l.worker (get_or l.keys i 0);
}
