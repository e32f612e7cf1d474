use Rattle.std.proofs.Common.{◌≤◌, vec_capacity}
use Rattle.transactions.specs.Sessions.{AreNew}
use Rattle.transactions.proofs.sessions.Sessions.new.Given as goal

abbrev pub invariant-loop-i : goal.invariant-loop-i
invariant-loop-i l = record {
  room : l.sessions ≤ vec_capacity l.list;
  new : AreNew l.i l.rows l.list.items;
}
