use Rattle.std.proofs.Common.{◌≡◌, ◌≤◌, ◌<◌, ◌+◌, false, List, length}
use Rattle.btree_descent.specs.row_words.declared.event.Event.{Event}
use Rattle.btree_descent.specs.rows_trait.Turns.{Ran}
use Rattle.shared_peeks.specs.Peeked.{CanPeek, ArePeeks}
use Rattle.shared_peeks.proofs.peeks.peek_keys.Given as goal

abbrev pub invariant-loop-key : goal.invariant-loop-key
invariant-loop-key l = record {
  can : CanPeek l.rows l.frames l.desk;
  worker : l.desk.worker ≡ l.initial.desk.worker;
  low : 1 ≤ l.key;
  high : l.key ≤ 61;
  less : l.desk.good < l.key;
  made : (es : List Event) × Ran false l.initial.desk.seat.me.0 es l.desk.seat.me.0 × (l.desk.good + 1 ≡ l.key → ArePeeks l.initial.desk.worker 1 es × (length es + 1 ≡ l.key));
}
