use Rattle.std.proofs.Common.{◌≡◌, ◌<◌, ◌≤◌, ℕ, length, get_or}
use Rattle.session_desks.specs.Syncs.{raised_desk}
use Rattle.session_desks.specs.declared.desk.Desk.{Desk}
use Rattle.session_desks.proofs.syncs.raise_desks.Given as goal

abbrev pub invariant-loop-at : goal.invariant-loop-at
invariant-loop-at l = record {
  count : length l.desks.items ≡ length l.fn.desks.items;
  done : (i : ℕ) (d : Desk) → i < l.at → get_or l.desks.items i d ≡ raised_desk (get_or l.fn.desks.items i d) l.number;
  rest : (i : ℕ) (d : Desk) → l.at ≤ i → get_or l.desks.items i d ≡ get_or l.fn.desks.items i d;
}
