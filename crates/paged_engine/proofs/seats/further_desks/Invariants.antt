use Rattle.std.proofs.Common.{◌≡◌, ◌≤◌, ◌+◌, ℕ, length, slice_get, Some, vec_capacity}
use Rattle.paged_engine.specs.Openings.{IsFurther}
use Rattle.paged_desks.specs.session_desks.declared.desk.Desk.{Desk}
use Rattle.paged_engine.proofs.seats.further_desks.Given as goal

abbrev pub invariant-loop-number : goal.invariant-loop-number
invariant-loop-number l = record {
  count : length l.desks.items + 2 ≡ l.number;
  each : (at : ℕ) (desk : Desk) → slice_get l.desks.items at ≡ Some desk → IsFurther l.master l.first (at + 2) desk;
  room : l.first.workers ≤ vec_capacity l.desks;
}
