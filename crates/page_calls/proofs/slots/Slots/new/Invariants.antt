use Rattle.std.proofs.Common.{◌≡◌, ◌≤◌, length, vec_capacity}
use Rattle.page_calls.proofs.Knowing.{opened_first}
use Rattle.page_calls.proofs.slots.Slots.new.Given as goal

abbrev pub invariant-loop-page : goal.invariant-loop-page
invariant-loop-page l = record {
  items : l.slots.items ≡ opened_first l.page l.firm;
  count : length l.slots.items ≡ l.page;
  room : length l.firm ≤ vec_capacity l.slots;
}
