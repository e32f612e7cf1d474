use Rattle.std.proofs.Common.{◌≡◌}
use Rattle.page_calls.proofs.Knowing.{settled_first}
use Rattle.page_calls.proofs.slots.Slots.settle.Given as goal

abbrev pub invariant-loop-page : goal.invariant-loop-page
invariant-loop-page l = record {
  items : l.self-inside.slots.items ≡ settled_first l.page l.initial.self-inside.slots.items;
}
