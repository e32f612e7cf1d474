use Rattle.std.proofs.Common.{ℕ, ◌<◌, ◌≤◌, ◌^◌}
use Rattle.page_model.specs.Page.{word_at}
use Rattle.disk_slots.proofs.page.are_values.Given as goal

abbrev pub invariant-loop-i : goal.invariant-loop-i
invariant-loop-i l = (k : ℕ) → k < l.i → word_at k l.node.node.pairs ≤ 2 ^ 63
