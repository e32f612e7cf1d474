use Rattle.std.proofs.Common.{ℕ, ◌<◌}
use Rattle.page_model.specs.Page.{word_at}
use Rattle.disk_slots.proofs.page.are_children.Given as goal

abbrev pub invariant-loop-i : goal.invariant-loop-i
invariant-loop-i l = (k : ℕ) → k < l.i → (0 < word_at k l.node.node.pairs) × (word_at k l.node.node.pairs < l.pages)
