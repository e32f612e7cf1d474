use Rattle.std.proofs.Common.{◌≢◌, ◌<◌, ◌+◌, ◌^◌, ℕ}
use Rattle.page_model.specs.Limits.{frame_bit}
use Rattle.page_model.specs.Page.{word_at}
use Rattle.row_image.proofs.sight.Sight.hot_child.Given as goal

abbrev pub invariant-loop-i : goal.invariant-loop-i
invariant-loop-i l = (j f : ℕ) → j < l.i → f < 2 ^ 32 → word_at j l.self.node.node.pairs ≢ frame_bit + f
