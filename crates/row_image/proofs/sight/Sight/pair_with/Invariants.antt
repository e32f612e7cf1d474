use Rattle.std.proofs.Common.{◌≢◌, ◌<◌, ℕ}
use Rattle.page_model.specs.Page.{word_at}
use Rattle.row_image.proofs.sight.Sight.pair_with.Given as goal

abbrev pub invariant-loop-i : goal.invariant-loop-i
invariant-loop-i l = (j : ℕ) → j < l.i → word_at j l.self.node.node.pairs ≢ l.word
