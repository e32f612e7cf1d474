-- The pairs so far are as they were kept.
use Rattle.std.proofs.Common.{◌<◌, ℕ}
use Rattle.page_model.specs.Needs.{key_at}
use Rattle.page_model.specs.Page.{word_at}
use Rattle.cold_pages.specs.Compared.{IsKeptUnder}
use Rattle.cold_pages.proofs.pages.ColdPages.are_as_kept.Given as goal

abbrev pub invariant-loop-i : goal.invariant-loop-i
invariant-loop-i l = (k : ℕ) → k < l.i → IsKeptUnder l.self l.page (key_at k l.loaded.node.pairs) (word_at k l.loaded.node.pairs)
