use Rattle.std.proofs.Common.{true≢false, Some, sym, ap, ◌∙◌}
use Rattle.btree_node.proofs.SpellingLemmas.{is-page, one-page}
use Rattle.btree_node.proofs.Node.from_words.Goals as goal

pub returns-then-is_page-clause-same : goal.returns-then-is_page-clause-same
returns-then-is_page-clause-same c = λ page s. ap Some (one-page _ page s)

pub returns-else-is_page-clause-same : goal.returns-else-is_page-clause-same
returns-else-is_page-clause-same c = λ page s. absurd (true≢false (sym (c.is_page.ensures.1 (is-page _ page s)) ∙ c.if-is_page.false))

pub returns-else-is_page-clause-cause : goal.returns-else-is_page-clause-cause
returns-else-is_page-clause-cause c = λ page s. true≢false (sym (c.is_page.ensures.1 (is-page _ page s)) ∙ c.if-is_page.false)
