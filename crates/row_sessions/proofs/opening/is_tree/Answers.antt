use Rattle.std.proofs.Common.{◌≡◌, ◌<◌, ℕ, false, not, List, Option, Some, None, length, refl, sym, ap, subst, ◌∙◌, arith}
use Rattle.page_model.specs.Page.{Page}
use Rattle.page_model.specs.Nodes.{Node}
use Rattle.page_model.specs.Tree.{IsTree}
use Rattle.page_model.specs.Check.{first_break}
use Rattle.btree_descent.specs.row_words.Moments.{format_of}
use Rattle.node_tree.specs.Nodes.{node_or, nodes_of}
use Rattle.row_opening.specs.Opened.{page_or, page_at}
use Rattle.std.specs.Prelude.{slice_get, is_some}
use Rattle.row_sessions.proofs.opening.is_tree.Goals as goal

same_node : (o : Option Page) → node_or o ≡ (page_or o).node
same_node None = refl
same_node (Some x) = refl

none_of : (o : Option ℕ) → is_some o ≡ false → o ≡ None
none_of None h = refl
none_of (Some x) h = cc

same_nodes : (pages : List Page) → nodes_of pages ≡ (λ p. (page_at pages p).node)
same_nodes pages = λ i p. same_node (slice_get pages p) i

pub returns-in_ok-first_break : goal.returns-in_ok-first_break
returns-in_ok-first_break c none =
    let pages = c.args.pages.now in
    let broken : first_break (format_of (length pages)) (nodes_of pages) ≡ None = sym c.in_ok-first_break.ensures ∙ none_of c.in_ok-first_break.field-0 (c.is_none.ensures ∙ ap not none) in
    let some : 0 < length pages = grind arith in
    subst (λ (f : ℕ → Node). IsTree (format_of (length pages)) f) (same_nodes pages) ((c.every_check.ensures (format_of (length pages)) (nodes_of pages)).sound some broken)
