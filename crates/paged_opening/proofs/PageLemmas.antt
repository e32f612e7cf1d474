-- Rows may begin with the pages that recovery gives.
use Rattle.std.proofs.Common.{◌≡◌, ⊎_elim, ◌≤◌, ◌<◌, ℕ, List, length, get_or, Option, Some, None, slice_get, refl, sym, ◌∙◌, ap, subst, arith}
use Rattle.std.proofs.lemmas.Option.{slice_get_cases}
use Rattle.page_model.specs.Nodes.{Node}
use Rattle.page_model.specs.Page.{Page}
use Rattle.page_model.specs.Tree.{IsTree}
use Rattle.session_state.specs.disk_image.Formats.{format_of}
use Rattle.node_tree.specs.Nodes.{node_or, nodes_of}
use Rattle.recovery.specs.Opened.{IsWhole}
use Rattle.recovery.specs.declared.opening.Recovered.{Recovered}
use Rattle.session_state.specs.row_opening.Opened.{ArePages, page_at, page_or}

-- each page is there
at : (pages : List Page) (p : ℕ) → p < length pages → (v : Page) × (slice_get pages p ≡ Some v)
at pages p lt = ⊎_elim (λ (q : (x : Page) × (p < length pages) × (slice_get pages p ≡ Some x) × (get_or pages p x ≡ x)). (q.0, q.2))
    (λ (q : (length pages ≤ p) × (slice_get pages p ≡ None)). absurd (let low = q.0 in omega arith))
    (slice_get_cases pages p).1

pub page_is : (pages : List Page) (p : ℕ) (v : Page) → slice_get pages p ≡ Some v → page_at pages p ≡ v
page_is pages p v e = ap page_or e

node_same : (o : Option Page) → node_or o ≡ (page_or o).node
node_same None = refl
node_same (Some v) = refl

pub are_pages : (r : Recovered) → IsWhole r → ArePages r.pages.items r.master.floor
are_pages r whole = record {
  tree = subst (λ (x : ℕ → Node). IsTree (format_of (length r.pages.items)) x) (λ i p. node_same (slice_get r.pages.items p) i) (subst (λ (n : ℕ). IsTree (format_of n) (nodes_of r.pages.items)) (sym whole.count) whole.tree);
  numbers = λ p lt. let v = at r.pages.items p lt in ap (λ (x : Page). x.number) (page_is r.pages.items p v.0 v.1) ∙ whole.own p v.0 v.1;
  low = λ p lt. let v = at r.pages.items p lt in let e = ap (λ (x : Page). x.gsn) (page_is r.pages.items p v.0 v.1) in let l = whole.numbers p v.0 v.1 in omega arith;
  logs = λ p lt. let v = at r.pages.items p lt in let e = ap (λ (x : Page). x.last_log) (page_is r.pages.items p v.0 v.1) in let l = whole.logs p v.0 v.1 in omega arith;
}
