-- What changes of pages keep, and the nodes of pages.
use Rattle.std.proofs.Common.{◌≡◌, ◌<◌, ◌≤◌, ℕ, Bool, false, List, length, get_or, Option, Some, None, slice_get, refl, ◌∙◌, ap, subst, arith}
use Rattle.std.proofs.lemmas.Option.{slice_get-get_or, slice_get_past, slice_get_within}
use Rattle.page_model.specs.Page.{Page}
use Rattle.node_tree.specs.Nodes.{nodes_of}
use Rattle.record_redo.specs.Pages.{page_or, pages_of, Keeps}
use Rattle.record_redo.proofs.PageLemmas.{keeps_both}
use Rattle.recovery_redo.specs.Recoveries.{KeepsOwn}

-- beyond the last there are free ones
pub page_beyond : (pages : List Page) (p : ℕ) → length pages ≤ p → pages_of pages p ≡ page_or None
page_beyond pages p l = ap page_or (slice_get_past pages p l)

pub node_at : (pages : List Page) (p : ℕ) → (pages_of pages p).node ≡ nodes_of pages p
node_at pages p = go (slice_get pages p)
  where
    go : (o : Option Page) → (page_or o).node ≡ Rattle.node_tree.specs.Nodes.node_or o
    go (Some x) = refl
    go None = refl

some_before : (before after : List Page) → length after ≡ length before → (p : ℕ) (y : Page) → slice_get after p ≡ Some y → (x : Page) × (slice_get before p ≡ Some x)
some_before before after e p y h =
    let l : p < length before = omega (arith, slice_get_within after p y h, e) in
    (get_or before p y, slice_get-get_or before p y l)

-- two changes keep numbers and generations
pub own_both : (a b c : List Page) (m n o q : List Bool) → Keeps a b m n → Keeps b c o q → KeepsOwn a c
own_both a b c m n o q f g = record {
  count = g.count ∙ f.count;
  number = λ p x z h k. (let y = some_before b c g.count p z k in (g.own p y.0 z y.1 k).number ∙ (f.own p x y.0 h y.1).number);
  generation = λ p x z h k. (let y = some_before b c g.count p z k in (g.own p y.0 z y.1 k).generation ∙ (f.own p x y.0 h y.1).generation);
}

-- a page that the second does not mark is as it was before the first
pub same_both : (a b c : List Page) (m n o q : List Bool) → o ≡ n → Keeps a b m n → Keeps b c o q → (p : ℕ) → get_or q p false ≡ false → slice_get c p ≡ slice_get a p
same_both a b c m n o q e f g p h = (keeps_both a b c m n q f (subst (λ (ms : List Bool). Keeps b c ms q) e g)).same p h
