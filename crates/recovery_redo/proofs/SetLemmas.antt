-- One word set back in a page in memory.
use Rattle.std.proofs.Common.{◌≡◌, ◌<◌, ◌≤◌, ◌⊎◌, ℕ, Bool, true, false, cond, ◌==◌, List, length, get_or, set, sym, ◌∙◌, ap, inl, inr, arith}
use Rattle.std.proofs.lemmas.Bool.{cases_eq, cases_lt, eq-eqb, ne_eqb, cond-true, cond-false, false_from_ne_true}
use mathlib.Core.Path.{fun_ext}
use Rattle.page_model.specs.Page.{Page, with_pairs}
use Rattle.page_model.specs.Pairs.{put}
use Rattle.page_model.specs.Nodes.{Node, holds}
use Rattle.page_model.specs.Tree.{IsTree}
use Rattle.page_model.specs.Redo.{is_some, has_key}
use Rattle.page_model.proofs.Entries.{holds_to, one_leaf, entry_at, entry_beyond}
use Rattle.disk_image.specs.image_model.Entries as model
use Rattle.disk_image.specs.image_model.Undo.{set_in}
use Rattle.disk_image.specs.Formats.{format_of}
use Rattle.node_tree.specs.Nodes.{nodes_of}
use Rattle.record_redo.specs.Pages.{page_of, pages_of, SameOwn}
use Rattle.recovery_redo.specs.Inside.{has, set_back}
use Rattle.record_redo.proofs.PageLemmas.{page_here, pages_set}
use Rattle.recovery_redo.proofs.PageLemmas.{node_at, page_beyond}

module _ (pages : List Page) (key : ℕ) (t : IsTree (format_of (length pages)) (nodes_of pages)) where
  -- the greatest number is no key
  pub none_beyond : key ≡ 18446744073709551615 → false ≡ has pages key
  none_beyond e = sym (ap is_some (entry_beyond (format_of (length pages)) (nodes_of pages) t key (omega (arith, e))))

  module _ (at : ℕ) (d : Page) (l : at < length pages) (h : holds (nodes_of pages at) key ≡ true) where
    here : nodes_of pages at ≡ (get_or pages at d).node
    here = sym (node_at pages at) ∙ ap (λ (v : model.Contents). v.node) (page_here pages at d l)

    pub holds_here : holds (get_or pages at d).node key ≡ true
    holds_here = ap (λ (v : Node). holds v key) (sym here) ∙ h

    pub has_here : (b : Bool) → b ≡ has_key key (get_or pages at d).node → b ≡ has pages key
    has_here b e = e ∙ ap (λ (v : Node). has_key key v) (sym here)
        ∙ ap is_some (sym (entry_at (format_of (length pages)) (nodes_of pages) t key at l (holds_to (nodes_of pages at) key h)))

    pub set_here : (w : ℕ) (y : Page) → y ≡ with_pairs (get_or pages at d) (put key w (get_or pages at d).node.pairs) → pages_of (set pages at y) ≡ set_back true key w (pages_of pages)
    set_here w y made = pages_set pages at y l ∙ fun_ext (λ p. go p (cases_eq p at) (cases_lt p (length pages)))
      where
        other : (p : ℕ) → holds (pages_of pages p).node key ≡ false → pages_of pages p ≡ set_back true key w (pages_of pages) p
        other p e = ap (λ (v : Node). record (pages_of pages p) { node = v }) (sym (cond-false (holds (pages_of pages p).node key) (record (pages_of pages p).node { pairs = put key w (pages_of pages p).node.pairs }) (pages_of pages p).node e))

        same : page_of y ≡ set_back true key w (pages_of pages) at
        same =
            let back : (model.Contents → model.Contents) = λ v. record v { node = set_in key w v.node } in
            ap page_of made
            ∙ ap (λ (v : Node). record (page_of (get_or pages at d)) { node = v }) (sym (cond-true (holds (get_or pages at d).node key) (record (get_or pages at d).node { pairs = put key w (get_or pages at d).node.pairs }) (get_or pages at d).node holds_here))
            ∙ ap back (sym (page_here pages at d l))

        go : (p : ℕ) → (p ≡ at) ⊎ (p ≡ at → ⊥) → (p < length pages) ⊎ (length pages ≤ p) → cond (p == at) (page_of y) (pages_of pages p) ≡ set_back true key w (pages_of pages) p
        go p (inl e) o = cond-true (p == at) (page_of y) (pages_of pages p) (eq-eqb p at e) ∙ same ∙ ap (set_back true key w (pages_of pages)) (sym e)
        go p (inr ne) (inl b) = cond-false (p == at) (page_of y) (pages_of pages p) (ne_eqb p at ne)
            ∙ other p (false_from_ne_true (holds (pages_of pages p).node key) (λ g. ne (one_leaf (format_of (length pages)) (nodes_of pages) t p at key b l
            (holds_to (nodes_of pages p) key (ap (λ (v : Node). holds v key) (sym (node_at pages p)) ∙ g)) (holds_to (nodes_of pages at) key h))))
        go p (inr ne) (inr b) = cond-false (p == at) (page_of y) (pages_of pages p) (ne_eqb p at ne) ∙ other p (ap (λ (v : model.Contents). holds v.node key) (page_beyond pages p b))

pub with_own : (v y : Page) (w : ℕ) (key : ℕ) → y ≡ with_pairs v (put key w v.node.pairs) → SameOwn v y
with_own v y w key e = record { number = ap (λ (u : Page). u.number) e; generation = ap (λ (u : Page). u.generation) e }
