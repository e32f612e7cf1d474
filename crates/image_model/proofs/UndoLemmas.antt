-- To set words back in the leaves is to set them back by key.
use Rattle.std.proofs.Common.{◌≡◌, ◌≤◌, ℕ, Bool, true, false, cond, List, [], ◌∷◌, Option, Some, None, refl, sym, ◌∙◌, ap, inl, inr, arith}
use Rattle.std.proofs.lemmas.Bool.{cond-false}
use Rattle.map_model.specs.Lists.{Has, upd}
use Rattle.page_model.specs.Nodes.{Format, Node}
use Rattle.page_model.specs.Tree.{IsTree, entry, value_of, word_or, lookup}
use Rattle.page_model.specs.Redo.{is_some}
use Rattle.image_model.specs.Entries.{Entry}
use Rattle.image_model.specs.Undo.{undo, set_in, undo_node, nodes_of}
use Rattle.image_model.specs.Images.{sorted, lost, redone, recovered, recovered_page}
use Rattle.image_model.specs.Laws.{EveryUndone}
use Rattle.image_model.proofs.SetLemmas.{set, set_tree, set_word, set_entries}

-- ## All that is lost

-- each lost write's key has an entry, and its word is one of a leaf
abbrev CanSet : Format → (ℕ → Node) → (Entry → Bool) → List Entry → Type 0
CanSet f node lost z = (r : Entry) → Has r z → lost r ≡ true → (is_some (entry f.pages node r.key) ≡ true) × (r.before ≤ f.dead)

undone : (f : Format) (lost : Entry → Bool) (z : List Entry) (node : ℕ → Node) → IsTree f node → CanSet f node lost z →
    IsTree f (λ p. undo_node lost z (node p)) × (lookup f (λ p. undo_node lost z (node p)) ≡ undo lost z (lookup f node))
undone f lost [] node t c = (t, refl)
undone f lost (r ∷ z) node t c = go (lost r) refl (λ next u d. undone f lost z next u d)
  where
    Goal : Bool → Type 0
    Goal b = IsTree f (λ p. undo_node lost z (cond b (set_in r.key r.before (node p)) (node p)))
        × (lookup f (λ p. undo_node lost z (cond b (set_in r.key r.before (node p)) (node p))) ≡ undo lost z (cond b (upd (lookup f node) r.key r.before) (lookup f node)))

    go : (b : Bool) → lost r ≡ b → ((next : ℕ → Node) → IsTree f next → CanSet f next lost z →
        IsTree f (λ p. undo_node lost z (next p)) × (lookup f (λ p. undo_node lost z (next p)) ≡ undo lost z (lookup f next))) → Goal b
    go false e ih = ih node t (λ x h l. c x (inr h) l)
    go true e ih =
        let here = c r (inl refl) e in
        let u = ih (set f node t r.key r.before here.0 here.1) (set_tree f node t r.key r.before here.0 here.1)
        (λ x h l. (set_entries f node t r.key r.before here.0 here.1 x.key ∙ (c x (inr h) l).0, (c x (inr h) l).1)) in
        (u.0, u.1 ∙ ap (λ (m : ℕ → ℕ). undo lost z m) (set_word f node t r.key r.before here.0 here.1))

word_value : (f : Format) (o : Option ℕ) → value_of f o ≡ value_of f (Some (word_or f.dead o))
word_value f (Some w) = refl
word_value f None = sym (cond-false (Rattle.std.proofs.Common.ltb f.dead f.dead) (Some f.dead) None (Rattle.std.proofs.lemmas.Bool.le-ltb f.dead f.dead (omega arith)))

pub every_undone : EveryUndone
every_undone i s words = record {
  tree = all.0;
  values = λ k. word_value i.format (entry i.format.pages (λ p. (recovered_page i p).node) k) ∙ ap (λ (m : ℕ → ℕ). value_of i.format (Some (m k))) all.1;
}
  where
    all : IsTree i.format (λ p. (recovered_page i p).node) × (lookup i.format (λ p. (recovered_page i p).node) ≡ recovered i)
    all = undone i.format (lost i) (sorted i) (nodes_of (redone i)) s.tree (λ r h l. (s.entries r h l, words r h l))
