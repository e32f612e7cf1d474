-- To set the word of a key that has an entry leaves a tree, and changes that word alone.
use Rattle.std.proofs.Common.{◌≡◌, ◌<◌, ◌≤◌, ℕ, true, ◌==◌, Some, None, refl, sym, ◌∙◌, ap, subst, inl, inr, true≢false}
use Rattle.std.proofs.lemmas.Bool.{cases_eq, cases_lt, eq-eqb, ne_eqb, cond-true, cond-false, false_from_ne_true}
use mathlib.Core.Path.{fun_ext}
use Rattle.map_model.specs.Lists.{upd}
use Rattle.page_model.specs.Pairs.{put}
use Rattle.page_model.specs.Nodes.{Format, Node, holds}
use Rattle.page_model.specs.Tree.{IsTree, entry, word_or, lookup}
use Rattle.page_model.specs.Records as records
use Rattle.page_model.specs.Laws.{RecordLaws}
use Rattle.page_model.specs.Records.{write_record}
use Rattle.page_model.specs.Redo.{is_some}
use Rattle.page_model.proofs.Tree.{leaf_of}
use Rattle.page_model.proofs.Entries.{LeafWith, holds_to, holds_from, one_leaf, entry_at, entry_beyond}
use Rattle.page_model.proofs.Laws.{every_record}
use Rattle.image_model.specs.Undo.{set_in}
use Rattle.page_model.proofs.Same.{entry_same, tree_same}
use Rattle.page_model.specs.Fits.{Fits}

module _ (f : Format) (node : ℕ → Node) (t : IsTree f node) (k w : ℕ) (entered : is_some (entry f.pages node k) ≡ true) (word : w ≤ f.dead) where
  abbrev pub set : ℕ → Node
  set p = set_in k w (node p)

  not_none : entry f.pages node k ≡ None → ⊥
  not_none e = true≢false (sym entered ∙ ap is_some e)

  low : k < f.top
  low = elim (cases_lt k f.top) [ inl l ↦ l | inr g ↦ absurd (not_none (entry_beyond f node t k g)) ]

  leaf : (p : ℕ) × (p < f.pages) × LeafWith (node p) k
  leaf = let x = leaf_of f node t k low in (x.0, x.1, record { lies = x.2; leaf = x.3 })

  abbrev r : records.Record
  r = write_record records.Kind.Put_back f node (λ _. 0) leaf.0 k w

  fits : Fits f node r
  fits = let l = leaf.2 in record {
    write = record { page = leaf.1; live = l.lies.live; leaf = l.leaf; within = (l.lies.low, l.lies.high); before = refl; after = word };
    entry = λ e. not_none (entry_at f node t k leaf.0 leaf.1 l ∙ e);
  }

  laws : RecordLaws f node r
  laws = every_record f node r t fits

  same : (p : ℕ) → p < f.pages → records.after node r p ≡ set p
  same p l = elim (cases_eq p leaf.0) [
    | inl e ↦ cond-true (p == leaf.0) (record (node p) { pairs = put k w (node p).pairs }) (node p) (eq-eqb p leaf.0 e)
        ∙ sym (cond-true (holds (node p) k) (record (node p) { pairs = put k w (node p).pairs }) (node p) (holds_from (node p) k (subst (λ i. LeafWith (node i) k) (sym e) leaf.2)))
    | inr n ↦ cond-false (p == leaf.0) (record (node p) { pairs = put k w (node p).pairs }) (node p) (ne_eqb p leaf.0 n)
        ∙ sym (cond-false (holds (node p) k) (record (node p) { pairs = put k w (node p).pairs }) (node p)
        (false_from_ne_true (holds (node p) k) (λ h. n (one_leaf f node t p leaf.0 k l leaf.1 (holds_to (node p) k h) leaf.2))))
  ]

  pub set_tree : IsTree f set
  set_tree = tree_same f (records.after node r) set laws.tree same

  set_on : entry f.pages set k ≡ Some w
  set_on = sym (entry_same f.pages (records.after node r) set k same) ∙ laws.entered k (eq-eqb k k refl)

  set_off : (q : ℕ) → (q ≡ k → ⊥) → entry f.pages set q ≡ entry f.pages node q
  set_off q n = sym (entry_same f.pages (records.after node r) set q same) ∙ laws.kept q (ne_eqb k q (λ e. n (sym e))) refl

  pub set_word : lookup f set ≡ upd (lookup f node) k w
  set_word = fun_ext (λ q. elim (cases_eq q k) [
    | inl e ↦ ap (λ i. lookup f set i) e ∙ (ap (word_or f.dead) set_on ∙ sym (cond-true (q == k) w (lookup f node q) (eq-eqb q k e)))
    | inr n ↦ ap (word_or f.dead) (set_off q n) ∙ sym (cond-false (q == k) w (lookup f node q) (ne_eqb q k n))
  ])

  -- keys have entries as before
  pub set_entries : (q : ℕ) → is_some (entry f.pages set q) ≡ is_some (entry f.pages node q)
  set_entries q = elim (cases_eq q k) [
    | inl e ↦ ap (λ i. is_some (entry f.pages set i)) e ∙ (ap is_some set_on ∙ sym (ap (λ i. is_some (entry f.pages node i)) e ∙ entered))
    | inr n ↦ ap is_some (set_off q n)
  ]
