-- Undo, one record more at a time.
use Rattle.std.proofs.Common.{◌≡◌, ◌<◌, ◌≤◌, ◌⊎◌, ◌^◌, ℕ, suc, Bool, true, false, cond, ◌||◌, not, List, length, get_or, take, refl, sym, ◌∙◌, ap, subst, inl, inr, arith, true≢false}
use Rattle.std.proofs.lemmas.Bool.{cases_eq, and_parts}
use Rattle.std.proofs.lemmas.List.{get_or_default}
use Rattle.std.specs.BTreeSet.{BTreeSet}
use Rattle.page_model.specs.Page.{Page}
use Rattle.page_model.specs.Nodes.{Node, holds}
use Rattle.page_model.specs.Tree.{IsTree, entry}
use Rattle.page_model.specs.Redo.{is_some}
use Rattle.disk_image.specs.image_model.Entries as model
use Rattle.disk_image.specs.image_model.Entries.{Entry}
use Rattle.disk_image.specs.image_model.Undo.{set_in, undo_node}
use Rattle.disk_image.specs.Formats.{format_of}
use Rattle.node_tree.specs.Nodes.{nodes_of}
use Rattle.log_index.specs.Items.{Item}
use Rattle.record_redo.specs.Pages.{pages_of, Keeps, MarksFor}
use Rattle.recovery_scan.specs.Records.{entry_of, entries_of}
use Rattle.recovery_redo.specs.Inside.{lost_by, AreWords, has, set_back, IsUndone, LacksAt, is_leaf_of, SameNumbers}
use Rattle.recovery_redo.proofs.LogLemmas.{entries_at, entries_all, has_entry_of}
use Rattle.record_redo.proofs.PageLemmas.{keeps_all, keeps_both, marks_none}
use Rattle.recovery_redo.proofs.PageLemmas.{node_at}
use Rattle.recovery_redo.proofs.MarkLemmas.{holds_same, leaves_more}
use Rattle.disk_image.proofs.image_model.SetLemmas.{set_tree, set_entries}
use Rattle.page_model.proofs.Same.{tree_same, entry_same}

-- the last records are undone, and the pages are still a tree with the same keys
pub record IsUndoing (start now : List Page) (was marks : List Bool) (items : List Item) (counted : List Bool) (ended : List (BTreeSet ℕ)) (left : ℕ) : Type 0 where
  pub within : left ≤ length items
  pub undone : IsUndone start now items counted ended left
  pub tree : IsTree (format_of (length now)) (nodes_of now)
  pub keys : (q : ℕ) → has now q ≡ has start q
  pub kept : Keeps start now was marks
  pub fences : (p q : ℕ) → holds (nodes_of now p) q ≡ holds (nodes_of start p) q
  pub only : MarksFor (is_leaf_of (entries_of items) (nodes_of start)) was marks
  pub numbers : SameNumbers start now

pub undone_none : (start : List Page) (marks : List Bool) (items : List Item) (counted : List Bool) (ended : List (BTreeSet ℕ)) → IsTree (format_of (length start)) (nodes_of start) → IsUndoing start start marks marks items counted ended (length items)
undone_none start marks items counted ended t = record {
  within = omega arith;
  undone = record {
    pages = λ lost tells p. ap (λ (z : List Entry). record (pages_of start p) { node = undo_node lost z (pages_of start p).node }) (entries_all items);
    has_each = λ k x low high is lost. absurd (omega arith);
  };
  tree = t;
  keys = λ q. refl;
  kept = keeps_all start marks;
  fences = λ p q. refl;
  only = marks_none (is_leaf_of (entries_of items) (nodes_of start)) marks;
  numbers = record { at = λ p. refl };
}

not_or : (a b : Bool) → true ≡ (not a || b) → a ≡ true → b ≡ true
not_or true b e h = sym e
not_or false b e h = absurd (true≢false (sym h))

neither : (a b : Bool) → false ≡ (not a || b) → (a ≡ true) × (b ≡ false)
neither true b e = (refl, sym e)
neither false b e = absurd (true≢false (sym e))

-- a word set back, or not, in a tree
module _ (pages next : List Page) (key w : ℕ) (t : IsTree (format_of (length pages)) (nodes_of pages)) (long : length next ≡ length pages) where
  nodes_next : (b : Bool) → pages_of next ≡ set_back b key w (pages_of pages) → (p : ℕ) → cond b (set_in key w (nodes_of pages p)) (nodes_of pages p) ≡ nodes_of next p
  nodes_next b e p =
      ap (λ (v : Node). cond b (set_in key w v) v) (sym (node_at pages p))
      ∙ sym (ap (λ (page : ℕ → model.Contents). (page p).node) e) ∙ node_at next p

  next_tree : (b : Bool) → pages_of next ≡ set_back b key w (pages_of pages) → (b ≡ true → (has pages key ≡ true) × (w ≤ 2 ^ 63)) → IsTree (format_of (length next)) (nodes_of next)
  next_tree false e h = subst (λ n. IsTree (format_of n) (nodes_of next)) (sym long) (tree_same (format_of (length pages)) (nodes_of pages) (nodes_of next) t (λ p l. nodes_next false e p))
  next_tree true e h = subst (λ n. IsTree (format_of n) (nodes_of next)) (sym long)
      (tree_same (format_of (length pages)) (λ p. set_in key w (nodes_of pages p)) (nodes_of next) (set_tree (format_of (length pages)) (nodes_of pages) t key w (h refl).0 (h refl).1) (λ p l. nodes_next true e p))

  next_keys : (b : Bool) → pages_of next ≡ set_back b key w (pages_of pages) → (b ≡ true → (has pages key ≡ true) × (w ≤ 2 ^ 63)) → (q : ℕ) → has next q ≡ has pages q
  next_keys false e h q = ap (λ n. is_some (entry n (nodes_of next) q)) long ∙ ap is_some (sym (entry_same (length pages) (nodes_of pages) (nodes_of next) q (λ p l. nodes_next false e p)))
  next_keys true e h q = ap (λ n. is_some (entry n (nodes_of next) q)) long
      ∙ ap is_some (sym (entry_same (length pages) (λ p. set_in key w (nodes_of pages p)) (nodes_of next) q (λ p l. nodes_next true e p)))
      ∙ set_entries (format_of (length pages)) (nodes_of pages) t key w (h refl).0 (h refl).1 q

module _ (start now : List Page) (was marks : List Bool) (items : List Item) (counted : List Bool) (ended : List (BTreeSet ℕ)) (left k : ℕ) (x d : Item)
    (after : left ≡ suc k) (l : k < length items) (is : x ≡ get_or items k d) (before : IsUndoing start now was marks items counted ended left) where
  here : x ≡ get_or items k x
  here = is ∙ get_or_default items k d x l

  abbrev b : Bool
  b = lost_by ended (get_or counted k false) x

  pub undone_more : (next : List Page) (more : List Bool) → AreWords items counted → true ≡ (not b || has now (entry_of x).key) →
      pages_of next ≡ set_back b (entry_of x).key (entry_of x).before (pages_of now) → Keeps now next marks more →
      MarksFor (λ p. holds (nodes_of now p) (entry_of x).key) marks more → IsUndoing start next was more items counted ended k
  undone_more next more words answer set kept only = record {
    within = omega arith;
    undone = record {
      pages = λ lost tells p.
          let r = entry_of x in
          let rest = entries_of (take k items) in
          let whole : (model.Contents → model.Contents) = λ v. record v { node = undo_node lost rest v.node } in
          let back : (Bool → model.Contents) = λ c. record (pages_of now p) { node = undo_node lost rest (cond c (set_in r.key r.before (pages_of now p).node) (pages_of now p).node) } in
          ap (λ (page : ℕ → model.Contents). whole (page p)) set
          ∙ ap back (sym (tells.at k x l here))
          ∙ ap (λ (z : List Entry). record (pages_of now p) { node = undo_node lost z (pages_of now p).node }) (sym (entries_at items k left x d after l is))
          ∙ before.undone.pages lost tells p;
      has_each = λ i y low high q lost. each i y low high q lost (cases_eq i k);
    };
    tree = next_tree now next (entry_of x).key (entry_of x).before before.tree kept.count b set fit;
    keys = λ q. next_keys now next (entry_of x).key (entry_of x).before before.tree kept.count b set fit q ∙ before.keys q;
    kept = keeps_both start now next was marks more before.kept kept;
    fences = λ p q. holds_same now next b (entry_of x).key (entry_of x).before set p q ∙ before.fences p q;
    only = leaves_more (entries_of items) (entry_of x) start now was marks more (has_entry_of items k x l here) before.fences before.only only;
    numbers = record { at = λ p. ap (λ (page : ℕ → model.Contents). (page p).gsn) set ∙ before.numbers.at p };
  }
    where
      fit : b ≡ true → (has now (entry_of x).key ≡ true) × ((entry_of x).before ≤ 2 ^ 63)
      fit e = (not_or b (has now (entry_of x).key) answer e, words.at k x l here (and_parts (get_or counted k false) _ (and_parts (model.is_write (entry_of x).kind) _ e).1).0)

      each : (i : ℕ) (y : Item) → k ≤ i → i < length items → y ≡ get_or items i y → lost_by ended (get_or counted i false) y ≡ true → (i ≡ k) ⊎ (i ≡ k → ⊥) → has start (entry_of y).key ≡ true
      each i y low high q lost (inr ne) = before.undone.has_each i y (omega arith) high q lost
      each i y low high q lost (inl same) =
          let e : x ≡ y = is ∙ get_or_default items k d y l ∙ sym (q ∙ ap (λ n. get_or items n y) same) in
          subst (λ (u : Item). has start (entry_of u).key ≡ true) e
          (sym (before.keys (entry_of x).key) ∙ (fit (subst (λ (u : Item). lost_by ended (get_or counted k false) u ≡ true) (sym e) (ap (λ n. lost_by ended (get_or counted n false) y) (sym same) ∙ lost))).0)

  pub lacks_here : false ≡ (not b || has now (entry_of x).key) → (a : ℕ) → a ≡ suc x.log → LacksAt start items counted ended a x.place
  lacks_here e a area = let n = neither b (has now (entry_of x).key) e in record { k = k; x = x; within = l; is = here; area_is = area; place_is = refl; is_lost = n.0; none = sym (before.keys (entry_of x).key) ∙ n.1 }

pub undone_all : (start now : List Page) (items : List Item) (counted : List Bool) (ended : List (BTreeSet ℕ)) (left : ℕ) → left ≡ 0 → IsUndone start now items counted ended left → IsUndone start now items counted ended 0
undone_all start now items counted ended left e u = subst (λ n. IsUndone start now items counted ended n) e u
