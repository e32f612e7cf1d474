-- What each record makes of its pages, in the words of the calls: redo of a record on a page is a call.
use Rattle.std.specs.Prelude.{◌≡◌, ℕ, suc, true, not, [], ◌∷◌}
use Rattle.page_model.specs.Pairs.{put, keep, without, is_in}
use Rattle.page_model.specs.Records.{Kind, Record, applied_as}
use Rattle.page_model.specs.Records.Kind.{Change, Put_back, Split, Lift, Join, Drop, Purge}
use Rattle.page_model.specs.Page.{Page, with_pairs}
use Rattle.btree_node.specs.Structure.{left_half, filled, extended, freed}

-- the record makes this of a page with the number p
abbrev pub Makes : Kind → Record → ℕ → Page → Page → Type 0
Makes kind r p v w = applied_as kind r p v.node ≡ w.node

pub record RedoLaws (r : Record) (p : ℕ) (v : Page) : Type 0 where
  pub split_left : p ≡ r.left.page → Makes Split r p v (left_half v r.sep)
  pub split_right : (p ≡ r.left.page → ⊥) → p ≡ r.right.page → Makes Split r p v (filled v r.level r.sep r.high r.pairs)
  pub split_parent : (p ≡ r.left.page → ⊥) → (p ≡ r.right.page → ⊥) → p ≡ r.parent.page → Makes Split r p v (with_pairs v (put r.sep r.right.page v.node.pairs))
  pub join_left : p ≡ r.left.page → Makes Join r p v (extended v r.pairs r.high)
  pub join_right : (p ≡ r.left.page → ⊥) → p ≡ r.right.page → Makes Join r p v (freed v)
  pub join_parent : (p ≡ r.left.page → ⊥) → (p ≡ r.right.page → ⊥) → p ≡ r.parent.page → Makes Join r p v (with_pairs v (without r.sep v.node.pairs))
  pub lift_root : p ≡ 0 → v.node.live ≡ true → Makes Lift r p v (filled v (suc r.level) v.node.low v.node.high (record { key = 0; word = r.right.page } ∷ []))
  pub lift_child : (p ≡ 0 → ⊥) → p ≡ r.right.page → Makes Lift r p v (filled v r.level 0 r.high r.pairs)
  pub drop_root : p ≡ 0 → v.node.live ≡ true → Makes Drop r p v (filled v r.level v.node.low v.node.high r.pairs)
  pub drop_child : (p ≡ 0 → ⊥) → p ≡ r.right.page → Makes Drop r p v (freed v)
  pub change : p ≡ r.left.page → Makes Change r p v (with_pairs v (put r.key r.after v.node.pairs))
  pub put_back : p ≡ r.left.page → Makes Put_back r p v (with_pairs v (put r.key r.after v.node.pairs))
  pub purge : p ≡ r.left.page → Makes Purge r p v (with_pairs v (keep (λ k. not (is_in k r.keys)) v.node.pairs))

-- each call is what its record makes of the page
abbrev pub EveryRedo : Type 0
EveryRedo = (r : Record) (p : ℕ) (v : Page) → RedoLaws r p v
