use Rattle.std.proofs.Common.{◌≡◌, ◌==◌, ℕ, suc, [], ◌∷◌, if◌then◌else◌, ap, ◌∙◌}
use Rattle.std.proofs.lemmas.Bool.{cond-true, cond-false, eq-eqb, ne_eqb}
use Rattle.page_model.specs.Nodes.{Node}
use Rattle.btree_node.proofs.every_redo.Goals as goal

-- the first of the pages, and one behind it
at : (p q : ℕ) (x y : Node) → p ≡ q → (if p == q then x else y) ≡ x
at p q x y e = cond-true (p == q) x y (eq-eqb p q e)

past : (p q : ℕ) (x y : Node) → (p ≡ q → ⊥) → (if p == q then x else y) ≡ y
past p q x y n = cond-false (p == q) x y (ne_eqb p q n)

pub returns : goal.returns
returns c = λ r p v. record {
  split_left = λ e. at p r.left.page _ _ e;
  split_right = λ n e. past p r.left.page _ _ n ∙ at p r.right.page _ _ e;
  split_parent = λ n m e. past p r.left.page _ _ n ∙ past p r.right.page _ _ m ∙ at p r.parent.page _ _ e;
  join_left = λ e. at p r.left.page _ _ e;
  join_right = λ n e. past p r.left.page _ _ n ∙ at p r.right.page _ _ e;
  join_parent = λ n m e. past p r.left.page _ _ n ∙ past p r.right.page _ _ m ∙ at p r.parent.page _ _ e;
  lift_root = λ e live. at p 0 _ _ e ∙ ap (λ b. record v.node { live = b; level = suc r.level; pairs = record { key = 0; word = r.right.page } ∷ [] }) live;
  lift_child = λ n e. past p 0 _ _ n ∙ at p r.right.page _ _ e;
  drop_root = λ e live. at p 0 _ _ e ∙ ap (λ b. record v.node { live = b; level = r.level; pairs = r.pairs }) live;
  drop_child = λ n e. past p 0 _ _ n ∙ at p r.right.page _ _ e;
  change = λ e. at p r.left.page _ _ e;
  put_back = λ e. at p r.left.page _ _ e;
  purge = λ e. at p r.left.page _ _ e;
}
