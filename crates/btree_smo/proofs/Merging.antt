-- The join may be published once the three nodes are stored.
use Rattle.btree_descent.proofs.row_words.SealedLemmas.{low_tame}
use Rattle.std.proofs.Common.{inl, inr, ℕ, List, [], ◌∷◌, refl, sym, subst, ◌∙◌}
use Rattle.map_model.specs.Lists.{Has}
use Rattle.page_model.specs.Page as stored
use Rattle.btree_descent.specs.row_words.declared.event.Event.TheVariants.{Join}
use Rattle.btree_descent.specs.rows_trait.declared.view.View.{View}
use Rattle.btree_descent.specs.rows_trait.declared.view.Hold.{Hold}
use Rattle.btree_descent.specs.rows_trait.Views.{Shape, state}
use Rattle.btree_descent.specs.rows_trait.Turns.{MayPublish}
use Rattle.btree_descent.proofs.lean_proto.Again.{plain_join}
use Rattle.btree_descent.proofs.lean_proto.Steady.{every_ready}
use Rattle.btree_smo.specs.Outcomes.{IsHotIn}
use Rattle.held_rows.specs.Rows.{Waited}
use Rattle.held_rows.specs.Publishing.{IsChanged}
use Rattle.btree_smo.specs.Inside.Joining.{IsMerged}
use Rattle.btree_smo.proofs.Leaving.{HasNode, Stored, leaves_all, publish_on}
use Rattle.btree_smo.proofs.Publishing.{page_changed}

module _ {z : Shape} {v : View} {worker l r q a b d : ℕ} {left right parent : stored.Page} (it : IsMerged z v worker l r q a b d left right parent) where
  each_of : (hs : List Hold) → HasNode v hs a left → HasNode v hs b right → HasNode v hs d parent → (p : ℕ) → Has p (l ∷ r ∷ q ∷ []) → Stored z v hs (Join worker l r q) p
  each_of hs first second third p (inl e) = record { row = a; node = left; is = it.left_is ∙ sym e; left = it.left_left; has = first }
  each_of hs first second third p (inr (inl e)) = record { row = b; node = right; is = it.right_is ∙ sym e; left = it.right_left; has = second }
  each_of hs first second third p (inr (inr (inl e))) = record { row = d; node = parent; is = it.parent_is ∙ sym e; left = it.parent_left; has = third }
  each_of hs first second third p (inr (inr (inr h))) = absurd h

  pub may_merge : {u : View} → Waited z.alone v u → HasNode v u.held a left → HasNode v u.held b right → HasNode v u.held d parent → MayPublish z a (Join worker l r q) u
  unfolding each_of
  may_merge {u} k first second third = publish_on u.held k.rows k refl (every_ready z (record v { held = u.held }) a (Join worker l r q) refl (record {
    actor = it.actor;
    order = λ es. record { tree = (it.sound es).tree; places = (it.sound es).residence };
    met = it.met;
    tame = low_tame (state v) (Join worker l r q) it.young;
    leaves = leaves_all z v u.held (Join worker l r q) (plain_join worker l r q) (λ j. refl) (it.sound v.seen).residence it.met (each_of u.held first second third) l (inl refl);
  }))

  pub right_changed : {u : View} → Waited z.alone v u → IsChanged z u (Join worker l r q) b
  right_changed k = page_changed (Join worker l r q) (plain_join worker l r q) r (inr (inl refl)) it.three.second (subst (IsHotIn v.given (state v) b) it.right_is it.right_left.stands) k

  pub parent_changed : {u : View} → Waited z.alone v u → IsChanged z u (Join worker l r q) d
  parent_changed k = page_changed (Join worker l r q) (plain_join worker l r q) q (inr (inr (inl refl))) it.three.third (subst (IsHotIn v.given (state v) d) it.parent_is it.parent_left.stands) k
