-- The drop may be published once both nodes are stored.
use Rattle.btree_descent.proofs.row_words.SealedLemmas.{low_tame}
use Rattle.std.proofs.Common.{inl, inr, ℕ, List, [], ◌∷◌, refl, sym, subst, ◌∙◌}
use Rattle.map_model.specs.Lists.{Has}
use Rattle.page_model.specs.Page as stored
use Rattle.btree_descent.specs.row_words.declared.event.Event.TheVariants.{Drop}
use Rattle.btree_descent.specs.rows_trait.declared.view.View.{View}
use Rattle.btree_descent.specs.rows_trait.declared.view.Hold.{Hold}
use Rattle.btree_descent.specs.rows_trait.Views.{state, Shape}
use Rattle.btree_descent.specs.rows_trait.Turns.{MayPublish}
use Rattle.btree_descent.proofs.lean_proto.Again.{plain_drop}
use Rattle.btree_descent.proofs.lean_proto.Steady.{every_ready}
use Rattle.held_rows.specs.Rows.{Waited}
use Rattle.held_rows.specs.Publishing.{IsChanged}
use Rattle.btree_smo.specs.Outcomes.{IsHotIn}
use Rattle.btree_smo.proofs.Publishing.{page_changed}
use Rattle.btree_smo.specs.Inside.Dropping.{IsLowered}
use Rattle.btree_smo.proofs.Leaving.{HasNode, Stored, leaves_all, publish_on}

module _ {z : Shape} {v : View} {worker page a b : ℕ} {root child : stored.Page} (it : IsLowered z v worker page a b root child) where
  each_of : (hs : List Hold) → HasNode v hs a root → HasNode v hs b child → (p : ℕ) → Has p (0 ∷ page ∷ []) → Stored z v hs (Drop worker page) p
  each_of hs first second p (inl e) = record { row = a; node = root; is = it.root_is ∙ sym e; left = it.root_left; has = first }
  each_of hs first second p (inr (inl e)) = record { row = b; node = child; is = it.child_is ∙ sym e; left = it.child_left; has = second }
  each_of hs first second p (inr (inr h)) = absurd h

  pub may_lower : {u : View} → Waited z.alone v u → HasNode v u.held a root → HasNode v u.held b child → MayPublish z a (Drop worker page) u
  unfolding each_of
  may_lower {u} k first second = publish_on u.held k.rows k refl (every_ready z (record v { held = u.held }) a (Drop worker page) refl (record {
    actor = it.actor;
    order = λ es. record { tree = (it.sound es).tree; places = (it.sound es).residence };
    met = it.met;
    tame = low_tame (state v) (Drop worker page) it.young;
    leaves = leaves_all z v u.held (Drop worker page) (plain_drop worker page) (λ j. refl) (it.sound v.seen).residence it.met (each_of u.held first second) 0 (inl refl);
  }))

  pub child_changed : {u : View} → Waited z.alone v u → IsChanged z u (Drop worker page) b
  child_changed k = page_changed (Drop worker page) (plain_drop worker page) page (inr (inl refl)) it.two.second (subst (IsHotIn v.given (state v) b) it.child_is it.child_left.stands) k
