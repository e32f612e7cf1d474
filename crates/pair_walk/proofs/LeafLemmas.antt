-- Leaves one after another.
use Rattle.std.proofs.Common.{◌≡◌, ◌<◌, ◌-◌, ℕ, sym, ap, ◌∙◌, subst, inl, inr, arith}
use Rattle.std.proofs.lemmas.Bool.{cases_eq}
use Rattle.page_model.specs.Pairs.{Rising}
use Rattle.page_model.specs.Nodes.{Format, Node}
use Rattle.page_model.specs.Tree.{IsTree, value, value_of}
use Rattle.page_model.proofs.Entries.{LeafWith, holds_to, one_leaf, entry_at}
use Rattle.pair_walk.specs.Fences.{EndsLeaf, IsFence}
use Rattle.pair_walk.specs.Listings.{Lists, live}
use Rattle.pair_walk.proofs.ListingLemmas.{find_live, rising_live}

module _ (f : Format) (node : ℕ → Node) (t : IsTree f node) (fence q : ℕ) (within : q < f.pages) (w : LeafWith (node q) fence) where
  -- a leaf with the key below a fence would be the one that ends there
  not_below : EndsLeaf f.pages node fence → (node q).low < fence → ⊥
  not_below e below =
      let h = holds_to (node e.page) e.key e.has in
      let l = h.lies.low in let u = h.lies.high in let v = w.lies.high in let ends = e.high in
      let same = one_leaf f node t e.page q (fence - 1) e.within within
      (record { lies = record { live = h.lies.live; low = omega arith; high = omega arith }; leaf = h.leaf })
      (record { lies = record { live = w.lies.live; low = omega arith; high = omega arith }; leaf = w.leaf }) in
      let high = ap (λ (i : ℕ). (node i).high) same in
      omega arith

  -- so the leaf begins there
  pub begins : IsFence f.pages node fence → (node q).low ≡ fence
  begins (inl z) = let l = w.lies.low in omega arith
  begins (inr e) = elim (cases_eq (node q).low fence) [
    | inl same ↦ same
    | inr other ↦ absurd (let l = w.lies.low in not_below e (omega arith))
  ]

  pub listed : (node q).low ≡ fence → Lists (value f node) fence (node q).high (live f.dead (node q).pairs)
  listed same =
      let ok = (t.formed q within).node w.lies.live in record {
        rising = subst (λ (a : ℕ). Rising a (live f.dead (node q).pairs) (node q).high) same (rising_live f.dead (node q).low (node q).pairs (node q).high ok.rising);
        all = λ k l h. find_live f (node q).low k (node q).pairs (node q).high ok.rising
            ∙ ap (value_of f) (sym (entry_at f node t k q within (record { lies = record { live = w.lies.live; low = omega arith; high = h }; leaf = w.leaf })));
      }
