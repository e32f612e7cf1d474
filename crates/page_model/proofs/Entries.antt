-- The words of keys in the leaves of a tree.
use Rattle.std.proofs.Common.{◌≡◌, ◌<◌, ◌≤◌, ℕ, zero, suc, true, ◌&&◌, leb, ltb, ◌==◌, ◌⊎◌, Option, None, refl, sym, ap, ◌∙◌, subst, inl, inr, arith}
use Rattle.std.proofs.lemmas.Bool.{cases_eq, cases_lt, eq-eqb, eqb-true, leb-true, le-leb, ltb-true, lt-ltb, cond-true, cond-false, and_parts, and_from, false_from_ne_true}
use Rattle.page_model.specs.Pairs.{find}
use Rattle.page_model.specs.Nodes.{Format, Node, is_leaf, covers, holds}
use Rattle.page_model.specs.Tree.{IsTree, entry}
use Rattle.page_model.proofs.Tree.{Lies, one, leaf_of, below_top}

-- a leaf has the key within its fences
pub record LeafWith (v : Node) (k : ℕ) : Type 0 where
  pub lies : Lies v k
  pub leaf : v.level ≡ 0

pub holds_to : (v : Node) (k : ℕ) → holds v k ≡ true → LeafWith v k
holds_to v k h =
    let a = and_parts (is_leaf v) (covers v k) h in
    let b = and_parts v.live (v.level == 0) a.0 in
    let c = and_parts v.live (leb v.low k && ltb k v.high) a.1 in
    let d = and_parts (leb v.low k) (ltb k v.high) c.1 in
    record { lies = record { live = b.0; low = leb-true v.low k d.0; high = ltb-true k v.high d.1 }; leaf = eqb-true v.level 0 b.1 }

pub holds_from : (v : Node) (k : ℕ) → LeafWith v k → holds v k ≡ true
holds_from v k w = let c = w.lies in
    and_from (is_leaf v) (covers v k) (and_from v.live (v.level == 0) c.live (eq-eqb v.level 0 w.leaf)) (and_from v.live (leb v.low k && ltb k v.high) c.live (and_from (leb v.low k) (ltb k v.high) (le-leb v.low k c.low) (lt-ltb k v.high c.high)))

entry_none_in : (n : ℕ) (node : ℕ → Node) (k : ℕ) → ((p : ℕ) → p < n → LeafWith (node p) k → ⊥) → entry n node k ≡ None
entry_none_in zero node k h = refl
entry_none_in (suc n) node k h = cond-false (holds (node n) k) (find k (node n).pairs) (entry n node k) (false_from_ne_true (holds (node n) k) (λ e. h n (omega arith) (holds_to (node n) k e))) ∙ entry_none_in n node k (λ p l. h p (omega arith))

entry_in : (n : ℕ) (node : ℕ → Node) (k p : ℕ) → ((q : ℕ) → q < n → LeafWith (node q) k → p ≡ q) → p < n → LeafWith (node p) k → entry n node k ≡ find k (node p).pairs
entry_in zero node k p u l w = absurd (omega arith)
entry_in (suc n) node k p u l w = go (cases_eq p n) (λ q. entry_in n node k p (λ i b. u i (omega arith)) (omega arith) w)
  where
    go : (p ≡ n) ⊎ (p ≡ n → ⊥) → ((p ≡ n → ⊥) → entry n node k ≡ find k (node p).pairs) → entry (suc n) node k ≡ find k (node p).pairs
    go (inl e) ih = cond-true (holds (node n) k) (find k (node n).pairs) (entry n node k) (holds_from (node n) k (subst (λ (i : ℕ). LeafWith (node i) k) e w)) ∙ ap (λ (i : ℕ). find k (node i).pairs) (sym e)
    go (inr e) ih = cond-false (holds (node n) k) (find k (node n).pairs) (entry n node k) (false_from_ne_true (holds (node n) k) (λ h. e (u n (omega arith) (holds_to (node n) k h)))) ∙ ih e

module _ (f : Format) (node : ℕ → Node) (t : IsTree f node) where
  -- No key is in two leaves.
  pub one_leaf : (p q k : ℕ) → p < f.pages → q < f.pages → LeafWith (node p) k → LeafWith (node q) k → p ≡ q
  one_leaf p q k lp lq a b = let x = a.leaf in let y = b.leaf in one f node t p q k lp lq a.lies b.lies (omega arith)

  pub entry_at : (k p : ℕ) → p < f.pages → LeafWith (node p) k → entry f.pages node k ≡ find k (node p).pairs
  entry_at k p l w = entry_in f.pages node k p (λ q b v. one_leaf p q k l b w v) l w

  pub entry_beyond : (k : ℕ) → f.top ≤ k → entry f.pages node k ≡ None
  entry_beyond k h = entry_none_in f.pages node k (λ p l w. (let b = below_top f node t p l w.lies.live in let c = w.lies.high in omega arith))

-- a leaf that has the key now has the word that p had
pub record Heir (f : Format) (new : ℕ → Node) (k : ℕ) (word : Option ℕ) : Type 0 where
  pub page : ℕ
  pub below : page < f.pages
  pub has : LeafWith (new page) k
  pub same : find k (new page).pairs ≡ word

pub same_entry : (f : Format) (node new : ℕ → Node) → IsTree f node → IsTree f new → (k : ℕ) →
    ((p : ℕ) → p < f.pages → LeafWith (node p) k → Heir f new k (find k (node p).pairs)) → entry f.pages new k ≡ entry f.pages node k
same_entry f node new t u k h = elim (cases_lt k f.top) [
  | inl l ↦ (let x = leaf_of f node t k l in let w : LeafWith (node x.0) k = record { lies = x.2; leaf = x.3 } in let g = h x.0 x.1 w in
      entry_at f new u k g.page g.below g.has ∙ (g.same ∙ sym (entry_at f node t k x.0 x.1 w)))
  | inr l ↦ entry_beyond f new u k l ∙ sym (entry_beyond f node t k l)
]
