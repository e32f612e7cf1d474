-- Pages that are the same below the number of pages.
use Rattle.std.proofs.Common.{◌≡◌, ◌<◌, ℕ, zero, suc, true, cond, Option, refl, sym, ◌∙◌, ap, subst, arith}
use Rattle.page_model.specs.Pairs.{find, Span}
use Rattle.page_model.specs.Nodes.{Format, Node, WellFormed, holds}
use Rattle.page_model.specs.Tree.{Names, IsChild, Parent, IsTree, entry}
use Rattle.page_model.proofs.Spans.{span_pair}
use Rattle.page_model.proofs.Tree.{ok}

pub entry_same : (n : ℕ) (node other : ℕ → Node) (k : ℕ) → ((p : ℕ) → p < n → node p ≡ other p) → entry n node k ≡ entry n other k
entry_same zero node other k same = refl
entry_same (suc n) node other k same =
    ap (λ (v : Node). cond (holds v k) (find k v.pairs) (entry n node k)) (same n (omega arith))
    ∙ ap (λ (o : Option ℕ). cond (holds (other n) k) (find k (other n).pairs) o) (entry_same n node other k (λ p l. same p (omega arith)))

pub tree_same : (f : Format) (node other : ℕ → Node) → IsTree f node → ((p : ℕ) → p < f.pages → node p ≡ other p) → IsTree f other
tree_same f node other t same = record {
  some = t.some;
  root = subst (λ (v : Node). (v.live ≡ true) × (v.low ≡ 0) × (v.high ≡ f.top)) (same 0 t.some) t.root;
  formed = λ p l. subst (WellFormed f) (same p l) (t.formed p l);
  down = λ q l s m. down q l s (subst (λ (v : Node). Names v s) (sym (same q l)) m);
  up = λ p l v n. up p l (ap (λ (x : Node). x.live) (same p l) ∙ v) n;
}
  where
    -- a child is a page that there is
    down : (q : ℕ) → q < f.pages → (s : Span) → Names (node q) s → IsChild (other q) (other s.child) s
    down q l s m =
        let x = span_pair (node q).pairs (node q).high s m.has in
        let c : (0 < x.0.word) × (x.0.word < f.pages) = (ok f node t q l m.live).children m.inner x.0 x.1 in
        let e = x.2 in
        let w = c.1 in
        subst (λ (v : Node). IsChild v (other s.child) s) (same q l) (subst (λ (v : Node). IsChild (node q) v s) (same s.child (omega arith)) (t.down q l s m))

    up : (p : ℕ) → p < f.pages → (node p).live ≡ true → (p ≡ 0 → ⊥) → Parent f other p
    up p l v n = let u = t.up p l v n in record { page = u.page; below = u.below; span = u.span; names = subst (λ (x : Node). Names x u.span) (same u.page u.below) u.names; child = u.child }
