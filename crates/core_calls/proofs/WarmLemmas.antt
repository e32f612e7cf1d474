-- Why a descent that is begun again ends.
use Rattle.std.proofs.Common.{◌≡◌, ◌⊎◌, ◌<◌, ◌≤◌, ◌+◌, ◌-◌, ℕ, zero, suc, true, false, leb, ltb, ◌&&◌, ◌==◌, sym, ap, ◌∙◌, inl, inr, arith, true≢false}
use Rattle.std.proofs.lemmas.Bool.{and_from, and_parts, cases_eq, cases_lt, eq-eqb, leb-true, lt-ltb, ltb-true}
use Rattle.map_model.specs.Lists.{any}
use Rattle.map_model.proofs.ListLemmas.{has_any}
use Rattle.page_model.specs.Check.{names_page}
use Rattle.page_model.specs.Nodes.{Node, covers}
use Rattle.page_model.specs.Pairs.{Span, spans}
use Rattle.page_model.specs.Tree.{IsTree, Names}
use Rattle.page_model.proofs.Tree.{Lies, named, one, tall, up_lies}
use Rattle.core_crash.specs.core_paging.Paging.{Residence}
use Rattle.core_crash.specs.core_state.Openings.{Opening}
use Rattle.core_crash.specs.core_state.States.{State, is_hot, nodes_of}
use Rattle.core_calls.specs.Warms.{EveryWarm, IsWarmFrom}

lies_to : (v : Node) (k : ℕ) → covers v k ≡ true → Lies v k
lies_to v k h =
    let a = and_parts v.live (leb v.low k && ltb k v.high) h in
    let b = and_parts (leb v.low k) (ltb k v.high) a.1 in
    record { live = a.0; low = leb-true v.low k b.0; high = ltb-true k v.high b.1 }

names : (v : Node) (p : ℕ) (z : Span) → Names v z → z.child ≡ p → names_page v p ≡ true
names v p z n e = and_from (v.live && ltb 0 v.level) (any (λ s. s.child == p) (spans v.pairs v.high)) (and_from v.live (ltb 0 v.level) n.live (lt-ltb 0 v.level n.inner)) (has_any (λ s. s.child == p) (spans v.pairs v.high) z n.has (eq-eqb z.child p e))

module _ (g : Opening) (s : State) (k : ℕ) (t : IsTree g.format (nodes_of s)) (r : Residence g s) where
  -- so many levels above a hot page of the way
  climb : (d p : ℕ) → p < g.format.pages → Lies (nodes_of s p) k → is_hot (s.place p) ≡ true → (q : ℕ) → q < g.format.pages → Lies (nodes_of s q) k → (nodes_of s q).level ≡ (nodes_of s p).level + d → is_hot (s.place q) ≡ true
  climb zero p lp cp hot q lq cq e = ap (λ i. is_hot (s.place i)) (one g.format (nodes_of s) t q p k lq lp cq cp (omega arith)) ∙ hot
  climb (suc d) p lp cp hot q lq cq e = go (cases_eq p 0) (climb d)
    where
      go : (p ≡ 0) ⊎ (p ≡ 0 → ⊥) → ((p : ℕ) → p < g.format.pages → Lies (nodes_of s p) k → is_hot (s.place p) ≡ true → (q : ℕ) → q < g.format.pages → Lies (nodes_of s q) k → (nodes_of s q).level ≡ (nodes_of s p).level + d → is_hot (s.place q) ≡ true) → is_hot (s.place q) ≡ true
      go (inl z) on = let a = tall g.format (nodes_of s) t q lq cq.live in let b = ap (λ i. (nodes_of s i).level) z in absurd (omega arith)
      go (inr ne) on =
          let u = t.up p lp cp.live ne in
          let l = (named g.format (nodes_of s) t p u).1 in
          on u.page u.below (up_lies g.format (nodes_of s) t p k u cp) (r.parent u.page p u.below (names (nodes_of s u.page) p u.span u.names u.child) hot) q lq cq (omega arith)

pub every_warm : EveryWarm
every_warm g s key = record {
  first = λ t p lt c n. let a = tall g.format (nodes_of s) t p lt (lies_to (s.page p).node key c).live in absurd (omega arith);
  lower = λ p n w lt c cold. go p n w lt c cold (cases_lt (s.page p).node.level n);
  up = λ t r p lp c hot q lq cq n. climb g s key t r ((s.page q).node.level - (s.page p).node.level) p lp (lies_to (s.page p).node key c) hot q lq (lies_to (s.page q).node key cq) (omega arith);
}
  where
    go : (p n : ℕ) → IsWarmFrom g s key n → p < g.format.pages → covers (s.page p).node key ≡ true → is_hot (s.place p) ≡ false → ((s.page p).node.level < n) ⊎ (n ≤ (s.page p).node.level) → (s.page p).node.level < n
    go p n w lt c cold (inl l) = l
    go p n w lt c cold (inr l) = absurd (true≢false (sym (w p lt c l) ∙ cold))
