-- What follows from the rule of the tree.
use Rattle.std.proofs.Common.{◌≡◌, ◌<◌, ◌≤◌, ◌-◌, ◌+◌, ℕ, zero, suc, Bool, true, false, ◌⊎◌, refl, sym, ap, ◌∙◌, subst, inl, inr, arith, true≢false}
use Rattle.std.proofs.lemmas.Bool.{cases_eq}
use Rattle.page_model.specs.Pairs.{Has, route, Span, spans}
use Rattle.page_model.specs.Nodes.{Format, Node, NodeOk}
use Rattle.page_model.specs.Tree.{Names, Parent, IsTree}
use Rattle.page_model.proofs.Spans.{span_in, span_pair, span_one, span_cover, route_span}

pub span_eq : (s t : Span) → s.child ≡ t.child → s.low ≡ t.low → s.high ≡ t.high → s ≡ t
span_eq s t a b c =
    ap (λ (i : ℕ). record { child = i; low = s.low; high = s.high }) a
    ∙ (ap (λ (i : ℕ). record { child = t.child; low = i; high = s.high }) b ∙ ap (λ (i : ℕ). record { child = t.child; low = t.low; high = i }) c)

-- a node has the key within its fences
pub record Lies (v : Node) (k : ℕ) : Type 0 where
  pub live : v.live ≡ true
  pub low : v.low ≤ k
  pub high : k < v.high

pub not_free : {A : Type 0} (b : Bool) → b ≡ true → b ≡ false → A
not_free b x y = absurd (true≢false (sym x ∙ y))

module _ (f : Format) (node : ℕ → Node) (t : IsTree f node) where
  pub ok : (p : ℕ) → p < f.pages → (node p).live ≡ true → NodeOk f (node p)
  ok p l e = (t.formed p l).node e

  pub child_page : (q : ℕ) (s : Span) → q < f.pages → Names (node q) s → (0 < s.child) × (s.child < f.pages)
  child_page q s l m =
      let x = span_pair (node q).pairs (node q).high s m.has in
      let c = (ok q l m.live).children m.inner x.0 x.1 in
      subst (λ (i : ℕ). (0 < i) × (i < f.pages)) x.2 c

  pub span_fences : (q : ℕ) (s : Span) → q < f.pages → Names (node q) s → ((node q).low ≤ s.low) × (s.low < s.high) × (s.high ≤ (node q).high)
  span_fences q s l m = span_in (node q).low (node q).pairs (node q).high s (ok q l m.live).rising m.has

  -- the page that names p, as a fact on p
  pub named : (p : ℕ) (u : Parent f node p) → ((node p).live ≡ true) × (suc (node p).level ≡ (node u.page).level) × ((node p).low ≡ u.span.low) × ((node p).high ≡ u.span.high)
  named p u = let c = t.down u.page u.below u.span u.names in
      (subst (λ (i : ℕ). (node i).live ≡ true) u.child c.live, subst (λ (i : ℕ). suc (node i).level ≡ (node u.page).level) u.child c.level, subst (λ (i : ℕ). (node i).low ≡ u.span.low) u.child c.low, subst (λ (i : ℕ). (node i).high ≡ u.span.high) u.child c.high)

  pub up_lies : (p k : ℕ) (u : Parent f node p) → Lies (node p) k → Lies (node u.page) k
  up_lies p k u c =
      let n = named p u in let n2 = n.2 in let n3 = n.3 in
      let b = span_fences u.page u.span u.below u.names in let b0 = b.0 in let b2 = b.2 in
      let c0 = c.low in let c1 = c.high in
      record { live = u.names.live; low = omega arith; high = omega arith }

  -- no node is higher than the root
  tall_at : (d p : ℕ) → (node p).level + d ≡ f.levels → p < f.pages → (node p).live ≡ true → (node p).level ≤ (node 0).level
  tall_at zero p e l v = elim (cases_eq p 0) [
    | inl q ↦ (let z = ap (λ (i : ℕ). (node i).level) q in omega arith)
    | inr q ↦ (let u = t.up p l v q in let n = (named p u).1 in let h = (ok u.page u.below u.names.live).tall in absurd (omega arith))
  ]
  tall_at (suc d) p e l v = go (λ i h b w. tall_at d i h b w) (cases_eq p 0)
    where
      go : ((i : ℕ) → (node i).level + d ≡ f.levels → i < f.pages → (node i).live ≡ true → (node i).level ≤ (node 0).level) → (p ≡ 0) ⊎ (p ≡ 0 → ⊥) → (node p).level ≤ (node 0).level
      go ih (inl q) = let z = ap (λ (i : ℕ). (node i).level) q in omega arith
      go ih (inr q) = let u = t.up p l v q in let n = (named p u).1 in let h = ih u.page (omega arith) u.below u.names.live in omega arith

  pub tall : (p : ℕ) → p < f.pages → (node p).live ≡ true → (node p).level ≤ (node 0).level
  tall p l v = let h = (ok p l v).tall in tall_at (f.levels - (node p).level) p (omega arith) l v

  -- two children of one page that both have the key are one
  siblings : (p q k : ℕ) (u : Parent f node p) (v : Parent f node q) → u.page ≡ v.page → Lies (node p) k → Lies (node q) k → p ≡ q
  siblings p q k u v e cp cq =
      let n = named p u in let n2 = n.2 in let n3 = n.3 in
      let m = named q v in let m2 = m.2 in let m3 = m.3 in
      let p0 = cp.low in let p1 = cp.high in let q0 = cq.low in let q1 = cq.high in
      let same = span_one (node u.page).low (node u.page).pairs (node u.page).high k u.span v.span (ok u.page u.below u.names.live).rising u.names.has
      (subst (λ (i : ℕ). Has v.span (spans (node i).pairs (node i).high)) (sym e) v.names.has) (omega arith) (omega arith) (omega arith) (omega arith) in
      sym u.child ∙ (ap (λ (s : Span). s.child) same ∙ v.child)

  one_at : (d p q k : ℕ) → (node p).level + d ≡ f.levels → p < f.pages → q < f.pages → Lies (node p) k → Lies (node q) k → (node p).level ≡ (node q).level → p ≡ q
  one_at zero p q k e lp lq cp cq s = go (cases_eq p 0) (cases_eq q 0)
    where
      go : (p ≡ 0) ⊎ (p ≡ 0 → ⊥) → (q ≡ 0) ⊎ (q ≡ 0 → ⊥) → p ≡ q
      go (inl a) (inl b) = a ∙ sym b
      go (inr a) b = let u = t.up p lp cp.live a in let n = (named p u).1 in let h = (ok u.page u.below u.names.live).tall in absurd (omega arith)
      go (inl a) (inr b) = let u = t.up q lq cq.live b in let n = (named q u).1 in let h = (ok u.page u.below u.names.live).tall in absurd (omega arith)
  one_at (suc d) p q k e lp lq cp cq s = go (λ a b h la lb ca cb w. one_at d a b k h la lb ca cb w) (cases_eq p 0) (cases_eq q 0)
    where
      go : ((a b : ℕ) → (node a).level + d ≡ f.levels → a < f.pages → b < f.pages → Lies (node a) k → Lies (node b) k → (node a).level ≡ (node b).level → a ≡ b) → (p ≡ 0) ⊎ (p ≡ 0 → ⊥) → (q ≡ 0) ⊎ (q ≡ 0 → ⊥) → p ≡ q
      go ih (inl a) (inl b) = a ∙ sym b
      go ih (inr a) (inl b) = let u = t.up p lp cp.live a in let n = (named p u).1 in let z = ap (λ (i : ℕ). (node i).level) b in let h = tall u.page u.below u.names.live in absurd (omega arith)
      go ih (inl a) (inr b) = let u = t.up q lq cq.live b in let n = (named q u).1 in let z = ap (λ (i : ℕ). (node i).level) a in let h = tall u.page u.below u.names.live in absurd (omega arith)
      go ih (inr a) (inr b) =
          let u = t.up p lp cp.live a in let v = t.up q lq cq.live b in
          let n = (named p u).1 in let m = (named q v).1 in
          siblings p q k u v (ih u.page v.page (omega arith) u.below v.below (up_lies p k u cp) (up_lies q k v cq) (omega arith)) cp cq

  -- No two pages of a level have one key.
  pub one : (p q k : ℕ) → p < f.pages → q < f.pages → Lies (node p) k → Lies (node q) k → (node p).level ≡ (node q).level → p ≡ q
  one p q k lp lq cp cq e = let h = (ok p lp cp.live).tall in one_at (f.levels - (node p).level) p q k (omega arith) lp lq cp cq e

  -- Each page but the root is the child of exactly one pair.
  pub only : (q o : ℕ) (s z : Span) → q < f.pages → o < f.pages → Names (node q) s → Names (node o) z → s.child ≡ z.child → (q ≡ o) × (s ≡ z)
  only q o s z lq lo m n e =
      let c = t.down q lq s m in let d = t.down o lo z n in
      let c1 = c.level in let d1 : suc (node s.child).level ≡ (node o).level = subst (λ (i : ℕ). suc (node i).level ≡ (node o).level) (sym e) d.level in
      let c2 = c.low in let d2 : (node s.child).low ≡ z.low = subst (λ (i : ℕ). (node i).low ≡ z.low) (sym e) d.low in
      let c3 = c.high in let d3 : (node s.child).high ≡ z.high = subst (λ (i : ℕ). (node i).high ≡ z.high) (sym e) d.high in
      let a = span_fences q s lq m in let a0 = a.0 in let a1 = a.1 in let a2 = a.2 in
      let b = span_fences o z lo n in let b0 = b.0 in let b1 = b.1 in let b2 = b.2 in (
        one q o s.low lq lo (record { live = m.live; low = omega arith; high = omega arith }) (record { live = n.live; low = omega arith; high = omega arith }) (omega arith),
        span_eq s z e (omega arith) (omega arith),
      )

  -- the child that has a key
  pub down_to : (q k : ℕ) → q < f.pages → Lies (node q) k → 0 < (node q).level → (s : Span) × Names (node q) s × (s.low ≤ k) × (k < s.high) × (s.child < f.pages) × Lies (node s.child) k
  down_to q k l c i =
      let o = ok q l c.live in
      let f0 = (o.first i).1 in let lo = c.low in
      let v = span_cover (node q).pairs (node q).high k (omega arith) c.high in
      let m : Names (node q) v.span = record { live = c.live; inner = i; has = v.has } in
      let d = t.down q l v.span m in let dl = d.low in let dh = d.high in let v0 = v.low in let v1 = v.high in
      (v.span, m, v.low, v.high, (child_page q v.span l m).1, record { live = d.live; low = omega arith; high = omega arith })

  leaf_at : (d q k : ℕ) → (node q).level ≡ d → q < f.pages → Lies (node q) k → (p : ℕ) × (p < f.pages) × Lies (node p) k × ((node p).level ≡ 0)
  leaf_at zero q k e l c = (q, l, c, e)
  leaf_at (suc d) q k e l c =
      let x = down_to q k l c (omega arith) in let w = (t.down q l x.0 x.1).level in
      leaf_at d x.0.child k (omega arith) x.4 x.5

  -- Each key below the root's fence is in a leaf,
  pub leaf_of : (k : ℕ) → k < f.top → (p : ℕ) × (p < f.pages) × Lies (node p) k × ((node p).level ≡ 0)
  leaf_of k l = let r0 = t.root.1 in let r1 = t.root.2 in leaf_at (node 0).level 0 k refl t.some (record { live = t.root.0; low = omega arith; high = omega arith })

  top_at : (d p : ℕ) → (node p).level + d ≡ f.levels → p < f.pages → (node p).live ≡ true → (node p).high ≤ f.top
  top_at zero p e l v = elim (cases_eq p 0) [
    | inl q ↦ (let z = ap (λ (i : ℕ). (node i).high) q in let r1 = t.root.2 in omega arith)
    | inr q ↦ (let u = t.up p l v q in let n = (named p u).1 in let h = (ok u.page u.below u.names.live).tall in absurd (omega arith))
  ]
  top_at (suc d) p e l v = go (λ i h b w. top_at d i h b w) (cases_eq p 0)
    where
      go : ((i : ℕ) → (node i).level + d ≡ f.levels → i < f.pages → (node i).live ≡ true → (node i).high ≤ f.top) → (p ≡ 0) ⊎ (p ≡ 0 → ⊥) → (node p).high ≤ f.top
      go ih (inl q) = let z = ap (λ (i : ℕ). (node i).high) q in let r1 = t.root.2 in omega arith
      go ih (inr q) = let u = t.up p l v q in let n = named p u in let n1 = n.1 in let n3 = n.3 in let b = (span_fences u.page u.span u.below u.names).2 in let h = ih u.page (omega arith) u.below u.names.live in omega arith

  -- and no other key is.
  pub below_top : (p : ℕ) → p < f.pages → (node p).live ≡ true → (node p).high ≤ f.top
  below_top p l v = let h = (ok p l v).tall in top_at (f.levels - (node p).level) p (omega arith) l v

  -- ## By keys

  -- what `route` names for a key is the child that has it
  pub route_lies : (q k w : ℕ) → q < f.pages → Lies (node q) k → 0 < (node q).level → (route (node q).pairs k w < f.pages) × Lies (node (route (node q).pairs k w)) k × (suc (node (route (node q).pairs k w)).level ≡ (node q).level)
  route_lies q k w l c i =
      let x = down_to q k l c i in
      let e = route_span (node q).low (node q).pairs (node q).high k w x.0 (ok q l c.live).rising x.1.has x.2 x.3 in
      subst (λ (j : ℕ). (j < f.pages) × Lies (node j) k × (suc (node j).level ≡ (node q).level)) (sym e) (x.4, x.5, (t.down q l x.0 x.1).level)

  pub routed : (p k w : ℕ) → p < f.pages → Lies (node p) k → (u : Parent f node p) → route (node u.page).pairs k w ≡ p
  routed p k w l c u =
      let n = named p u in let n2 = n.2 in let n3 = n.3 in let c0 = c.low in let c1 = c.high in
      route_span (node u.page).low (node u.page).pairs (node u.page).high k w u.span (ok u.page u.below u.names.live).rising u.names.has (omega arith) (omega arith) ∙ u.child
