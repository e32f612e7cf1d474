-- Splits.
use Rattle.std.proofs.Common.{◌++◌, ◌≡◌, ◌<◌, ◌≤◌, ℕ, suc, true, leb, ltb, ◌⊎◌, List, ◌∷◌, refl, sym, ap, ◌∙◌, subst, inl, inr, arith, true≢false}
use Rattle.std.proofs.lemmas.Bool.{cases_eq, cases_lt, eq-eqb, ne_eqb, lt-ltb, le-leb}
use Rattle.page_model.specs.Pairs.{Pair, Has, find, put, below, onward, Span, spans}
use Rattle.page_model.specs.Nodes.{Format, Node, NodeOk, WellFormed}
use Rattle.page_model.specs.Tree.{Names, IsChild, Parent, IsTree, entry}
use Rattle.page_model.specs.Records.{Record, applied_as}
use Rattle.page_model.specs.Fits.{FitsSplit}
use Rattle.page_model.specs.Records.Kind.{Split}
use Rattle.page_model.proofs.Pairs.{has_append, append_left, append_right, rising_below, rising_onward, rising_put, keep_has, size_keep, put_has, size_put, find_keep_on}
use Rattle.page_model.proofs.Spans.{Divided, put_divides, parts, spans_append, first_onward, first_below, first_put, some_if}
use Rattle.page_model.proofs.Tree.{ok, not_free, child_page, span_fences, only}
use Rattle.page_model.proofs.Entries.{LeafWith, same_entry, Heir}

module _ (f : Format) (node : ℕ → Node) (t : IsTree f node) (r : Record) (m : FitsSplit f node r) where
  abbrev new : ℕ → Node
  new p = applied_as Split r p (node p)

  abbrev l : ℕ
  l = r.left.page

  abbrev c : ℕ
  c = r.right.page

  abbrev q : ℕ
  q = r.parent.page

  abbrev sep : ℕ
  sep = r.sep

  abbrev whole : Span
  whole = record { child = r.left.page; low = (node r.left.page).low; high = r.high }

  abbrev NewL : Node
  NewL = record { live = (node l).live; level = (node l).level; low = (node l).low; high = sep; pairs = below sep (node l).pairs }

  abbrev NewR : Node
  NewR = record { live = true; level = r.level; low = sep; high = r.high; pairs = r.pairs }

  abbrev NewQ : Node
  NewQ = record { live = (node q).live; level = (node q).level; low = (node q).low; high = (node q).high; pairs = put sep c (node q).pairs }

  lc : IsChild (node q) (node l) whole
  lc = t.down q m.parent whole m.names

  l_page : (0 < l) × (l < f.pages)
  l_page = child_page f node t q whole m.parent m.names

  c_l : c ≡ l → ⊥
  c_l e = not_free (node l).live lc.live (ap (λ (i : ℕ). (node i).live) (sym e) ∙ m.empty)

  c_q : c ≡ q → ⊥
  c_q e = not_free (node q).live m.names.live (ap (λ (i : ℕ). (node i).live) (sym e) ∙ m.empty)

  c_0 : c ≡ 0 → ⊥
  c_0 e = not_free (node 0).live t.root.0 (ap (λ (i : ℕ). (node i).live) (sym e) ∙ m.empty)

  q_l : q ≡ l → ⊥
  q_l e = let z = ap (λ (i : ℕ). (node i).level) e in let v = lc.level in omega arith

  at_l : (p : ℕ) → p ≡ l → new p ≡ NewL
  at_l p e = ap new e ∙ rw (eq-eqb l l refl) refl

  at_c : (p : ℕ) → p ≡ c → new p ≡ NewR
  at_c p e = ap new e ∙ rw (ne_eqb c l c_l, eq-eqb c c refl) refl

  at_q : (p : ℕ) → p ≡ q → new p ≡ NewQ
  at_q p e = ap new e ∙ rw (ne_eqb q l q_l, ne_eqb q c (λ z. c_q (sym z)), eq-eqb q q refl) refl

  at_else : (p : ℕ) → (p ≡ l → ⊥) → (p ≡ c → ⊥) → (p ≡ q → ⊥) → new p ≡ node p
  at_else p a b d = rw (ne_eqb p l a, ne_eqb p c b, ne_eqb p q d) refl

  four : (p : ℕ) → (p ≡ l) ⊎ ((p ≡ c) ⊎ ((p ≡ q) ⊎ ((p ≡ l → ⊥) × (p ≡ c → ⊥) × (p ≡ q → ⊥))))
  four p = elim (cases_eq p l) [ inl e ↦ inl e | inr a ↦ elim (cases_eq p c) [ inl e ↦ inr (inl e) | inr b ↦ elim (cases_eq p q) [ inl e ↦ inr (inr (inl e)) | inr d ↦ inr (inr (inr (a, b, d))) ] ] ]

  not_c : {A : Type 0} (p : ℕ) → (node p).live ≡ true → p ≡ c → A
  not_c p v e = not_free (node p).live v (ap (λ (i : ℕ). (node i).live) e ∙ m.empty)

  lo : NodeOk f (node l)
  lo = ok f node t l l_page.1 lc.live

  qo : NodeOk f (node q)
  qo = ok f node t q m.parent m.names.live

  -- the parent's pairs
  div : Divided l c (node l).low sep r.high (spans (node q).pairs (node q).high) (spans (put sep c (node q).pairs) (node q).high)
  div = put_divides (node q).low (node q).pairs (node q).high l c (node l).low sep r.high qo.rising m.names.has m.inside.0 m.inside.1

  -- and left's
  halves : 0 < (node l).level → spans (node l).pairs (node l).high ≡ ((spans (below sep (node l).pairs) sep) ++ (spans r.pairs r.high))
  halves i =
      let x = m.pair i in
      ap (λ (z : List Pair). spans z (node l).high) (parts (node l).low sep (node l).pairs (node l).high lo.rising)
      ∙ (spans_append (below sep (node l).pairs) (onward sep (node l).pairs) (node l).high
      ∙ (ap (λ (j : ℕ). ((spans (below sep (node l).pairs) j) ++ (spans (onward sep (node l).pairs) (node l).high))) (first_onward (node l).low sep (node l).pairs (node l).high x.0 lo.rising x.1 x.2)
      ∙ (ap (λ (z : List Pair). ((spans (below sep (node l).pairs) sep) ++ (spans z (node l).high))) (sym m.pairs)
      ∙ ap (λ (j : ℕ). ((spans (below sep (node l).pairs) sep) ++ (spans r.pairs j))) lc.high)))

  -- ## Each page is well formed

  formed : (p : ℕ) → p < f.pages → WellFormed f (new p)
  formed p b = go (four p)
    where
      in0 : (node l).low < sep
      in0 = m.inside.0

      in1 : sep < r.high
      in1 = m.inside.1

      left : NodeOk f NewL
      left = record {
        sized = (let a = lo.sized in let b = size_keep (λ (k : ℕ). ltb k sep) (node l).pairs in omega arith);
        tall = lo.tall;
        rising = rising_below (node l).low sep (node l).high (node l).pairs lo.rising (let a = in0 in omega arith);
        values = λ e x h. lo.values e x (keep_has (λ (k : ℕ). ltb k sep) (node l).pairs x h).0;
        children = λ i x h. lo.children i x (keep_has (λ (k : ℕ). ltb k sep) (node l).pairs x h).0;
        first = λ i. (let a = lo.first i in let a1 = a.1 in let b = in0 in let e = first_below sep (node l).pairs (node l).high a.0 (omega arith) in
            (some_if (below sep (node l).pairs) sep (omega arith), e ∙ a.1));
      }

      right : NodeOk f (record { live = true; level = (node l).level; low = sep; high = (node l).high; pairs = onward sep (node l).pairs })
      right = record {
        sized = (let a = lo.sized in let b = size_keep (λ (k : ℕ). leb sep k) (node l).pairs in omega arith);
        tall = lo.tall;
        rising = rising_onward (node l).low sep (node l).high (node l).pairs lo.rising (let a = in1 in let b = lc.high in omega arith);
        values = λ e x h. lo.values e x (keep_has (λ (k : ℕ). leb sep k) (node l).pairs x h).0;
        children = λ i x h. lo.children i x (keep_has (λ (k : ℕ). leb sep k) (node l).pairs x h).0;
        first = λ i. (let a = in1 in let b = lc.high in let x = m.pair i in let e = first_onward (node l).low sep (node l).pairs (node l).high x.0 lo.rising x.1 x.2 in
            (some_if (onward sep (node l).pairs) (node l).high (omega arith), e));
      }

      right_is : NewR ≡ record { live = true; level = (node l).level; low = sep; high = (node l).high; pairs = onward sep (node l).pairs }
      right_is =
          ap (λ (i : ℕ). record { live = true; level = i; low = sep; high = r.high; pairs = r.pairs }) m.level
          ∙ (ap (λ (i : ℕ). record { live = true; level = (node l).level; low = sep; high = i; pairs = r.pairs }) (sym lc.high)
          ∙ ap (λ (z : List Pair). record { live = true; level = (node l).level; low = sep; high = (node l).high; pairs = z }) m.pairs)

      inside : ((node q).low < sep) × (sep < (node q).high)
      inside = let a = in0 in let b = in1 in let s = span_fences f node t q whole m.parent m.names in let s0 = s.0 in let s2 = s.2 in (omega arith, omega arith)

      parent : NodeOk f NewQ
      parent = record {
        sized = (let a = m.room in let b = size_put sep c (node q).pairs in omega arith);
        tall = qo.tall;
        rising = (let i = inside in let i0 = i.0 in rising_put (node q).low sep c (node q).pairs (node q).high qo.rising (omega arith) i.1);
        values = λ e. (let i = m.names.inner in absurd (omega arith));
        children = λ i x h. elim (put_has sep c (node q).pairs x h) [
          | inl e ↦ subst (λ (w : ℕ). (0 < w) × (w < f.pages)) (sym (ap (λ (y : Pair). y.word) e)) (elim (cases_eq c 0) [ inl z ↦ absurd (c_0 z) | inr z ↦ (omega arith, m.right) ])
          | inr h ↦ qo.children i x h
        ];
        first = λ i. (let a = qo.first i in let a1 = a.1 in let b = inside in let b0 = b.0 in let b1 = b.1 in let e = first_put sep c (node q).pairs (node q).high a.0 (omega arith) in
            (some_if (put sep c (node q).pairs) (node q).high (omega arith), e ∙ a.1));
      }

      go : (p ≡ l) ⊎ ((p ≡ c) ⊎ ((p ≡ q) ⊎ ((p ≡ l → ⊥) × (p ≡ c → ⊥) × (p ≡ q → ⊥)))) → WellFormed f (new p)
      go (inl e) = subst (WellFormed f) (sym (at_l p e)) (record { node = λ _. left; other = λ v. not_free (node l).live lc.live v })
      go (inr (inl e)) = subst (WellFormed f) (sym (at_c p e ∙ right_is)) (record { node = λ _. right; other = λ v. absurd (true≢false v) })
      go (inr (inr (inl e))) = subst (WellFormed f) (sym (at_q p e)) (record { node = λ _. parent; other = λ v. not_free (node q).live m.names.live v })
      go (inr (inr (inr e))) = subst (WellFormed f) (sym (at_else p e.0 e.1 e.2)) (t.formed p b)

  -- ## Each child is where its pair says

  -- the parent alone names left, by this span
  not_left : (p : ℕ) (s : Span) → p < f.pages → Names (node p) s → (p ≡ q → s.low ≡ (node l).low → ⊥) → s.child ≡ l → ⊥
  not_left p s b n h e = let o = only f node t p q s whole b m.parent n m.names e in h o.0 (ap (λ (z : Span). z.low) o.1)

  -- an old child but left is a child still
  stays : (p : ℕ) (s : Span) (v : Node) → p < f.pages → Names (node p) s → (s.child ≡ l → ⊥) → v.level ≡ (node p).level → IsChild v (new s.child) s
  stays p s v b n nl e = go (four s.child)
    where
      d : IsChild (node p) (node s.child) s
      d = t.down p b s n

      go : (s.child ≡ l) ⊎ ((s.child ≡ c) ⊎ ((s.child ≡ q) ⊎ ((s.child ≡ l → ⊥) × (s.child ≡ c → ⊥) × (s.child ≡ q → ⊥)))) → IsChild v (new s.child) s
      go (inl z) = absurd (nl z)
      go (inr (inl z)) = not_c s.child d.live z
      go (inr (inr (inl z))) =
          let w = subst (λ (i : ℕ). IsChild (node p) (node i) s) z d in
          subst (λ (x : Node). IsChild v x s) (sym (at_q s.child z)) (record { live = w.live; level = w.level ∙ sym e; low = w.low; high = w.high })
      go (inr (inr (inr z))) = subst (λ (x : Node). IsChild v x s) (sym (at_else s.child z.0 z.1 z.2)) (record { live = d.live; level = d.level ∙ sym e; low = d.low; high = d.high })

  down : (p : ℕ) → p < f.pages → (s : Span) → Names (new p) s → IsChild (new p) (new s.child) s
  down p b s n = go (four p)
    where
      of_left : (v : Node) → v.level ≡ (node l).level → 0 < v.level → Has s (spans (node l).pairs (node l).high) → IsChild v (new s.child) s
      of_left v e i h =
          let o : Names (node l) s = record { live = lc.live; inner = omega arith; has = h } in
          stays l s v l_page.1 o (not_left l s l_page.1 o (λ z w. q_l (sym z))) e

      of_parent : Has s (spans (node q).pairs (node q).high) → (s.low ≡ (node l).low → ⊥) → IsChild NewQ (new s.child) s
      of_parent h w = let o : Names (node q) s = record { live = m.names.live; inner = m.names.inner; has = h } in stays q s NewQ m.parent o (not_left q s m.parent o (λ z. w)) refl

      go : (p ≡ l) ⊎ ((p ≡ c) ⊎ ((p ≡ q) ⊎ ((p ≡ l → ⊥) × (p ≡ c → ⊥) × (p ≡ q → ⊥)))) → IsChild (new p) (new s.child) s
      go (inl e) =
          let o = subst (λ (v : Node). Names v s) (at_l p e) n in
          subst (λ (v : Node). IsChild v (new s.child) s) (sym (at_l p e)) (of_left NewL refl o.inner (subst (Has s) (sym (halves o.inner)) (append_left s (spans (below sep (node l).pairs) sep) (spans r.pairs r.high) o.has)))
      go (inr (inl e)) =
          let o = subst (λ (v : Node). Names v s) (at_c p e) n in let oi = o.inner in let ml = m.level in
          subst (λ (v : Node). IsChild v (new s.child) s) (sym (at_c p e)) (of_left NewR m.level o.inner (subst (Has s) (sym (halves (omega arith))) (append_right s (spans (below sep (node l).pairs) sep) (spans r.pairs r.high) o.has)))
      go (inr (inr (inl e))) =
          let o = subst (λ (v : Node). Names v s) (at_q p e) n in
          subst (λ (v : Node). IsChild v (new s.child) s) (sym (at_q p e)) (which (has_append s div.prefix (record { child = l; low = (node l).low; high = sep } ∷ record { child = c; low = sep; high = r.high } ∷ div.back) (subst (Has s) div.many_is o.has)))
        where
          which : Has s div.prefix ⊎ Has s (record { child = l; low = (node l).low; high = sep } ∷ record { child = c; low = sep; high = r.high } ∷ div.back) → IsChild NewQ (new s.child) s
          which (inl h) = of_parent (subst (Has s) (sym div.few_is) (append_left s div.prefix (whole ∷ div.back) h)) (λ z. (let w = div.before s h in omega arith))
          which (inr (inl h)) = subst (λ (z : Span). IsChild NewQ (new z.child) z) (sym h) (subst (λ (v : Node). IsChild NewQ v (record { child = l; low = (node l).low; high = sep })) (sym (at_l l refl)) (record { live = lc.live; level = lc.level; low = refl; high = refl }))
          which (inr (inr (inl h))) = subst (λ (z : Span). IsChild NewQ (new z.child) z) (sym h) (subst (λ (v : Node). IsChild NewQ v (record { child = c; low = sep; high = r.high })) (sym (at_c c refl)) (record { live = refl; level = ap suc m.level ∙ lc.level; low = refl; high = refl }))
          which (inr (inr (inr h))) = of_parent (subst (Has s) (sym div.few_is) (append_right s div.prefix (whole ∷ div.back) (inr h))) (λ z. (let w = div.behind s h in let a = m.inside.0 in let b = m.inside.1 in omega arith))
      go (inr (inr (inr e))) =
          let o = subst (λ (v : Node). Names v s) (at_else p e.0 e.1 e.2) n in
          subst (λ (v : Node). IsChild v (new s.child) s) (sym (at_else p e.0 e.1 e.2)) (stays p s (node p) b o (not_left p s b o (λ z w. e.2 z)) refl)

  -- ## Each page is named

  in_q : (s : Span) → Has s ((div.prefix ++ (record { child = l; low = (node l).low; high = sep } ∷ record { child = c; low = sep; high = r.high } ∷ div.back))) → Names (new q) s
  in_q s h = subst (λ (v : Node). Names v s) (sym (at_q q refl)) (record { live = m.names.live; inner = m.names.inner; has = subst (Has s) (sym div.many_is) h })

  up : (p : ℕ) → p < f.pages → (new p).live ≡ true → (p ≡ 0 → ⊥) → Parent f new p
  up p b v n = go (four p)
    where
      by_old : (p ≡ l → ⊥) → (node p).live ≡ true → Parent f new p
      by_old nl w = place (t.up p b w n)
        where
          place : Parent f node p → Parent f new p
          place u = find_it (four u.page)
            where
              halves_of : Has u.span (spans (below sep (node l).pairs) sep) ⊎ Has u.span (spans r.pairs r.high) → 0 < (node l).level → Parent f new p
              halves_of (inl h) i = record { page = l; below = l_page.1; span = u.span; names = subst (λ (v : Node). Names v u.span) (sym (at_l l refl)) (record { live = lc.live; inner = i; has = h }); child = u.child }
              halves_of (inr h) i = record { page = c; below = m.right; span = u.span; names = subst (λ (v : Node). Names v u.span) (sym (at_c c refl)) (record { live = refl; inner = (let e = m.level in omega arith); has = h }); child = u.child }

              in_parent : Has u.span div.prefix ⊎ Has u.span (whole ∷ div.back) → Parent f new p
              in_parent (inl h) = record { page = q; below = m.parent; span = u.span; names = in_q u.span (append_left u.span div.prefix (record { child = l; low = (node l).low; high = sep } ∷ record { child = c; low = sep; high = r.high } ∷ div.back) h); child = u.child }
              in_parent (inr (inl h)) = absurd (nl (sym u.child ∙ ap (λ (s : Span). s.child) h))
              in_parent (inr (inr h)) = record { page = q; below = m.parent; span = u.span; names = in_q u.span (append_right u.span div.prefix (record { child = l; low = (node l).low; high = sep } ∷ record { child = c; low = sep; high = r.high } ∷ div.back) (inr (inr h))); child = u.child }

              find_it : (u.page ≡ l) ⊎ ((u.page ≡ c) ⊎ ((u.page ≡ q) ⊎ ((u.page ≡ l → ⊥) × (u.page ≡ c → ⊥) × (u.page ≡ q → ⊥)))) → Parent f new p
              find_it (inl e) = let o = subst (λ (i : ℕ). Names (node i) u.span) e u.names in halves_of (has_append u.span (spans (below sep (node l).pairs) sep) (spans r.pairs r.high) (subst (Has u.span) (halves o.inner) o.has)) o.inner
              find_it (inr (inl e)) = not_c u.page u.names.live e
              find_it (inr (inr (inl e))) = let o = subst (λ (i : ℕ). Names (node i) u.span) e u.names in in_parent (has_append u.span div.prefix (whole ∷ div.back) (subst (Has u.span) div.few_is o.has))
              find_it (inr (inr (inr e))) = record { page = u.page; below = u.below; span = u.span; names = subst (λ (v : Node). Names v u.span) (sym (at_else u.page e.0 e.1 e.2)) u.names; child = u.child }

      go : (p ≡ l) ⊎ ((p ≡ c) ⊎ ((p ≡ q) ⊎ ((p ≡ l → ⊥) × (p ≡ c → ⊥) × (p ≡ q → ⊥)))) → Parent f new p
      go (inl e) = record { page = q; below = m.parent; span = record { child = l; low = (node l).low; high = sep }; names = in_q (record { child = l; low = (node l).low; high = sep }) (append_right (record { child = l; low = (node l).low; high = sep }) div.prefix (record { child = l; low = (node l).low; high = sep } ∷ record { child = c; low = sep; high = r.high } ∷ div.back) (inl refl)); child = sym e }
      go (inr (inl e)) = record { page = q; below = m.parent; span = record { child = c; low = sep; high = r.high }; names = in_q (record { child = c; low = sep; high = r.high }) (append_right (record { child = c; low = sep; high = r.high }) div.prefix (record { child = l; low = (node l).low; high = sep } ∷ record { child = c; low = sep; high = r.high } ∷ div.back) (inr (inl refl))); child = sym e }
      go (inr (inr (inl e))) = by_old (λ z. q_l (sym e ∙ z)) (ap (λ (i : ℕ). (node i).live) e ∙ m.names.live)
      go (inr (inr (inr e))) = by_old e.0 (sym (ap (λ (v : Node). v.live) (at_else p e.0 e.1 e.2)) ∙ v)

  pub split_tree : IsTree f (λ p. applied_as Split r p (node p))
  split_tree = record {
    some = t.some;
    root = go (four 0);
    formed = formed;
    down = down;
    up = up;
  }
    where
      go : (0 ≡ l) ⊎ ((0 ≡ c) ⊎ ((0 ≡ q) ⊎ ((0 ≡ l → ⊥) × (0 ≡ c → ⊥) × (0 ≡ q → ⊥)))) → ((new 0).live ≡ true) × ((new 0).low ≡ 0) × ((new 0).high ≡ f.top)
      go (inl e) = let b = l_page.0 in absurd (omega arith)
      go (inr (inl e)) = absurd (c_0 (sym e))
      go (inr (inr (inl e))) = subst (λ (v : Node). (v.live ≡ true) × (v.low ≡ 0) × (v.high ≡ f.top)) (sym (at_q 0 e)) (subst (λ (i : ℕ). ((node i).live ≡ true) × ((node i).low ≡ 0) × ((node i).high ≡ f.top)) e t.root)
      go (inr (inr (inr e))) = subst (λ (v : Node). (v.live ≡ true) × (v.low ≡ 0) × (v.high ≡ f.top)) (sym (at_else 0 e.0 e.1 e.2)) t.root

  pub split_same : (k : ℕ) → entry f.pages (λ p. applied_as Split r p (node p)) k ≡ entry f.pages node k
  split_same k = same_entry f node new t split_tree k (λ p b w. go p b w (four p))
    where
      halved : LeafWith (node l) k → (k < sep) ⊎ (sep ≤ k) → Heir f new k (find k (node l).pairs)
      halved w (inl u) = record {
        page = l;
        below = l_page.1;
        has = subst (λ (v : Node). LeafWith v k) (sym (at_l l refl)) (record { lies = record { live = lc.live; low = w.lies.low; high = u }; leaf = w.leaf });
        same = ap (λ (v : Node). find k v.pairs) (at_l l refl) ∙ find_keep_on (λ (j : ℕ). ltb j sep) k (node l).pairs (lt-ltb k sep u);
      }
      halved w (inr u) = record {
        page = c;
        below = m.right;
        has = subst (λ (v : Node). LeafWith v k) (sym (at_c c refl)) (record { lies = record { live = refl; low = u; high = (let h = w.lies.high in let e = lc.high in omega arith) }; leaf = m.level ∙ w.leaf });
        same = ap (λ (v : Node). find k v.pairs) (at_c c refl) ∙ (ap (find k) m.pairs ∙ find_keep_on (λ (j : ℕ). leb sep j) k (node l).pairs (le-leb sep k u));
      }

      go : (p : ℕ) → p < f.pages → LeafWith (node p) k → (p ≡ l) ⊎ ((p ≡ c) ⊎ ((p ≡ q) ⊎ ((p ≡ l → ⊥) × (p ≡ c → ⊥) × (p ≡ q → ⊥)))) → Heir f new k (find k (node p).pairs)
      go p b w (inl e) = subst (λ (i : ℕ). Heir f new k (find k (node i).pairs)) (sym e) (halved (subst (λ (i : ℕ). LeafWith (node i) k) e w) (cases_lt k sep))
      go p b w (inr (inl e)) = not_c p w.lies.live e
      go p b w (inr (inr (inl e))) = let z = ap (λ (i : ℕ). (node i).level) e in let i = m.names.inner in let y = w.leaf in absurd (omega arith)
      go p b w (inr (inr (inr e))) = let x = at_else p e.0 e.1 e.2 in record { page = p; below = b; has = subst (λ (v : Node). LeafWith v k) (sym x) w; same = ap (λ (v : Node). find k v.pairs) x }
