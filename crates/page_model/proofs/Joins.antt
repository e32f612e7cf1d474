-- Joins.
use Rattle.std.proofs.Common.{◌++◌, ◌≡◌, ◌<◌, ◌≤◌, ℕ, true, not, ◌==◌, ◌⊎◌, List, ◌∷◌, Option, refl, sym, ap, ◌∙◌, subst, inl, inr, arith, true≢false}
use Rattle.std.proofs.lemmas.Bool.{cases_eq, eq-eqb, ne_eqb}
use Rattle.page_model.specs.Pairs.{Pair, Has, Rising, find, without, first_key, Span, spans}
use Rattle.page_model.specs.Nodes.{Format, Node, free, NodeOk, WellFormed}
use Rattle.page_model.specs.Tree.{Names, IsChild, Parent, IsTree, entry}
use Rattle.page_model.specs.Records.{Record, applied_as}
use Rattle.page_model.specs.Fits.{FitsJoin}
use Rattle.page_model.specs.Records.Kind.{Join}
use Rattle.page_model.proofs.Pairs.{has_append, append_left, append_right, size_append, rising_append, rising_keep, keep_has, size_keep, find_append_left, find_append_right}
use Rattle.page_model.proofs.Spans.{Divided, without_divides, spans_append, first_append, first_any, first_without, some_if}
use Rattle.page_model.proofs.Tree.{ok, not_free, child_page, span_fences, only}
use Rattle.page_model.proofs.Entries.{LeafWith, same_entry, Heir}
use Rattle.page_model.proofs.Roots.{free_formed}

module _ (f : Format) (node : ℕ → Node) (t : IsTree f node) (r : Record) (m : FitsJoin f node r) where
  abbrev new : ℕ → Node
  new p = applied_as Join r p (node p)

  abbrev l : ℕ
  l = r.left.page

  abbrev c : ℕ
  c = r.right.page

  abbrev q : ℕ
  q = r.parent.page

  abbrev sep : ℕ
  sep = r.sep

  abbrev first_span : Span
  first_span = record { child = r.left.page; low = (node r.left.page).low; high = r.sep }

  abbrev second_span : Span
  second_span = record { child = r.right.page; low = r.sep; high = r.high }

  abbrev whole : Span
  whole = record { child = r.left.page; low = (node r.left.page).low; high = r.high }

  abbrev NewL : Node
  NewL = record { live = (node l).live; level = (node l).level; low = (node l).low; high = r.high; pairs = ((node l).pairs ++ r.pairs) }

  abbrev NewQ : Node
  NewQ = record { live = (node q).live; level = (node q).level; low = (node q).low; high = (node q).high; pairs = without sep (node q).pairs }

  lc : IsChild (node q) (node l) first_span
  lc = t.down q m.parent first_span m.left_named

  rc : IsChild (node q) (node c) second_span
  rc = t.down q m.parent second_span m.right_named

  l_page : (0 < l) × (l < f.pages)
  l_page = child_page f node t q first_span m.parent m.left_named

  c_page : (0 < c) × (c < f.pages)
  c_page = child_page f node t q second_span m.parent m.right_named

  low_sep : (node l).low < sep
  low_sep = (span_fences f node t q first_span m.parent m.left_named).1

  sep_high : sep < r.high
  sep_high = (span_fences f node t q second_span m.parent m.right_named).1

  c_l : c ≡ l → ⊥
  c_l e = let z = ap (λ (i : ℕ). (node i).low) e in let a = low_sep in let b = rc.low in omega arith

  q_l : q ≡ l → ⊥
  q_l e = let z = ap (λ (i : ℕ). (node i).level) e in let v = lc.level in omega arith

  q_c : q ≡ c → ⊥
  q_c e = let z = ap (λ (i : ℕ). (node i).level) e in let v = rc.level in omega arith

  at_l : (p : ℕ) → p ≡ l → new p ≡ NewL
  at_l p e = ap new e ∙ rw (eq-eqb l l refl) refl

  at_c : (p : ℕ) → p ≡ c → new p ≡ free
  at_c p e = ap new e ∙ rw (ne_eqb c l c_l, eq-eqb c c refl) refl

  at_q : (p : ℕ) → p ≡ q → new p ≡ NewQ
  at_q p e = ap new e ∙ rw (ne_eqb q l q_l, ne_eqb q c q_c, eq-eqb q q refl) refl

  at_else : (p : ℕ) → (p ≡ l → ⊥) → (p ≡ c → ⊥) → (p ≡ q → ⊥) → new p ≡ node p
  at_else p a b d = rw (ne_eqb p l a, ne_eqb p c b, ne_eqb p q d) refl

  four : (p : ℕ) → (p ≡ l) ⊎ ((p ≡ c) ⊎ ((p ≡ q) ⊎ ((p ≡ l → ⊥) × (p ≡ c → ⊥) × (p ≡ q → ⊥))))
  four p = elim (cases_eq p l) [ inl e ↦ inl e | inr a ↦ elim (cases_eq p c) [ inl e ↦ inr (inl e) | inr b ↦ elim (cases_eq p q) [ inl e ↦ inr (inr (inl e)) | inr d ↦ inr (inr (inr (a, b, d))) ] ] ]

  lo : NodeOk f (node l)
  lo = ok f node t l l_page.1 lc.live

  ro : NodeOk f (node c)
  ro = ok f node t c c_page.1 rc.live

  qo : NodeOk f (node q)
  qo = ok f node t q m.parent m.left_named.live

  same_level : (node c).level ≡ (node l).level
  same_level = let a = lc.level in let b = rc.level in omega arith

  -- the parent's pairs
  div : Divided l c (node l).low sep r.high (spans (without sep (node q).pairs) (node q).high) (spans (node q).pairs (node q).high)
  div = without_divides (node q).low (node q).pairs (node q).high l c (node l).low sep r.high qo.rising m.left_named.has m.right_named.has

  -- and left's
  halves : 0 < (node l).level → spans (((node l).pairs ++ r.pairs)) r.high ≡ ((spans (node l).pairs (node l).high) ++ (spans (node c).pairs (node c).high))
  halves i =
      let e = same_level in
      ap (λ (z : List Pair). spans (((node l).pairs ++ z)) r.high) m.pairs
      ∙ (spans_append (node l).pairs (node c).pairs r.high
      ∙ (ap (λ (j : ℕ). ((spans (node l).pairs (first_key (node c).pairs j)) ++ (spans (node c).pairs j))) (sym rc.high)
      ∙ ap (λ (j : ℕ). ((spans (node l).pairs j) ++ (spans (node c).pairs (node c).high))) ((ro.first (omega arith)).1 ∙ (rc.low ∙ sym lc.high))))

  -- ## Each page is well formed

  rising : Rising (node l).low (((node l).pairs ++ (node c).pairs)) r.high
  rising = rising_append (node l).low sep r.high (node l).pairs (node c).pairs
      (subst (λ (j : ℕ). Rising (node l).low (node l).pairs j) lc.high lo.rising)
      (subst (λ (j : ℕ). Rising j (node c).pairs r.high) rc.low (subst (λ (j : ℕ). Rising (node c).low (node c).pairs j) rc.high ro.rising))

  formed : (p : ℕ) → p < f.pages → WellFormed f (new p)
  formed p b = go (four p)
    where
      left : NodeOk f (record { live = (node l).live; level = (node l).level; low = (node l).low; high = r.high; pairs = ((node l).pairs ++ (node c).pairs) })
      left = record {
        sized = (let a = size_append (node l).pairs (node c).pairs in let b = m.room in omega arith);
        tall = lo.tall;
        rising = rising;
        values = λ e x h. elim (has_append x (node l).pairs (node c).pairs h) [ inl h ↦ lo.values e x h | inr h ↦ ro.values (same_level ∙ e) x h ];
        children = λ i x h. elim (has_append x (node l).pairs (node c).pairs h) [ inl h ↦ lo.children i x h | inr h ↦ ro.children (let e = same_level in omega arith) x h ];
        first = λ i. (let a = lo.first i in let a1 = a.1 in let g = first_append (node l).pairs (node c).pairs r.high in let d = first_any (node l).pairs (first_key (node c).pairs r.high) (node l).high a.0 in
            let x = low_sep in let y = sep_high in
            (some_if (((node l).pairs ++ (node c).pairs)) r.high (omega arith), g ∙ (d ∙ a.1)));
      }

      left_is : NewL ≡ record { live = (node l).live; level = (node l).level; low = (node l).low; high = r.high; pairs = ((node l).pairs ++ (node c).pairs) }
      left_is = ap (λ (z : List Pair). record { live = (node l).live; level = (node l).level; low = (node l).low; high = r.high; pairs = ((node l).pairs ++ z) }) m.pairs

      parent : NodeOk f NewQ
      parent = record {
        sized = (let a = qo.sized in let b = size_keep (λ (k : ℕ). not (k == sep)) (node q).pairs in omega arith);
        tall = qo.tall;
        rising = rising_keep (λ (k : ℕ). not (k == sep)) (node q).low (node q).pairs (node q).high qo.rising;
        values = λ e. (let i = m.left_named.inner in absurd (omega arith));
        children = λ i x h. qo.children i x (keep_has (λ (k : ℕ). not (k == sep)) (node q).pairs x h).0;
        first = λ i. (let a = qo.first i in let a1 = a.1 in
            let s = span_fences f node t q first_span m.parent m.left_named in let s0 = s.0 in let s1 = s.1 in let s2 = s.2 in
            let e = first_without sep (node q).pairs (node q).high a.0 (omega arith) in
            (some_if (without sep (node q).pairs) (node q).high (omega arith), e ∙ a.1));
      }

      go : (p ≡ l) ⊎ ((p ≡ c) ⊎ ((p ≡ q) ⊎ ((p ≡ l → ⊥) × (p ≡ c → ⊥) × (p ≡ q → ⊥)))) → WellFormed f (new p)
      go (inl e) = subst (WellFormed f) (sym (at_l p e ∙ left_is)) (record { node = λ _. left; other = λ v. not_free (node l).live lc.live v })
      go (inr (inl e)) = subst (WellFormed f) (sym (at_c p e)) (free_formed f)
      go (inr (inr (inl e))) = subst (WellFormed f) (sym (at_q p e)) (record { node = λ _. parent; other = λ v. not_free (node q).live m.left_named.live v })
      go (inr (inr (inr e))) = subst (WellFormed f) (sym (at_else p e.0 e.1 e.2)) (t.formed p b)

  -- ## Each child is where its pair says

  -- the parent alone names left and right, by their spans
  neither : (p : ℕ) (s : Span) → p < f.pages → Names (node p) s → (p ≡ q → (s.low ≡ (node l).low → ⊥) × (s.low ≡ sep → ⊥)) → (s.child ≡ l → ⊥) × (s.child ≡ c → ⊥)
  neither p s b n h = (
    λ e. (let o = only f node t p q s first_span b m.parent n m.left_named e in (h o.0).0 (ap (λ (z : Span). z.low) o.1)),
    λ e. (let o = only f node t p q s second_span b m.parent n m.right_named e in (h o.0).1 (ap (λ (z : Span). z.low) o.1)),
  )

  -- another old child is a child still
  stays : (p : ℕ) (s : Span) (v : Node) → p < f.pages → Names (node p) s → (s.child ≡ l → ⊥) × (s.child ≡ c → ⊥) → v.level ≡ (node p).level → IsChild v (new s.child) s
  stays p s v b n nl e = go (four s.child)
    where
      d : IsChild (node p) (node s.child) s
      d = t.down p b s n

      go : (s.child ≡ l) ⊎ ((s.child ≡ c) ⊎ ((s.child ≡ q) ⊎ ((s.child ≡ l → ⊥) × (s.child ≡ c → ⊥) × (s.child ≡ q → ⊥)))) → IsChild v (new s.child) s
      go (inl z) = absurd (nl.0 z)
      go (inr (inl z)) = absurd (nl.1 z)
      go (inr (inr (inl z))) =
          let w = subst (λ (i : ℕ). IsChild (node p) (node i) s) z d in
          subst (λ (x : Node). IsChild v x s) (sym (at_q s.child z)) (record { live = w.live; level = w.level ∙ sym e; low = w.low; high = w.high })
      go (inr (inr (inr z))) = subst (λ (x : Node). IsChild v x s) (sym (at_else s.child z.0 z.1 z.2)) (record { live = d.live; level = d.level ∙ sym e; low = d.low; high = d.high })

  down : (p : ℕ) → p < f.pages → (s : Span) → Names (new p) s → IsChild (new p) (new s.child) s
  down p b s n = go (four p)
    where
      of_left : Has s (spans (node l).pairs (node l).high) ⊎ Has s (spans (node c).pairs (node c).high) → 0 < (node l).level → IsChild NewL (new s.child) s
      of_left (inl h) i = let o : Names (node l) s = record { live = lc.live; inner = i; has = h } in
          stays l s NewL l_page.1 o (neither l s l_page.1 o (λ z. absurd (q_l (sym z)))) refl
      of_left (inr h) i = let e = same_level in let o : Names (node c) s = record { live = rc.live; inner = omega arith; has = h } in
          stays c s NewL c_page.1 o (neither c s c_page.1 o (λ z. absurd (q_c (sym z)))) (sym same_level)

      of_parent : Has s (spans (node q).pairs (node q).high) → (s.low ≡ (node l).low → ⊥) → (s.low ≡ sep → ⊥) → IsChild NewQ (new s.child) s
      of_parent h w x = let o : Names (node q) s = record { live = m.left_named.live; inner = m.left_named.inner; has = h } in stays q s NewQ m.parent o (neither q s m.parent o (λ z. (w, x))) refl

      go : (p ≡ l) ⊎ ((p ≡ c) ⊎ ((p ≡ q) ⊎ ((p ≡ l → ⊥) × (p ≡ c → ⊥) × (p ≡ q → ⊥)))) → IsChild (new p) (new s.child) s
      go (inl e) =
          let o = subst (λ (v : Node). Names v s) (at_l p e) n in
          subst (λ (v : Node). IsChild v (new s.child) s) (sym (at_l p e)) (of_left (has_append s (spans (node l).pairs (node l).high) (spans (node c).pairs (node c).high) (subst (Has s) (halves o.inner) o.has)) o.inner)
      go (inr (inl e)) = absurd (true≢false (sym n.live ∙ ap (λ (v : Node). v.live) (at_c p e)))
      go (inr (inr (inl e))) =
          let o = subst (λ (v : Node). Names v s) (at_q p e) n in
          subst (λ (v : Node). IsChild v (new s.child) s) (sym (at_q p e)) (which (has_append s div.prefix (whole ∷ div.back) (subst (Has s) div.few_is o.has)))
        where
          which : Has s div.prefix ⊎ Has s (whole ∷ div.back) → IsChild NewQ (new s.child) s
          which (inl h) = let w = div.before s h in let a = low_sep in of_parent (subst (Has s) (sym div.many_is) (append_left s div.prefix (first_span ∷ second_span ∷ div.back) h)) (λ z. omega arith) (λ z. omega arith)
          which (inr (inl h)) = subst (λ (z : Span). IsChild NewQ (new z.child) z) (sym h) (subst (λ (v : Node). IsChild NewQ v whole) (sym (at_l l refl)) (record { live = lc.live; level = lc.level; low = refl; high = refl }))
          which (inr (inr h)) = let w = div.behind s h in let a = low_sep in let b = sep_high in of_parent (subst (Has s) (sym div.many_is) (append_right s div.prefix (first_span ∷ second_span ∷ div.back) (inr (inr h)))) (λ z. omega arith) (λ z. omega arith)
      go (inr (inr (inr e))) =
          let o = subst (λ (v : Node). Names v s) (at_else p e.0 e.1 e.2) n in
          subst (λ (v : Node). IsChild v (new s.child) s) (sym (at_else p e.0 e.1 e.2)) (stays p s (node p) b o (neither p s b o (λ z. absurd (e.2 z))) refl)

  -- ## Each page is named

  in_q : (s : Span) → Has s ((div.prefix ++ (whole ∷ div.back))) → Names (new q) s
  in_q s h = subst (λ (v : Node). Names v s) (sym (at_q q refl)) (record { live = m.left_named.live; inner = m.left_named.inner; has = subst (Has s) (sym div.few_is) h })

  in_l : (s : Span) → 0 < (node l).level → Has s (((spans (node l).pairs (node l).high) ++ (spans (node c).pairs (node c).high))) → Names (new l) s
  in_l s i h = subst (λ (v : Node). Names v s) (sym (at_l l refl)) (record { live = lc.live; inner = i; has = subst (Has s) (sym (halves i)) h })

  up : (p : ℕ) → p < f.pages → (new p).live ≡ true → (p ≡ 0 → ⊥) → Parent f new p
  up p b v n = go (four p)
    where
      by_old : (p ≡ l → ⊥) → (p ≡ c → ⊥) → (node p).live ≡ true → Parent f new p
      by_old nl nc w = place (t.up p b w n)
        where
          place : Parent f node p → Parent f new p
          place u = find_it (four u.page)
            where
              in_parent : Has u.span div.prefix ⊎ Has u.span (first_span ∷ second_span ∷ div.back) → Parent f new p
              in_parent (inl h) = record { page = q; below = m.parent; span = u.span; names = in_q u.span (append_left u.span div.prefix (whole ∷ div.back) h); child = u.child }
              in_parent (inr (inl h)) = absurd (nl (sym u.child ∙ ap (λ (s : Span). s.child) h))
              in_parent (inr (inr (inl h))) = absurd (nc (sym u.child ∙ ap (λ (s : Span). s.child) h))
              in_parent (inr (inr (inr h))) = record { page = q; below = m.parent; span = u.span; names = in_q u.span (append_right u.span div.prefix (whole ∷ div.back) (inr h)); child = u.child }

              find_it : (u.page ≡ l) ⊎ ((u.page ≡ c) ⊎ ((u.page ≡ q) ⊎ ((u.page ≡ l → ⊥) × (u.page ≡ c → ⊥) × (u.page ≡ q → ⊥)))) → Parent f new p
              find_it (inl e) = let o = subst (λ (i : ℕ). Names (node i) u.span) e u.names in
                  record { page = l; below = l_page.1; span = u.span; names = in_l u.span o.inner (append_left u.span (spans (node l).pairs (node l).high) (spans (node c).pairs (node c).high) o.has); child = u.child }
              find_it (inr (inl e)) = let o = subst (λ (i : ℕ). Names (node i) u.span) e u.names in let oi = o.inner in let x = same_level in
                  record { page = l; below = l_page.1; span = u.span; names = in_l u.span (omega arith) (append_right u.span (spans (node l).pairs (node l).high) (spans (node c).pairs (node c).high) o.has); child = u.child }
              find_it (inr (inr (inl e))) = let o = subst (λ (i : ℕ). Names (node i) u.span) e u.names in in_parent (has_append u.span div.prefix (first_span ∷ second_span ∷ div.back) (subst (Has u.span) div.many_is o.has))
              find_it (inr (inr (inr e))) = record { page = u.page; below = u.below; span = u.span; names = subst (λ (v : Node). Names v u.span) (sym (at_else u.page e.0 e.1 e.2)) u.names; child = u.child }

      go : (p ≡ l) ⊎ ((p ≡ c) ⊎ ((p ≡ q) ⊎ ((p ≡ l → ⊥) × (p ≡ c → ⊥) × (p ≡ q → ⊥)))) → Parent f new p
      go (inl e) = record { page = q; below = m.parent; span = whole; names = in_q whole (append_right whole div.prefix (whole ∷ div.back) (inl refl)); child = sym e }
      go (inr (inl e)) = absurd (true≢false (sym v ∙ ap (λ (v : Node). v.live) (at_c p e)))
      go (inr (inr (inl e))) = by_old (λ z. q_l (sym e ∙ z)) (λ z. q_c (sym e ∙ z)) (ap (λ (i : ℕ). (node i).live) e ∙ m.left_named.live)
      go (inr (inr (inr e))) = by_old e.0 e.1 (sym (ap (λ (v : Node). v.live) (at_else p e.0 e.1 e.2)) ∙ v)

  pub join_tree : IsTree f (λ p. applied_as Join r p (node p))
  join_tree = record {
    some = t.some;
    root = go (four 0);
    formed = formed;
    down = down;
    up = up;
  }
    where
      go : (0 ≡ l) ⊎ ((0 ≡ c) ⊎ ((0 ≡ q) ⊎ ((0 ≡ l → ⊥) × (0 ≡ c → ⊥) × (0 ≡ q → ⊥)))) → ((new 0).live ≡ true) × ((new 0).low ≡ 0) × ((new 0).high ≡ f.top)
      go (inl e) = let b = l_page.0 in absurd (omega arith)
      go (inr (inl e)) = let b = c_page.0 in absurd (omega arith)
      go (inr (inr (inl e))) = subst (λ (v : Node). (v.live ≡ true) × (v.low ≡ 0) × (v.high ≡ f.top)) (sym (at_q 0 e)) (subst (λ (i : ℕ). ((node i).live ≡ true) × ((node i).low ≡ 0) × ((node i).high ≡ f.top)) e t.root)
      go (inr (inr (inr e))) = subst (λ (v : Node). (v.live ≡ true) × (v.low ≡ 0) × (v.high ≡ f.top)) (sym (at_else 0 e.0 e.1 e.2)) t.root

  pub join_same : (k : ℕ) → entry f.pages (λ p. applied_as Join r p (node p)) k ≡ entry f.pages node k
  join_same k = same_entry f node new t join_tree k (λ p b w. go p b w (four p))
    where
      l_rising : Rising (node l).low (node l).pairs sep
      l_rising = subst (λ (j : ℕ). Rising (node l).low (node l).pairs j) lc.high lo.rising

      r_rising : Rising sep (node c).pairs (node c).high
      r_rising = subst (λ (j : ℕ). Rising j (node c).pairs (node c).high) rc.low ro.rising

      joined : ((node l).low ≤ k) × (k < r.high) → (node l).level ≡ 0 → (w : Option ℕ) → find k (((node l).pairs ++ (node c).pairs)) ≡ w → Heir f new k w
      joined i e w g = record {
        page = l;
        below = l_page.1;
        has = subst (λ (v : Node). LeafWith v k) (sym (at_l l refl)) (record { lies = record { live = lc.live; low = i.0; high = i.1 }; leaf = e });
        same = ap (λ (v : Node). find k v.pairs) (at_l l refl) ∙ (ap (λ (z : List Pair). find k (((node l).pairs ++ z))) m.pairs ∙ g);
      }

      go : (p : ℕ) → p < f.pages → LeafWith (node p) k → (p ≡ l) ⊎ ((p ≡ c) ⊎ ((p ≡ q) ⊎ ((p ≡ l → ⊥) × (p ≡ c → ⊥) × (p ≡ q → ⊥)))) → Heir f new k (find k (node p).pairs)
      go p b w (inl e) =
          let x = subst (λ (i : ℕ). LeafWith (node i) k) e w in let x0 = x.lies.low in let x1 = x.lies.high in let y = lc.high in let z = sep_high in
          subst (λ (i : ℕ). Heir f new k (find k (node i).pairs)) (sym e) (joined (x0, omega arith) x.leaf (find k (node l).pairs) (find_append_left (node l).low sep (node c).high k (node l).pairs (node c).pairs l_rising r_rising (omega arith)))
      go p b w (inr (inl e)) =
          let x = subst (λ (i : ℕ). LeafWith (node i) k) e w in let x0 = x.lies.low in let x1 = x.lies.high in let y = rc.low in let y1 = rc.high in let z = low_sep in
          subst (λ (i : ℕ). Heir f new k (find k (node i).pairs)) (sym e) (joined (omega arith, omega arith) (sym same_level ∙ x.leaf) (find k (node c).pairs) (find_append_right (node l).low sep k (node l).pairs (node c).pairs l_rising (omega arith)))
      go p b w (inr (inr (inl e))) = let z = ap (λ (i : ℕ). (node i).level) e in let i = m.left_named.inner in let y = w.leaf in absurd (omega arith)
      go p b w (inr (inr (inr e))) = let x = at_else p e.0 e.1 e.2 in record { page = p; below = b; has = subst (λ (v : Node). LeafWith v k) (sym x) w; same = ap (λ (v : Node). find k v.pairs) x }
