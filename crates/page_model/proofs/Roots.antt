-- Lift and drop: the records of the root.
use Rattle.std.proofs.Common.{length, ◌≡◌, ◌<◌, ◌≤◌, ℕ, suc, Bool, true, ◌==◌, ◌⊎◌, List, [], ◌∷◌, if◌then◌else◌, refl, sym, ap, ◌∙◌, subst, inl, inr, arith, true≢false}
use Rattle.std.proofs.lemmas.Bool.{cases_eq, eq-eqb, ne_eqb, cond-true, cond-false}
use Rattle.page_model.specs.Pairs.{Pair, Has, find, first_key, Span, spans}
use Rattle.page_model.specs.Nodes.{Format, Node, free, WellFormed}
use Rattle.page_model.specs.Tree.{Names, IsChild, Parent, IsTree, entry}
use Rattle.page_model.specs.Records.{Record, applied_as}
use Rattle.page_model.specs.Fits.{FitsLift, FitsDrop}
use Rattle.page_model.specs.Records.Kind.{Lift, Drop}
use Rattle.page_model.proofs.Tree.{ok, not_free, child_page, only}
use Rattle.page_model.proofs.Entries.{LeafWith, same_entry}

pub free_formed : (f : Format) → WellFormed f free
free_formed f = record { node = λ e. absurd (true≢false (sym e)); other = λ _. refl }

-- ## Lift

module _ (f : Format) (node : ℕ → Node) (t : IsTree f node) (r : Record) (m : FitsLift f node r) where
  abbrev new : ℕ → Node
  new p = applied_as Lift r p (node p)

  abbrev c : ℕ
  c = r.right.page

  abbrev Top : Node
  Top = record { live = (node 0).live; level = suc r.level; low = (node 0).low; high = (node 0).high; pairs = record { key = 0; word = r.right.page } ∷ [] }

  abbrev Low : Node
  Low = record { live = true; level = r.level; low = 0; high = r.high; pairs = r.pairs }

  apart : c ≡ 0 → ⊥
  apart e = not_free (node 0).live t.root.0 (ap (λ (i : ℕ). (node i).live) (sym e) ∙ m.empty)

  at_0 : new 0 ≡ Top
  at_0 = refl

  at_c : (p : ℕ) → p ≡ c → new p ≡ Low
  at_c p e = cond-false (p == 0) (record { live = (node p).live; level = suc r.level; low = (node p).low; high = (node p).high; pairs = record { key = 0; word = r.right.page } ∷ [] }) (if p == c then Low else node p) (ne_eqb p 0 (λ q. apart (sym e ∙ q))) ∙ cond-true (p == c) Low (node p) (eq-eqb p c e)

  at_else : (p : ℕ) → (p ≡ 0 → ⊥) → (p ≡ c → ⊥) → new p ≡ node p
  at_else p a b = cond-false (p == 0) (record { live = (node p).live; level = suc r.level; low = (node p).low; high = (node p).high; pairs = record { key = 0; word = r.right.page } ∷ [] }) (if p == c then Low else node p) (ne_eqb p 0 a) ∙ cond-false (p == c) Low (node p) (ne_eqb p c b)

  -- the new page is as the root was
  as_root : Low ≡ node 0
  as_root =
      ap (λ (b : Bool). record { live = b; level = r.level; low = 0; high = r.high; pairs = r.pairs }) (sym t.root.0)
      ∙ (ap (λ (i : ℕ). record { live = (node 0).live; level = i; low = 0; high = r.high; pairs = r.pairs }) m.level
      ∙ (ap (λ (i : ℕ). record { live = (node 0).live; level = (node 0).level; low = i; high = r.high; pairs = r.pairs }) (sym t.root.1)
      ∙ (ap (λ (i : ℕ). record { live = (node 0).live; level = (node 0).level; low = (node 0).low; high = i; pairs = r.pairs }) m.high
      ∙ ap (λ (z : List Pair). record { live = (node 0).live; level = (node 0).level; low = (node 0).low; high = (node 0).high; pairs = z }) m.pairs)))

  at_new : (p : ℕ) → p ≡ c → new p ≡ node 0
  at_new p e = at_c p e ∙ as_root

  formed : (p : ℕ) → p < f.pages → WellFormed f (new p)
  formed p l = elim (cases_eq p 0) [
    | inl e ↦ subst (λ (i : ℕ). WellFormed f (new i)) (sym e) (record {
      node = λ v. (let some = f.some in let lv = m.level in let lo = m.low in let r1 = t.root.1 in let rr = (ok f node t 0 t.some t.root.0).rising in record {
        sized = omega arith;
        tall = omega arith;
        rising = (omega arith, one_key);
        values = λ z. absurd (omega arith);
        children = λ z x h. elim h [ inl e ↦ (let w = ap (λ (y : Pair). y.word) e in let b = m.right in let n = apart in go_word x.word w) | inr h ↦ absurd h ];
        first = λ z. (λ e. (let w = ap (λ (y : List Pair). length y) e in omega arith), sym t.root.1);
      });
      other = λ v. not_free (node 0).live t.root.0 v;
    })
    | inr a ↦ elim (cases_eq p c) [
      | inl e ↦ subst (WellFormed f) (sym (at_new p e)) (t.formed 0 t.some)
      | inr b ↦ subst (WellFormed f) (sym (at_else p a b)) (t.formed p l)
    ]
  ]
    where
      go_word : (w : ℕ) → w ≡ c → (0 < w) × (w < f.pages)
      go_word w e = elim (cases_eq w 0) [ inl z ↦ absurd (apart (sym e ∙ z)) | inr z ↦ (omega arith, let b = m.right in omega arith) ]

      one_key : 1 ≤ (node 0).high
      one_key = let a = f.wide in let b = t.root.2 in omega arith

  child_else : (q : ℕ) (s : Span) → q < f.pages → Names (node q) s → new s.child ≡ node s.child
  child_else q s l n = let p = (child_page f node t q s l n).0 in at_else s.child (λ e. omega arith) (λ e. not_free (node s.child).live (t.down q l s n).live (ap (λ (i : ℕ). (node i).live) e ∙ m.empty))

  -- the pages that name a child do so still, by the page that they are now
  child_of : (v : Node) (q : ℕ) (s : Span) → v ≡ node q → q < f.pages → Names v s → IsChild v (new s.child) s
  child_of v q s e l n =
      let o = subst (λ (v : Node). Names v s) e n in
      subst (λ (v : Node). IsChild v (new s.child) s) (sym e) (subst (λ (w : Node). IsChild (node q) w s) (sym (child_else q s l o)) (t.down q l s o))

  down : (q : ℕ) → q < f.pages → (s : Span) → Names (new q) s → IsChild (new q) (new s.child) s
  down q l s n = elim (cases_eq q 0) [
    | inl e ↦ (let h : Has s (spans Top.pairs Top.high) = subst (λ (i : ℕ). Has s (spans (new i).pairs (new i).high)) e n.has in elim h [
      | inl z ↦ (let z0 = ap (λ (y : Span). y.child) z in let w = at_new s.child z0 in let r1 = t.root.1 in let z1 = ap (λ (y : Span). y.low) z in let z2 = ap (λ (y : Span). y.high) z in
          subst (λ (i : ℕ). IsChild (new i) (new s.child) s) (sym e) (record {
            live = ap (λ (v : Node). v.live) w ∙ t.root.0;
            level = ap (λ (v : Node). suc v.level) w ∙ ap suc (sym m.level);
            low = ap (λ (v : Node). v.low) w ∙ (t.root.1 ∙ sym z1);
            high = ap (λ (v : Node). v.high) w ∙ sym z2;
          }))
      | inr z ↦ absurd z
    ])
    | inr a ↦ elim (cases_eq q c) [
      | inl e ↦ child_of (new q) 0 s (at_new q e) t.some n
      | inr b ↦ child_of (new q) q s (at_else q a b) l n
    ]
  ]

  up : (p : ℕ) → p < f.pages → (new p).live ≡ true → (p ≡ 0 → ⊥) → Parent f new p
  up p l v n = elim (cases_eq p c) [
    | inl e ↦ record { page = 0; below = t.some; span = record { child = c; low = 0; high = (node 0).high }; names = record { live = t.root.0; inner = omega arith; has = inl refl }; child = sym e }
    | inr b ↦ (let u = t.up p l (sym (ap (λ (v : Node). v.live) (at_else p n b)) ∙ v) n in elim (cases_eq u.page 0) [
      | inl e ↦ record { page = c; below = m.right; span = u.span; names = subst (λ (v : Node). Names v u.span) (ap node e ∙ sym (at_new c refl)) u.names; child = u.child }
      | inr a ↦ record { page = u.page; below = u.below; span = u.span; names = subst (λ (v : Node). Names v u.span) (sym (at_else u.page a (λ e. not_free (node u.page).live u.names.live (ap (λ (i : ℕ). (node i).live) e ∙ m.empty)))) u.names; child = u.child }
    ])
  ]

  pub lift_tree : IsTree f (λ p. applied_as Lift r p (node p))
  lift_tree = record { some = t.some; root = t.root; formed = formed; down = down; up = up }

  pub lift_same : (k : ℕ) → entry f.pages (λ p. applied_as Lift r p (node p)) k ≡ entry f.pages node k
  lift_same k = same_entry f node new t lift_tree k (λ p l w. elim (cases_eq p 0) [
    | inl e ↦ (let q = at_new c refl ∙ ap node (sym e) in record { page = c; below = m.right; has = subst (λ (v : Node). LeafWith v k) (sym q) w; same = ap (λ (v : Node). find k v.pairs) q })
    | inr a ↦ (let q = at_else p a (λ e. not_free (node p).live w.lies.live (ap (λ (i : ℕ). (node i).live) e ∙ m.empty)) in
        record { page = p; below = l; has = subst (λ (v : Node). LeafWith v k) (sym q) w; same = ap (λ (v : Node). find k v.pairs) q })
  ])

-- ## Drop

module _ (f : Format) (node : ℕ → Node) (t : IsTree f node) (r : Record) (m : FitsDrop f node r) where
  abbrev now : ℕ → Node
  now p = applied_as Drop r p (node p)

  abbrev d : ℕ
  d = r.right.page

  abbrev Root : Node
  Root = record { live = (node 0).live; level = r.level; low = (node 0).low; high = (node 0).high; pairs = r.pairs }

  abbrev single : Span
  single = record { child = r.right.page; low = m.one.0; high = (node 0).high }

  names_d : Names (node 0) single
  names_d = record { live = t.root.0; inner = m.inner; has = subst (λ (z : List Pair). Has single (spans z (node 0).high)) (sym m.one.1) (inl refl) }

  only_d : (s : Span) → Names (node 0) s → s ≡ single
  only_d s n = let h : Has s (spans (record { key = m.one.0; word = r.right.page } ∷ []) (node 0).high) = subst (λ (z : List Pair). Has s (spans z (node 0).high)) m.one.1 n.has in elim h [ inl e ↦ e | inr e ↦ absurd e ]

  d_page : (0 < d) × (d < f.pages)
  d_page = child_page f node t 0 single t.some names_d

  d_child : IsChild (node 0) (node d) single
  d_child = t.down 0 t.some single names_d

  as_d : Root ≡ node d
  as_d =
      ap (λ (b : Bool). record { live = b; level = r.level; low = (node 0).low; high = (node 0).high; pairs = r.pairs }) (t.root.0 ∙ sym d_child.live)
      ∙ (ap (λ (i : ℕ). record { live = (node d).live; level = i; low = (node 0).low; high = (node 0).high; pairs = r.pairs }) m.level
      ∙ (ap (λ (i : ℕ). record { live = (node d).live; level = (node d).level; low = i; high = (node 0).high; pairs = r.pairs }) (sym low_same)
      ∙ (ap (λ (i : ℕ). record { live = (node d).live; level = (node d).level; low = (node d).low; high = i; pairs = r.pairs }) (sym d_child.high)
      ∙ ap (λ (z : List Pair). record { live = (node d).live; level = (node d).level; low = (node d).low; high = (node d).high; pairs = z }) m.pairs)))
    where
      low_same : (node d).low ≡ (node 0).low
      low_same = d_child.low ∙ (ap (λ (z : List Pair). first_key z (node 0).high) (sym m.one.1) ∙ ((ok f node t 0 t.some t.root.0).first m.inner).1)

  now_0 : (p : ℕ) → p ≡ 0 → now p ≡ node d
  now_0 p e = ap now e ∙ as_d

  now_d : (p : ℕ) → p ≡ d → now p ≡ free
  now_d p e = let b = d_page.0 in cond-false (p == 0) (record { live = (node p).live; level = r.level; low = (node p).low; high = (node p).high; pairs = r.pairs }) (if p == d then free else node p) (ne_eqb p 0 (λ q. omega arith)) ∙ cond-true (p == d) free (node p) (eq-eqb p d e)

  now_else : (p : ℕ) → (p ≡ 0 → ⊥) → (p ≡ d → ⊥) → now p ≡ node p
  now_else p a b = cond-false (p == 0) (record { live = (node p).live; level = r.level; low = (node p).low; high = (node p).high; pairs = r.pairs }) (if p == d then free else node p) (ne_eqb p 0 a) ∙ cond-false (p == d) free (node p) (ne_eqb p d b)

  -- a page that is live now is an old one, not the old root
  from : (p : ℕ) → p < f.pages → (now p).live ≡ true → (o : ℕ) × (o < f.pages) × (now p ≡ node o) × (o ≡ 0 → ⊥) × (((p ≡ 0) × (o ≡ d)) ⊎ ((p ≡ 0 → ⊥) × (o ≡ p) × (p ≡ d → ⊥)))
  from p l v = elim (cases_eq p 0) [
    | inl e ↦ (d, d_page.1, now_0 p e, (let b = d_page.0 in λ z. omega arith), inl (e, refl))
    | inr a ↦ elim (cases_eq p d) [
      | inl e ↦ absurd (true≢false (sym v ∙ ap (λ (v : Node). v.live) (now_d p e)))
      | inr b ↦ (p, l, now_else p a b, a, inr (a, refl, b))
    ]
  ]

  -- what a page other than the old root names stays
  stays : (q : ℕ) (s : Span) → q < f.pages → (q ≡ 0 → ⊥) → Names (node q) s → now s.child ≡ node s.child
  stays q s l n h = let b = (child_page f node t q s l h).0 in now_else s.child (λ e. omega arith) (λ e. n (only f node t q 0 s single l t.some h names_d e).0)

  down' : (q : ℕ) → q < f.pages → (s : Span) → Names (now q) s → IsChild (now q) (now s.child) s
  down' q l s n =
      let o = from q l n.live in
      let h = subst (λ (v : Node). Names v s) o.2 n in
      subst (λ (v : Node). IsChild v (now s.child) s) (sym o.2) (subst (λ (w : Node). IsChild (node o.0) w s) (sym (stays o.0 s o.1 o.3 h)) (t.down o.0 o.1 s h))

  up' : (p : ℕ) → p < f.pages → (now p).live ≡ true → (p ≡ 0 → ⊥) → Parent f now p
  up' p l v n = elim (cases_eq p d) [
    | inl e ↦ absurd (true≢false (sym v ∙ ap (λ (v : Node). v.live) (now_d p e)))
    | inr b ↦ (let u = t.up p l (sym (ap (λ (v : Node). v.live) (now_else p n b)) ∙ v) n in elim (cases_eq u.page 0) [
      | inl e ↦ absurd (b (sym u.child ∙ ap (λ (s : Span). s.child) (only_d u.span (subst (λ (i : ℕ). Names (node i) u.span) e u.names))))
      | inr a ↦ elim (cases_eq u.page d) [
        | inl e ↦ record { page = 0; below = t.some; span = u.span; names = subst (λ (v : Node). Names v u.span) (ap node e ∙ sym (now_0 0 refl)) u.names; child = u.child }
        | inr g ↦ record { page = u.page; below = u.below; span = u.span; names = subst (λ (v : Node). Names v u.span) (sym (now_else u.page a g)) u.names; child = u.child }
      ]
    ])
  ]

  formed' : (p : ℕ) → p < f.pages → WellFormed f (now p)
  formed' p l = elim (cases_eq p 0) [
    | inl e ↦ subst (WellFormed f) (sym (now_0 p e)) (t.formed d d_page.1)
    | inr a ↦ elim (cases_eq p d) [
      | inl e ↦ subst (WellFormed f) (sym (now_d p e)) (free_formed f)
      | inr b ↦ subst (WellFormed f) (sym (now_else p a b)) (t.formed p l)
    ]
  ]

  pub drop_tree : IsTree f (λ p. applied_as Drop r p (node p))
  drop_tree = record { some = t.some; root = t.root; formed = formed'; down = down'; up = up' }

  pub drop_same : (k : ℕ) → entry f.pages (λ p. applied_as Drop r p (node p)) k ≡ entry f.pages node k
  drop_same k = same_entry f node now t drop_tree k (λ p l w. elim (cases_eq p d) [
    | inl e ↦ (let q = now_0 0 refl ∙ ap node (sym e) in record { page = 0; below = t.some; has = subst (λ (v : Node). LeafWith v k) (sym q) w; same = ap (λ (v : Node). find k v.pairs) q })
    | inr b ↦ (let lv = w.leaf in let i = m.inner in let q = now_else p (λ e. (let z = ap (λ (i : ℕ). (node i).level) e in omega arith)) b in
        record { page = p; below = l; has = subst (λ (v : Node). LeafWith v k) (sym q) w; same = ap (λ (v : Node). find k v.pairs) q })
  ])
