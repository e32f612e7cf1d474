-- The check of all pages is right.
use Rattle.std.proofs.Common.{length, ◌≡◌, ◌<◌, ℕ, zero, suc, Bool, true, false, ◌&&◌, ◌||◌, not, leb, ltb, ◌==◌, ◌⊎◌, List, [], ◌∷◌, Option, Some, None, refl, sym, ap, ◌∙◌, inl, inr, arith, true≢false}
use Rattle.std.proofs.lemmas.Bool.{cases_Bool, cases_eq, eq-eqb, eqb-true, ne_eqb, and_parts, and_from, or_left, or_right, or_cases, le-leb, lt-ltb, leb-true, ltb-true, cond-true, cond-false}
use Rattle.page_model.specs.Pairs.{Pair, Has, first_key, Rising, Span, spans}
use Rattle.page_model.specs.Nodes.{Format, Node, free, NodeOk, WellFormed}
use Rattle.page_model.specs.Tree.{IsChild, Parent, IsTree}
use Rattle.page_model.specs.Records.{any}
use Rattle.page_model.specs.Check.{all, is_nil, some_below, or_else, first_bad, is_rising, word_ok, is_node_ok, is_free, is_formed, is_child, has_children, names_page, is_named, is_root, page_ok, first_break, EveryCheck}
use Rattle.page_model.proofs.Pairs.{some_none}

pub all_has : {A : Type 0} (p : A → Bool) (xs : List A) → all p xs ≡ true → (x : A) → Has x xs → p x ≡ true
all_has p [] h x m = absurd m
all_has p (y ∷ ys) h x (inl e) = ap p e ∙ (and_parts (p y) (all p ys) h).0
all_has p (y ∷ ys) h x (inr m) = all_has p ys (and_parts (p y) (all p ys) h).1 x m

pub all_from : {A : Type 0} (p : A → Bool) (xs : List A) → ((x : A) → Has x xs → p x ≡ true) → all p xs ≡ true
all_from p [] h = refl
all_from p (y ∷ ys) h = and_from (p y) (all p ys) (h y (inl refl)) (all_from p ys (λ x m. h x (inr m)))

pub any_has : {A : Type 0} (p : A → Bool) (xs : List A) → any p xs ≡ true → (x : A) × Has x xs × (p x ≡ true)
any_has p [] h = absurd (true≢false (sym h))
any_has p (x ∷ xs) h = elim (or_cases (p x) (any p xs) h) [ inl e ↦ (x, inl refl, e) | inr e ↦ let r = any_has p xs e in (r.0, inr r.1, r.2) ]

pub has_any : {A : Type 0} (p : A → Bool) (xs : List A) (x : A) → Has x xs → p x ≡ true → any p xs ≡ true
has_any p [] x h e = absurd h
has_any p (y ∷ ys) x (inl q) e = or_left (p y) (any p ys) (ap p (sym q) ∙ e)
has_any p (y ∷ ys) x (inr h) e = or_right (p y) (any p ys) (has_any p ys x h e)

below_has : (n : ℕ) (p : ℕ → Bool) → some_below n p ≡ true → (i : ℕ) × (i < n) × (p i ≡ true)
below_has zero p h = absurd (true≢false (sym h))
below_has (suc n) p h = elim (or_cases (p n) (some_below n p) h) [ inl e ↦ (n, omega arith, e) | inr e ↦ let r = below_has n p e in (r.0, (let l = r.1 in omega arith), r.2) ]

has_below : (n : ℕ) (p : ℕ → Bool) (i : ℕ) → i < n → p i ≡ true → some_below n p ≡ true
has_below zero p i l e = absurd (omega arith)
has_below (suc n) p i l e = go (has_below n p i) (cases_eq i n)
  where
    go : (i < n → p i ≡ true → some_below n p ≡ true) → (i ≡ n) ⊎ (i ≡ n → ⊥) → some_below (suc n) p ≡ true
    go ih (inl q) = or_left (p n) (some_below n p) (ap p (sym q) ∙ e)
    go ih (inr q) = or_right (p n) (some_below n p) (ih (omega arith) e)

-- ## The least that fails

pub none_bad : (n : ℕ) (p : ℕ → Bool) → first_bad n p ≡ None → (i : ℕ) → i < n → p i ≡ true
none_bad zero p h i l = absurd (omega arith)
none_bad (suc n) p h i l = go (none_bad n p) (first_bad n p) refl (p n) refl
  where
    go : (first_bad n p ≡ None → (i : ℕ) → i < n → p i ≡ true) → (z : Option ℕ) → first_bad n p ≡ z → (b : Bool) → p n ≡ b → p i ≡ true
    go ih (Some q) e b w = absurd (some_none q (sym (ap (λ (z : Option ℕ). or_else z (p n) n) e) ∙ h))
    go ih None e true w = elim (cases_eq i n) [ inl q ↦ ap p q ∙ w | inr q ↦ ih e i (omega arith) ]
    go ih None e false w = absurd (some_none n (sym (ap (λ (z : Option ℕ). or_else z (p n) n) e ∙ ap (λ (b : Bool). or_else None b n) w) ∙ h))

pub bad_none : (n : ℕ) (p : ℕ → Bool) → ((i : ℕ) → i < n → p i ≡ true) → first_bad n p ≡ None
bad_none zero p h = refl
bad_none (suc n) p h = ap (λ (z : Option ℕ). or_else z (p n) n) (bad_none n p (λ i l. h i (omega arith))) ∙ ap (λ (b : Bool). or_else None b n) (h n (omega arith))

some_is : (x y : ℕ) → Some x ≡ Some y → x ≡ y
some_is x y e = ap (λ (z : Option ℕ). elim z [ None ↦ 0 | Some w ↦ w ]) e

pub least_bad : (n : ℕ) (p : ℕ → Bool) (i : ℕ) → first_bad n p ≡ Some i → (i < n) × (p i ≡ false) × ((j : ℕ) → j < i → p j ≡ true)
least_bad zero p i h = absurd (some_none i (sym h))
least_bad (suc n) p i h = go (least_bad n p) (first_bad n p) refl (p n) refl
  where
    go : ((i : ℕ) → first_bad n p ≡ Some i → (i < n) × (p i ≡ false) × ((j : ℕ) → j < i → p j ≡ true)) → (z : Option ℕ) → first_bad n p ≡ z → (b : Bool) → p n ≡ b → (i < suc n) × (p i ≡ false) × ((j : ℕ) → j < i → p j ≡ true)
    go ih (Some q) e b w = let r = ih i (e ∙ (sym (ap (λ (z : Option ℕ). or_else z (p n) n) e) ∙ h)) in ((let l = r.0 in omega arith), r.1, r.2)
    go ih None e true w = absurd (some_none i (sym (sym (ap (λ (z : Option ℕ). or_else z (p n) n) e ∙ ap (λ (b : Bool). or_else None b n) w) ∙ h)))
    go ih None e false w =
        let q = some_is n i (sym (ap (λ (z : Option ℕ). or_else z (p n) n) e ∙ ap (λ (b : Bool). or_else None b n) w) ∙ h) in
        (omega arith, ap p (sym q) ∙ w, λ j l. none_bad n p e j (omega arith))

-- ## One page

rising_to : (a : ℕ) (xs : List Pair) (b : ℕ) → is_rising a xs b ≡ true → Rising a xs b
rising_to a [] b h = leb-true a b h
rising_to a (x ∷ xs) b h = let q = and_parts (leb a x.key) (is_rising (suc x.key) xs b) h in (leb-true a x.key q.0, rising_to (suc x.key) xs b q.1)

pub rising_from : (a : ℕ) (xs : List Pair) (b : ℕ) → Rising a xs b → is_rising a xs b ≡ true
rising_from a [] b h = le-leb a b h
rising_from a (x ∷ xs) b h = and_from (leb a x.key) (is_rising (suc x.key) xs b) (le-leb a x.key h.0) (rising_from (suc x.key) xs b h.1)

pub nil_is : {A : Type 0} (xs : List A) → is_nil xs ≡ true → xs ≡ []
nil_is [] h = refl
nil_is (x ∷ xs) h = absurd (true≢false (sym h))

not_nil : {A : Type 0} (xs : List A) → not (is_nil xs) ≡ true → xs ≡ [] → ⊥
not_nil [] h e = true≢false (sym h)
not_nil {A = A} (x ∷ xs) h e = let z = ap (λ (y : List A). length y) e in omega arith

nil_not : {A : Type 0} (xs : List A) → (xs ≡ [] → ⊥) → not (is_nil xs) ≡ true
nil_not [] n = absurd (n refl)
nil_not (x ∷ xs) n = refl

module _ (f : Format) (v : Node) where
  abbrev first_ok : Bool
  first_ok = (v.level == 0) || (not (is_nil v.pairs) && (first_key v.pairs v.high == v.low))

  node_to : is_node_ok f v ≡ true → NodeOk f v
  node_to h =
      let a = and_parts (leb (length v.pairs) f.room) (leb v.level f.levels && (is_rising v.low v.pairs v.high && (all (word_ok f v) v.pairs && first_ok))) h in
      let b = and_parts (leb v.level f.levels) (is_rising v.low v.pairs v.high && (all (word_ok f v) v.pairs && first_ok)) a.1 in
      let c = and_parts (is_rising v.low v.pairs v.high) (all (word_ok f v) v.pairs && first_ok) b.1 in
      let d = and_parts (all (word_ok f v) v.pairs) first_ok c.1 in record {
        sized = leb-true (length v.pairs) f.room a.0;
        tall = leb-true v.level f.levels b.0;
        rising = rising_to v.low v.pairs v.high c.0;
        values = λ e x m. leb-true x.word f.dead (sym (cond-true (v.level == 0) (leb x.word f.dead) (ltb 0 x.word && ltb x.word f.pages) (eq-eqb v.level 0 e)) ∙ all_has (word_ok f v) v.pairs d.0 x m);
        children = λ i x m. (let q = and_parts (ltb 0 x.word) (ltb x.word f.pages) (sym (cond-false (v.level == 0) (leb x.word f.dead) (ltb 0 x.word && ltb x.word f.pages) (ne_eqb v.level 0 (λ e. omega arith))) ∙ all_has (word_ok f v) v.pairs d.0 x m) in
            (ltb-true 0 x.word q.0, ltb-true x.word f.pages q.1));
        first = λ i. elim (or_cases (v.level == 0) (not (is_nil v.pairs) && (first_key v.pairs v.high == v.low)) d.1) [
          | inl e ↦ (let z = eqb-true v.level 0 e in absurd (omega arith))
          | inr e ↦ (let q = and_parts (not (is_nil v.pairs)) (first_key v.pairs v.high == v.low) e in (not_nil v.pairs q.0, eqb-true (first_key v.pairs v.high) v.low q.1))
        ];
      }

  node_from : NodeOk f v → is_node_ok f v ≡ true
  node_from o =
      and_from (leb (length v.pairs) f.room) (leb v.level f.levels && (is_rising v.low v.pairs v.high && (all (word_ok f v) v.pairs && first_ok))) (le-leb (length v.pairs) f.room o.sized)
      (and_from (leb v.level f.levels) (is_rising v.low v.pairs v.high && (all (word_ok f v) v.pairs && first_ok)) (le-leb v.level f.levels o.tall)
      (and_from (is_rising v.low v.pairs v.high) (all (word_ok f v) v.pairs && first_ok) (rising_from v.low v.pairs v.high o.rising)
      (and_from (all (word_ok f v) v.pairs) first_ok (all_from (word_ok f v) v.pairs words) first)))
    where
      words : (x : Pair) → Has x v.pairs → word_ok f v x ≡ true
      words x m = elim (cases_eq v.level 0) [
        | inl e ↦ cond-true (v.level == 0) (leb x.word f.dead) (ltb 0 x.word && ltb x.word f.pages) (eq-eqb v.level 0 e) ∙ le-leb x.word f.dead (o.values e x m)
        | inr n ↦ (let q = o.children (omega arith) x m in cond-false (v.level == 0) (leb x.word f.dead) (ltb 0 x.word && ltb x.word f.pages) (ne_eqb v.level 0 n) ∙ and_from (ltb 0 x.word) (ltb x.word f.pages) (lt-ltb 0 x.word q.0) (lt-ltb x.word f.pages q.1))
      ]

      first : first_ok ≡ true
      first = elim (cases_eq v.level 0) [
        | inl e ↦ or_left (v.level == 0) (not (is_nil v.pairs) && (first_key v.pairs v.high == v.low)) (eq-eqb v.level 0 e)
        | inr n ↦ (let q = o.first (omega arith) in or_right (v.level == 0) (not (is_nil v.pairs) && (first_key v.pairs v.high == v.low)) (and_from (not (is_nil v.pairs)) (first_key v.pairs v.high == v.low) (nil_not v.pairs q.0) (eq-eqb (first_key v.pairs v.high) v.low q.1)))
      ]

  free_to : is_free v ≡ true → v ≡ free
  free_to h =
      let a = and_parts (not v.live) ((v.level == 0) && ((v.low == 0) && ((v.high == 0) && is_nil v.pairs))) h in
      let b = and_parts (v.level == 0) ((v.low == 0) && ((v.high == 0) && is_nil v.pairs)) a.1 in
      let c = and_parts (v.low == 0) ((v.high == 0) && is_nil v.pairs) b.1 in
      let d = and_parts (v.high == 0) (is_nil v.pairs) c.1 in
      ap (λ (z : Bool). record { live = z; level = v.level; low = v.low; high = v.high; pairs = v.pairs }) (dead v.live a.0)
      ∙ (ap (λ (z : ℕ). record { live = false; level = z; low = v.low; high = v.high; pairs = v.pairs }) (eqb-true v.level 0 b.0)
      ∙ (ap (λ (z : ℕ). record { live = false; level = 0; low = z; high = v.high; pairs = v.pairs }) (eqb-true v.low 0 c.0)
      ∙ (ap (λ (z : ℕ). record { live = false; level = 0; low = 0; high = z; pairs = v.pairs }) (eqb-true v.high 0 d.0)
      ∙ ap (λ (z : List Pair). record { live = false; level = 0; low = 0; high = 0; pairs = z }) (nil_is v.pairs d.1))))
    where
      dead : (b : Bool) → not b ≡ true → b ≡ false
      dead false e = refl
      dead true e = absurd (true≢false (sym e))

  formed_to : is_formed f v ≡ true → WellFormed f v
  formed_to h = record {
    node = λ e. node_to (sym (cond-true v.live (is_node_ok f v) (is_free v) e) ∙ h);
    other = λ e. free_to (sym (cond-false v.live (is_node_ok f v) (is_free v) e) ∙ h);
  }

  formed_from : WellFormed f v → is_formed f v ≡ true
  formed_from w = elim (cases_Bool v.live) [
    | inl e ↦ cond-true v.live (is_node_ok f v) (is_free v) e ∙ node_from (w.node e)
    | inr e ↦ cond-false v.live (is_node_ok f v) (is_free v) e ∙ ap is_free (w.other e)
  ]

child_to : (v c : Node) (s : Span) → is_child v c s ≡ true → IsChild v c s
child_to v c s h =
    let a = and_parts c.live ((suc c.level == v.level) && ((c.low == s.low) && (c.high == s.high))) h in
    let b = and_parts (suc c.level == v.level) ((c.low == s.low) && (c.high == s.high)) a.1 in
    let d = and_parts (c.low == s.low) (c.high == s.high) b.1 in
    record { live = a.0; level = eqb-true (suc c.level) v.level b.0; low = eqb-true c.low s.low d.0; high = eqb-true c.high s.high d.1 }

child_from : (v c : Node) (s : Span) → IsChild v c s → is_child v c s ≡ true
child_from v c s d =
    and_from c.live ((suc c.level == v.level) && ((c.low == s.low) && (c.high == s.high))) d.live
    (and_from (suc c.level == v.level) ((c.low == s.low) && (c.high == s.high)) (eq-eqb (suc c.level) v.level d.level)
    (and_from (c.low == s.low) (c.high == s.high) (eq-eqb c.low s.low d.low) (eq-eqb c.high s.high d.high)))

-- ## All pages

module _ (f : Format) (node : ℕ → Node) where
  parts_of : (p : ℕ) → page_ok f node p ≡ true → (is_formed f (node p) ≡ true) × (is_root f (node p) p ≡ true) × (has_children node (node p) ≡ true) × (is_named f node p ≡ true)
  parts_of p h =
      let a = and_parts (is_formed f (node p)) (is_root f (node p) p && (has_children node (node p) && is_named f node p)) h in
      let b = and_parts (is_root f (node p) p) (has_children node (node p) && is_named f node p) a.1 in
      let c = and_parts (has_children node (node p)) (is_named f node p) b.1 in (a.0, b.0, c.0, c.1)

  sound : 0 < f.pages → first_break f node ≡ None → IsTree f node
  sound z h = record {
    some = z;
    root = (let r : (node 0).live && (((node 0).low == 0) && ((node 0).high == f.top)) ≡ true = (parts_of 0 (good 0 z)).1 in
        let a = and_parts (node 0).live (((node 0).low == 0) && ((node 0).high == f.top)) r in let b = and_parts ((node 0).low == 0) ((node 0).high == f.top) a.1 in
        (a.0, eqb-true (node 0).low 0 b.0, eqb-true (node 0).high f.top b.1));
    formed = λ p l. formed_to f (node p) (parts_of p (good p l)).0;
    down = λ q l s n. child_to (node q) (node s.child) s (all_has (λ (s : Span). is_child (node q) (node s.child) s) (spans (node q).pairs (node q).high)
        (sym (cond-true ((node q).live && ltb 0 (node q).level) (all (λ (s : Span). is_child (node q) (node s.child) s) (spans (node q).pairs (node q).high)) true (and_from (node q).live (ltb 0 (node q).level) n.live (lt-ltb 0 (node q).level n.inner))) ∙ (parts_of q (good q l)).2) s n.has);
    up = up;
  }
    where
      good : (p : ℕ) → p < f.pages → page_ok f node p ≡ true
      good = none_bad f.pages (page_ok f node) h

      up : (p : ℕ) → p < f.pages → (node p).live ≡ true → (p ≡ 0 → ⊥) → Parent f node p
      up p l v n =
          let g = sym (cond-true ((node p).live && not (p == 0)) (some_below f.pages (λ (q : ℕ). names_page (node q) p)) true (and_from (node p).live (not (p == 0)) v (ap not (ne_eqb p 0 n)))) ∙ (parts_of p (good p l)).3 in
          let b = below_has f.pages (λ (q : ℕ). names_page (node q) p) g in
          let c = and_parts ((node b.0).live && ltb 0 (node b.0).level) (any (λ (s : Span). s.child == p) (spans (node b.0).pairs (node b.0).high)) b.2 in
          let d = and_parts (node b.0).live (ltb 0 (node b.0).level) c.0 in
          let e = any_has (λ (s : Span). s.child == p) (spans (node b.0).pairs (node b.0).high) c.1 in
          record { page = b.0; below = b.1; span = e.0; names = record { live = d.0; inner = ltb-true 0 (node b.0).level d.1; has = e.1 }; child = eqb-true e.0.child p e.2 }

  complete : IsTree f node → first_break f node ≡ None
  complete t = bad_none f.pages (page_ok f node) (λ p l.
      and_from (is_formed f (node p)) (is_root f (node p) p && (has_children node (node p) && is_named f node p)) (formed_from f (node p) (t.formed p l))
      (and_from (is_root f (node p) p) (has_children node (node p) && is_named f node p) (rooted p)
      (and_from (has_children node (node p)) (is_named f node p) (parent p l) (named p l))))
    where
      rooted : (p : ℕ) → is_root f (node p) p ≡ true
      rooted p = elim (cases_eq p 0) [
        | inl e ↦ cond-true (p == 0) ((node p).live && (((node p).low == 0) && ((node p).high == f.top))) true (eq-eqb p 0 e) ∙
            (ap (λ (i : ℕ). (node i).live && (((node i).low == 0) && ((node i).high == f.top))) e ∙ and_from (node 0).live (((node 0).low == 0) && ((node 0).high == f.top)) t.root.0 (and_from ((node 0).low == 0) ((node 0).high == f.top) (eq-eqb (node 0).low 0 t.root.1) (eq-eqb (node 0).high f.top t.root.2)))
        | inr n ↦ cond-false (p == 0) ((node p).live && (((node p).low == 0) && ((node p).high == f.top))) true (ne_eqb p 0 n)
      ]

      parent : (p : ℕ) → p < f.pages → has_children node (node p) ≡ true
      parent p l = elim (cases_Bool ((node p).live && ltb 0 (node p).level)) [
        | inr e ↦ cond-false ((node p).live && ltb 0 (node p).level) (all (λ (s : Span). is_child (node p) (node s.child) s) (spans (node p).pairs (node p).high)) true e
        | inl e ↦ (let a = and_parts (node p).live (ltb 0 (node p).level) e in
            cond-true ((node p).live && ltb 0 (node p).level) (all (λ (s : Span). is_child (node p) (node s.child) s) (spans (node p).pairs (node p).high)) true e
            ∙ all_from (λ (s : Span). is_child (node p) (node s.child) s) (spans (node p).pairs (node p).high) (λ s m. child_from (node p) (node s.child) s (t.down p l s (record { live = a.0; inner = ltb-true 0 (node p).level a.1; has = m }))))
      ]

      named : (p : ℕ) → p < f.pages → is_named f node p ≡ true
      named p l = elim (cases_Bool ((node p).live && not (p == 0))) [
        | inr e ↦ cond-false ((node p).live && not (p == 0)) (some_below f.pages (λ (q : ℕ). names_page (node q) p)) true e
        | inl e ↦ (let a = and_parts (node p).live (not (p == 0)) e in let u = t.up p l a.0 (λ z. true≢false (sym a.1 ∙ ap not (eq-eqb p 0 z))) in
            cond-true ((node p).live && not (p == 0)) (some_below f.pages (λ (q : ℕ). names_page (node q) p)) true e
            ∙ has_below f.pages (λ (q : ℕ). names_page (node q) p) u.page u.below
            (and_from ((node u.page).live && ltb 0 (node u.page).level) (any (λ (s : Span). s.child == p) (spans (node u.page).pairs (node u.page).high))
            (and_from (node u.page).live (ltb 0 (node u.page).level) u.names.live (lt-ltb 0 (node u.page).level u.names.inner))
            (has_any (λ (s : Span). s.child == p) (spans (node u.page).pairs (node u.page).high) u.span u.names.has (eq-eqb u.span.child p u.child))))
      ]

pub every_check : EveryCheck
every_check f node = record { sound = sound f node; complete = complete f node; least = least_bad f.pages (page_ok f node) }
