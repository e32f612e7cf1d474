-- The children that a list of pairs names, with their fences.
use Rattle.std.proofs.Common.{◌++◌, length, ◌≡◌, ◌<◌, ◌≤◌, ℕ, suc, Bool, true, false, not, leb, ltb, ◌==◌, List, [], ◌∷◌, refl, sym, ap, ◌∙◌, inl, inr, arith}
use Rattle.std.proofs.lemmas.Bool.{cases_lt, eq-eqb, ne_eqb, le-leb, lt-leb, lt-ltb, le-ltb, cond-true, cond-false}
use Rattle.page_model.specs.Pairs.{Pair, Has, Rising, put, keep, below, onward, without, first_key, route, Span, spans}
use Rattle.page_model.proofs.Pairs.{rising_in, first_between, put_prefix, put_back}

-- ## One list of spans

pub span_in : (a : ℕ) (xs : List Pair) (h : ℕ) (s : Span) → Rising a xs h → Has s (spans xs h) → (a ≤ s.low) × (s.low < s.high) × (s.high ≤ h)
span_in a [] h s r m = absurd m
span_in a (x ∷ xs) h s r (inl e) = let f = first_between (suc x.key) xs h r.1 in let f0 = f.0 in let f1 = f.1 in let r0 = r.0 in let el = ap (λ (z : Span). z.low) e in let eh = ap (λ (z : Span). z.high) e in (omega arith, omega arith, omega arith)
span_in a (x ∷ xs) h s r (inr m) = let i = span_in (suc x.key) xs h s r.1 m in let i0 = i.0 in let r0 = r.0 in (omega arith, i.1, i.2)

pub span_pair : (xs : List Pair) (h : ℕ) (s : Span) → Has s (spans xs h) → (x : Pair) × Has x xs × (x.word ≡ s.child) × (x.key ≡ s.low)
span_pair [] h s m = absurd m
span_pair (x ∷ xs) h s (inl e) = (x, inl refl, ap (λ (z : Span). z.child) (sym e), ap (λ (z : Span). z.low) (sym e))
span_pair (x ∷ xs) h s (inr m) = let i = span_pair xs h s m in (i.0, inr i.1, i.2, i.3)

pub span_after : (a : ℕ) (xs : List Pair) (h : ℕ) (s : Span) → Rising a xs h → Has s (spans xs h) → first_key xs h ≤ s.low
span_after a [] h s r m = absurd m
span_after a (x ∷ xs) h s r m = (span_in x.key (x ∷ xs) h s (omega arith, r.1) m).0

pub span_one : (a : ℕ) (xs : List Pair) (h k : ℕ) (s t : Span) → Rising a xs h → Has s (spans xs h) → Has t (spans xs h) → s.low ≤ k → k < s.high → t.low ≤ k → k < t.high → s ≡ t
span_one a [] h k s t r m n s0 s1 t0 t1 = absurd m
span_one a (x ∷ xs) h k s t r (inl d) (inl e) s0 s1 t0 t1 = d ∙ sym e
span_one a (x ∷ xs) h k s t r (inl d) (inr n) s0 s1 t0 t1 = let q = span_after (suc x.key) xs h t r.1 n in let z = ap (λ (z : Span). z.high) d in absurd (omega arith)
span_one a (x ∷ xs) h k s t r (inr m) (inl e) s0 s1 t0 t1 = let q = span_after (suc x.key) xs h s r.1 m in let z = ap (λ (z : Span). z.high) e in absurd (omega arith)
span_one a (x ∷ xs) h k s t r (inr m) (inr n) s0 s1 t0 t1 = span_one (suc x.key) xs h k s t r.1 m n s0 s1 t0 t1

pub record Covering (xs : List Pair) (h k : ℕ) : Type 0 where
  pub span : Span
  pub has : Has span (spans xs h)
  pub low : span.low ≤ k
  pub high : k < span.high

pub span_cover : (xs : List Pair) (h k : ℕ) → first_key xs h ≤ k → k < h → Covering xs h k
span_cover [] h k f l = absurd (omega arith)
span_cover (x ∷ xs) h k f l = elim (cases_lt k (first_key xs h)) [
  | inl q ↦ record { span = record { child = x.word; low = x.key; high = first_key xs h }; has = inl refl; low = f; high = q }
  | inr q ↦ (let c = span_cover xs h k q l in record { span = c.span; has = inr c.has; low = c.low; high = c.high })
]

-- a key below the first is not routed
route_stay : (xs : List Pair) (h k w : ℕ) → k < first_key xs h → route xs k w ≡ w
route_stay [] h k w l = refl
route_stay (x ∷ xs) h k w l = cond-false (leb x.key k) (route xs k x.word) w (lt-leb x.key k l)

-- The key's route is the child of its span.
pub route_span : (a : ℕ) (xs : List Pair) (h k w : ℕ) (s : Span) → Rising a xs h → Has s (spans xs h) → s.low ≤ k → k < s.high → route xs k w ≡ s.child
route_span a [] h k w s r m s0 s1 = absurd m
route_span a (x ∷ xs) h k w s r (inl e) s0 s1 =
    let el = ap (λ (z : Span). z.low) e in let eh = ap (λ (z : Span). z.high) e in
    cond-true (leb x.key k) (route xs k x.word) w (le-leb x.key k (omega arith)) ∙ (route_stay xs h k x.word (omega arith) ∙ ap (λ (z : Span). z.child) (sym e))
route_span a (x ∷ xs) h k w s r (inr m) s0 s1 =
    let i = (span_in (suc x.key) xs h s r.1 m).0 in
    cond-true (leb x.key k) (route xs k x.word) w (le-leb x.key k (omega arith)) ∙ route_span (suc x.key) xs h k x.word s r.1 m s0 s1

-- ## Appended lists, and the two parts of one

pub first_append : (xs ys : List Pair) (h : ℕ) → first_key ((xs ++ ys)) h ≡ first_key xs (first_key ys h)
first_append [] ys h = refl
first_append (x ∷ xs) ys h = refl

pub spans_append : (xs ys : List Pair) (h : ℕ) → spans ((xs ++ ys)) h ≡ ((spans xs (first_key ys h)) ++ (spans ys h))
spans_append [] ys h = refl
spans_append (x ∷ xs) ys h =
    ap (λ (z : ℕ). record { child = x.word; low = x.key; high = z } ∷ spans ((xs ++ ys)) h) (first_append xs ys h)
    ∙ ap (λ (z : List Span). record { child = x.word; low = x.key; high = first_key xs (first_key ys h) } ∷ z) (spans_append xs ys h)

keep_all : (p : ℕ → Bool) (xs : List Pair) → ((x : Pair) → Has x xs → p x.key ≡ true) → keep p xs ≡ xs
keep_all p [] h = refl
keep_all p (x ∷ xs) h = cond-true (p x.key) (x ∷ keep p xs) (keep p xs) (h x (inl refl)) ∙ ap (λ (z : List Pair). x ∷ z) (keep_all p xs (λ y m. h y (inr m)))

keep_none : (p : ℕ → Bool) (xs : List Pair) → ((x : Pair) → Has x xs → p x.key ≡ false) → keep p xs ≡ []
keep_none p [] h = refl
keep_none p (x ∷ xs) h = cond-false (p x.key) (x ∷ keep p xs) (keep p xs) (h x (inl refl)) ∙ keep_none p xs (λ y m. h y (inr m))

pub parts : (a b : ℕ) (xs : List Pair) (h : ℕ) → Rising a xs h → xs ≡ ((below b xs) ++ (onward b xs))
parts a b [] h r = refl
parts a b (x ∷ xs) h r = elim (cases_lt x.key b) [
  | inl l ↦ rw (cond-true (ltb x.key b) (x ∷ below b xs) (below b xs) (lt-ltb x.key b l), cond-false (leb b x.key) (x ∷ onward b xs) (onward b xs) (lt-leb b x.key l)) (ap (λ (z : List Pair). x ∷ z) (parts (suc x.key) b xs h r.1))
  | inr l ↦ (let in_all : (y : Pair) → Has y (x ∷ xs) → b ≤ y.key = λ y m. (let i = (rising_in b (x ∷ xs) h y (l, r.1) m).0 in i) in
      sym (ap (λ (z : List Pair). (z ++ (onward b (x ∷ xs)))) (keep_none (λ (k : ℕ). ltb k b) (x ∷ xs) (λ y m. le-ltb y.key b (in_all y m))) ∙ keep_all (λ (k : ℕ). leb b k) (x ∷ xs) (λ y m. le-leb b y.key (in_all y m))))
]

pub first_onward : (a b : ℕ) (xs : List Pair) (h : ℕ) (x : Pair) → Rising a xs h → Has x xs → x.key ≡ b → first_key (onward b xs) h ≡ b
first_onward a b [] h x r m e = absurd m
first_onward a b (y ∷ ys) h x r (inl d) e = let q = ap (λ (z : Pair). z.key) d in ap (λ (z : List Pair). first_key z h) (cond-true (leb b y.key) (y ∷ onward b ys) (onward b ys) (le-leb b y.key (omega arith))) ∙ (sym q ∙ e)
first_onward a b (y ∷ ys) h x r (inr m) e =
    let q = (rising_in (suc y.key) ys h x r.1 m).0 in
    ap (λ (z : List Pair). first_key z h) (cond-false (leb b y.key) (y ∷ onward b ys) (onward b ys) (lt-leb b y.key (omega arith))) ∙ first_onward (suc y.key) b ys h x r.1 m e

pub first_below : (b : ℕ) (xs : List Pair) (h : ℕ) → (xs ≡ [] → ⊥) → first_key xs h < b → first_key (below b xs) b ≡ first_key xs h
first_below b [] h n l = absurd (n refl)
first_below b (x ∷ xs) h n l = ap (λ (z : List Pair). first_key z b) (cond-true (ltb x.key b) (x ∷ below b xs) (below b xs) (lt-ltb x.key b l))

pub first_put : (k w : ℕ) (xs : List Pair) (h : ℕ) → (xs ≡ [] → ⊥) → first_key xs h < k → first_key (put k w xs) h ≡ first_key xs h
first_put k w [] h n l = absurd (n refl)
first_put k w (x ∷ xs) h n l = ap (λ (z : List Pair). first_key z h) (put_back k w x xs l)

pub first_without : (k : ℕ) (xs : List Pair) (h : ℕ) → (xs ≡ [] → ⊥) → first_key xs h < k → first_key (without k xs) h ≡ first_key xs h
first_without k [] h n l = absurd (n refl)
first_without k (x ∷ xs) h n l = ap (λ (z : List Pair). first_key z h) (cond-true (not (x.key == k)) (x ∷ without k xs) (without k xs) (ap not (ne_eqb x.key k (λ e. omega arith))))

pub first_any : (xs : List Pair) (h j : ℕ) → (xs ≡ [] → ⊥) → first_key xs h ≡ first_key xs j
first_any [] h j n = absurd (n refl)
first_any (x ∷ xs) h j n = refl

pub some_if : (xs : List Pair) (h : ℕ) → first_key xs h < h → xs ≡ [] → ⊥
some_if xs h l e = let q = ap (λ (z : List Pair). first_key z h) e in omega arith

pub spans_some : (xs : List Pair) (h : ℕ) (s : Span) → Has s (spans xs h) → xs ≡ [] → ⊥
spans_some [] h s m e = m
spans_some (x ∷ xs) h s m e = let q = ap (λ (z : List Pair). length z) e in omega arith

-- ## A span that is divided, or put together again

pub record Divided (c r low sep high : ℕ) (few many : List Span) : Type 0 where
  pub prefix : List Span
  pub back : List Span
  pub few_is : few ≡ (prefix ++ (record { child = c; low = low; high = high } ∷ back))
  pub many_is : many ≡ (prefix ++ (record { child = c; low = low; high = sep } ∷ record { child = r; low = sep; high = high } ∷ back))
  pub before : (s : Span) → Has s prefix → s.low < low
  pub behind : (s : Span) → Has s back → high ≤ s.low

put_first : (k w : ℕ) (xs : List Pair) (h : ℕ) → k < first_key xs h → put k w xs ≡ record { key = k; word = w } ∷ xs
put_first k w [] h l = refl
put_first k w (x ∷ xs) h l = put_prefix k w x xs l

pub put_divides : (a : ℕ) (xs : List Pair) (h : ℕ) (c r low sep high : ℕ) → Rising a xs h → Has (record { child = c; low = low; high = high }) (spans xs h) → low < sep → sep < high → Divided c r low sep high (spans xs h) (spans (put sep r xs) h)
put_divides a [] h c r low sep high g m l u = absurd m
put_divides a (x ∷ xs) h c r low sep high g (inl e) l u =
    let el = ap (λ (z : Span). z.low) e in let eh = ap (λ (z : Span). z.high) e in record {
      prefix = [];
      back = spans xs h;
      few_is = ap (λ (z : Span). z ∷ spans xs h) (sym e);
      many_is = ap (λ (ys : List Pair). spans ys h) (put_back sep r x xs (omega arith) ∙ ap (λ (ys : List Pair). x ∷ ys) (put_first sep r xs h (omega arith)))
          ∙ ap (λ (z : Span). record { child = z.child; low = z.low; high = sep } ∷ record { child = r; low = sep; high = z.high } ∷ spans xs h) (sym e);
      before = λ s m. absurd m;
      behind = λ s m. (let q = span_after (suc x.key) xs h s g.1 m in omega arith);
    }
put_divides a (x ∷ xs) h c r low sep high g (inr m) l u =
    let d = put_divides (suc x.key) xs h c r low sep high g.1 m l u in
    let i = (span_in (suc x.key) xs h (record { child = c; low = low; high = high }) g.1 m).0 in
    let j = span_after (suc x.key) xs h (record { child = c; low = low; high = high }) g.1 m in
    record {
      prefix = record { child = x.word; low = x.key; high = first_key xs h } ∷ d.prefix;
      back = d.back;
      few_is = ap (λ (z : List Span). record { child = x.word; low = x.key; high = first_key xs h } ∷ z) d.few_is;
      many_is = ap (λ (ys : List Pair). spans ys h) (put_back sep r x xs (omega arith))
          ∙ (ap (λ (z : ℕ). record { child = x.word; low = x.key; high = z } ∷ spans (put sep r xs) h) (first_put sep r xs h (spans_some xs h (record { child = c; low = low; high = high }) m) (omega arith))
          ∙ ap (λ (z : List Span). record { child = x.word; low = x.key; high = first_key xs h } ∷ z) d.many_is);
      before = λ s n. elim n [ inl e ↦ (let q = ap (λ (z : Span). z.low) e in omega arith) | inr n ↦ d.before s n ];
      behind = d.behind;
    }

without_drop : (k : ℕ) (x : Pair) (xs : List Pair) (h : ℕ) → x.key ≡ k → Rising (suc x.key) xs h → without k (x ∷ xs) ≡ xs
without_drop k x xs h e r =
    cond-false (not (x.key == k)) (x ∷ without k xs) (without k xs) (ap not (eq-eqb x.key k e))
    ∙ keep_all (λ (j : ℕ). not (j == k)) xs (λ y m. ap not (ne_eqb y.key k (λ q. (let i = (rising_in (suc x.key) xs h y r m).0 in omega arith))))

without_keep : (k : ℕ) (x : Pair) (xs : List Pair) → (x.key ≡ k → ⊥) → without k (x ∷ xs) ≡ x ∷ without k xs
without_keep k x xs n = cond-true (not (x.key == k)) (x ∷ without k xs) (without k xs) (ap not (ne_eqb x.key k n))

pub without_divides : (a : ℕ) (xs : List Pair) (h : ℕ) (c r low sep high : ℕ) → Rising a xs h → Has (record { child = c; low = low; high = sep }) (spans xs h) → Has (record { child = r; low = sep; high = high }) (spans xs h) → Divided c r low sep high (spans (without sep xs) h) (spans xs h)
without_divides a [] h c r low sep high g m n = absurd m
without_divides a (x ∷ xs) h c r low sep high g (inl d) (inl e) = let dl = ap (λ (z : Span). z.low) d in let el = ap (λ (z : Span). z.low) e in let i = (span_in a (x ∷ xs) h (record { child = c; low = low; high = sep }) g (inl d)).1 in absurd (omega arith)
without_divides a (x ∷ xs) h c r low sep high g (inr m) (inl e) = let el = ap (λ (z : Span). z.low) e in let i = span_in (suc x.key) xs h (record { child = c; low = low; high = sep }) g.1 m in let i0 = i.0 in let i1 = i.1 in absurd (omega arith)
without_divides a (x ∷ []) h c r low sep high g (inl d) (inr n) = absurd n
without_divides a (x ∷ y ∷ ys) h c r low sep high g (inl d) (inr (inr n)) =
    let dh = ap (λ (z : Span). z.high) d in let i = (span_in (suc y.key) ys h (record { child = r; low = sep; high = high }) g.1.1 n).0 in absurd (omega arith)
without_divides a (x ∷ y ∷ ys) h c r low sep high g (inl d) (inr (inl e)) =
    let dh = ap (λ (z : Span). z.high) d in let el = ap (λ (z : Span). z.low) e in let eh = ap (λ (z : Span). z.high) e in let g1 = g.1.0 in record {
      prefix = [];
      back = spans ys h;
      few_is = ap (λ (z : List Pair). spans z h) (without_keep sep x (y ∷ ys) (λ q. omega arith) ∙ ap (λ (z : List Pair). x ∷ z) (without_drop sep y ys h (sym el) g.1.1))
          ∙ (ap (λ (z : ℕ). record { child = x.word; low = x.key; high = z } ∷ spans ys h) (sym eh) ∙ ap (λ (z : Span). record { child = z.child; low = z.low; high = high } ∷ spans ys h) (sym d));
      many_is = ap (λ (z : Span). z ∷ record { child = y.word; low = y.key; high = first_key ys h } ∷ spans ys h) (sym d) ∙ ap (λ (z : Span). record { child = c; low = low; high = sep } ∷ z ∷ spans ys h) (sym e);
      before = λ s m. absurd m;
      behind = λ s m. (let q = span_after (suc y.key) ys h s g.1.1 m in omega arith);
    }
without_divides a (x ∷ xs) h c r low sep high g (inr m) (inr n) =
    let d = without_divides (suc x.key) xs h c r low sep high g.1 m n in
    let i = span_in (suc x.key) xs h (record { child = c; low = low; high = sep }) g.1 m in
    let i0 = i.0 in let i1 = i.1 in
    let j = span_after (suc x.key) xs h (record { child = c; low = low; high = sep }) g.1 m in
    record {
      prefix = record { child = x.word; low = x.key; high = first_key xs h } ∷ d.prefix;
      back = d.back;
      few_is = ap (λ (ys : List Pair). spans ys h) (without_keep sep x xs (λ q. omega arith))
          ∙ (ap (λ (z : ℕ). record { child = x.word; low = x.key; high = z } ∷ spans (without sep xs) h) (first_without sep xs h (spans_some xs h (record { child = c; low = low; high = sep }) m) (omega arith))
          ∙ ap (λ (z : List Span). record { child = x.word; low = x.key; high = first_key xs h } ∷ z) d.few_is);
      many_is = ap (λ (z : List Span). record { child = x.word; low = x.key; high = first_key xs h } ∷ z) d.many_is;
      before = λ s k. elim k [ inl e ↦ (let q = ap (λ (z : Span). z.low) e in omega arith) | inr k ↦ d.before s k ];
      behind = d.behind;
    }
