-- Lists of pairs whose keys rise.
use Rattle.std.proofs.Common.{◌++◌, length, ◌≡◌, ◌<◌, ◌≤◌, ◌+◌, ℕ, suc, Bool, true, false, leb, ltb, ◌==◌, ◌⊎◌, List, [], ◌∷◌, Option, Some, None, if◌then◌else◌, refl, sym, ap, ◌∙◌, subst, inl, inr, arith, true≢false}
use Rattle.std.proofs.lemmas.Bool.{cases_eq, cases_lt, eq-eqb, ne_eqb, le-leb, lt-leb, lt-ltb, le-ltb, cond-true, cond-false}
use Rattle.page_model.specs.Pairs.{Pair, Has, Rising, find, put, keep, below, onward, first_key}

pub has_append : {A : Type 0} (x : A) (xs ys : List A) → Has x ((xs ++ ys)) → Has x xs ⊎ Has x ys
has_append x [] ys h = inr h
has_append x (z ∷ xs) ys (inl e) = inl (inl e)
has_append x (z ∷ xs) ys (inr h) = elim (has_append x xs ys h) [ inl a ↦ inl (inr a) | inr b ↦ inr b ]

pub append_left : {A : Type 0} (x : A) (xs ys : List A) → Has x xs → Has x ((xs ++ ys))
append_left x [] ys h = absurd h
append_left x (z ∷ xs) ys (inl e) = inl e
append_left x (z ∷ xs) ys (inr h) = inr (append_left x xs ys h)

pub append_right : {A : Type 0} (x : A) (xs ys : List A) → Has x ys → Has x ((xs ++ ys))
append_right x [] ys h = h
append_right x (z ∷ xs) ys h = inr (append_right x xs ys h)

pub size_append : {A : Type 0} (xs ys : List A) → length ((xs ++ ys)) ≡ length xs + length ys
size_append [] ys = omega arith
size_append (x ∷ xs) ys = let h = size_append xs ys in omega arith

-- ## Rising keys

pub rising_le : (a : ℕ) (xs : List Pair) (b : ℕ) → Rising a xs b → a ≤ b
rising_le a [] b h = h
rising_le a (x ∷ xs) b h = let l = h.0 in let r = rising_le (suc x.key) xs b h.1 in omega arith

pub rising_weak : (a c : ℕ) (xs : List Pair) (b : ℕ) → c ≤ a → Rising a xs b → Rising c xs b
rising_weak a c [] b l h = omega arith
rising_weak a c (x ∷ xs) b l h = let q = h.0 in (omega arith, h.1)

pub rising_in : (a : ℕ) (xs : List Pair) (b : ℕ) (x : Pair) → Rising a xs b → Has x xs → (a ≤ x.key) × (x.key < b)
rising_in a [] b x h m = absurd m
rising_in a (y ∷ ys) b x h (inl e) = let q = ap (λ (z : Pair). z.key) e in let l = h.0 in let r = rising_le (suc y.key) ys b h.1 in (omega arith, omega arith)
rising_in a (y ∷ ys) b x h (inr m) = let q = rising_in (suc y.key) ys b x h.1 m in let q0 = q.0 in let l = h.0 in (omega arith, q.1)

pub first_between : (a : ℕ) (xs : List Pair) (b : ℕ) → Rising a xs b → (a ≤ first_key xs b) × (first_key xs b ≤ b)
first_between a [] b h = (h, omega arith)
first_between a (x ∷ xs) b h = let r = rising_le (suc x.key) xs b h.1 in (h.0, omega arith)

pub rising_append : (a b c : ℕ) (xs ys : List Pair) → Rising a xs b → Rising b ys c → Rising a ((xs ++ ys)) c
rising_append a b c [] ys h g = rising_weak b a ys c h g
rising_append a b c (x ∷ xs) ys h g = (h.0, rising_append (suc x.key) b c xs ys h.1 g)

pub rising_keep : (p : ℕ → Bool) (a : ℕ) (xs : List Pair) (b : ℕ) → Rising a xs b → Rising a (keep p xs) b
rising_keep p a [] b h = h
rising_keep p a (x ∷ xs) b h = go (rising_keep p (suc x.key) xs b h.1) (p x.key)
  where
    go : Rising (suc x.key) (keep p xs) b → (q : Bool) → Rising a (if q then x ∷ keep p xs else keep p xs) b
    go ih true = (h.0, ih)
    go ih false = let l = h.0 in rising_weak (suc x.key) a (keep p xs) b (omega arith) ih

pub keep_has : (p : ℕ → Bool) (xs : List Pair) (x : Pair) → Has x (keep p xs) → Has x xs × (p x.key ≡ true)
keep_has p [] x h = absurd h
keep_has p (y ∷ ys) x h = go (keep_has p ys x) (p y.key) refl h
  where
    go : (Has x (keep p ys) → Has x ys × (p x.key ≡ true)) → (q : Bool) → p y.key ≡ q → Has x (if q then y ∷ keep p ys else keep p ys) → Has x (y ∷ ys) × (p x.key ≡ true)
    go ih true e (inl q) = (inl q, ap (λ (z : Pair). p z.key) q ∙ e)
    go ih true e (inr h) = let r = ih h in (inr r.0, r.1)
    go ih false e h = let r = ih h in (inr r.0, r.1)

pub size_keep : (p : ℕ → Bool) (xs : List Pair) → length (keep p xs) ≤ length xs
size_keep p [] = omega arith
size_keep p (x ∷ xs) = go (size_keep p xs) (p x.key)
  where
    go : length (keep p xs) ≤ length xs → (q : Bool) → length (if q then x ∷ keep p xs else keep p xs) ≤ suc (length xs)
    go ih true = omega arith
    go ih false = omega arith

pub rising_below : (a b c : ℕ) (xs : List Pair) → Rising a xs c → a ≤ b → Rising a (below b xs) b
rising_below a b c [] h l = l
rising_below a b c (x ∷ xs) h l = elim (cases_lt x.key b) [
  | inl k ↦ subst (λ (ys : List Pair). Rising a ys b) (sym (cond-true (ltb x.key b) (x ∷ below b xs) (below b xs) (lt-ltb x.key b k))) (h.0, rising_below (suc x.key) b c xs h.1 (omega arith))
  | inr k ↦ (let q = h.0 in subst (λ (ys : List Pair). Rising a ys b) (sym (cond-false (ltb x.key b) (x ∷ below b xs) (below b xs) (le-ltb x.key b k))) (rising_below a b c xs (rising_weak (suc x.key) a xs c (omega arith) h.1) l))
]

pub rising_onward : (a b c : ℕ) (xs : List Pair) → Rising a xs c → b ≤ c → Rising b (onward b xs) c
rising_onward a b c [] h l = l
rising_onward a b c (x ∷ xs) h l = elim (cases_lt x.key b) [
  | inr k ↦ subst (λ (ys : List Pair). Rising b ys c) (sym (cond-true (leb b x.key) (x ∷ onward b xs) (onward b xs) (le-leb b x.key k))) (k, rising_keep (λ (j : ℕ). leb b j) (suc x.key) xs c h.1)
  | inl k ↦ subst (λ (ys : List Pair). Rising b ys c) (sym (cond-false (leb b x.key) (x ∷ onward b xs) (onward b xs) (lt-leb b x.key k))) (rising_onward (suc x.key) b c xs h.1 l)
]

-- ## Looking a key up

pub find_keep_on : (p : ℕ → Bool) (k : ℕ) (xs : List Pair) → p k ≡ true → find k (keep p xs) ≡ find k xs
find_keep_on p k [] e = refl
find_keep_on p k (x ∷ xs) e = go (find_keep_on p k xs e) (p x.key) refl
  where
    go : find k (keep p xs) ≡ find k xs → (q : Bool) → p x.key ≡ q → find k (if q then x ∷ keep p xs else keep p xs) ≡ find k (x ∷ xs)
    go ih true w = ap (λ (z : Option ℕ). if x.key == k then Some x.word else z) ih
    go ih false w = ih ∙ sym (cond-false (x.key == k) (Some x.word) (find k xs) (ne_eqb x.key k (λ q. true≢false (sym e ∙ (ap p (sym q) ∙ w)))))

pub find_keep_off : (p : ℕ → Bool) (k : ℕ) (xs : List Pair) → p k ≡ false → find k (keep p xs) ≡ None
find_keep_off p k [] e = refl
find_keep_off p k (x ∷ xs) e = go (find_keep_off p k xs e) (p x.key) refl
  where
    go : find k (keep p xs) ≡ None → (q : Bool) → p x.key ≡ q → find k (if q then x ∷ keep p xs else keep p xs) ≡ None
    go ih true w = cond-false (x.key == k) (Some x.word) (find k (keep p xs)) (ne_eqb x.key k (λ q. true≢false (sym w ∙ (ap p q ∙ e)))) ∙ ih
    go ih false w = ih

pub find_out : (a k : ℕ) (xs : List Pair) (b : ℕ) → Rising a xs b → k < a → find k xs ≡ None
find_out a k [] b h l = refl
find_out a k (x ∷ xs) b h l = let q = h.0 in cond-false (x.key == k) (Some x.word) (find k xs) (ne_eqb x.key k (λ e. omega arith)) ∙ find_out (suc x.key) k xs b h.1 (omega arith)

pub find_beyond : (a k : ℕ) (xs : List Pair) (b : ℕ) → Rising a xs b → b ≤ k → find k xs ≡ None
find_beyond a k [] b h l = refl
find_beyond a k (x ∷ xs) b h l = let r = rising_le (suc x.key) xs b h.1 in cond-false (x.key == k) (Some x.word) (find k xs) (ne_eqb x.key k (λ e. omega arith)) ∙ find_beyond (suc x.key) k xs b h.1 l

abbrev pub is_some : Option ℕ → Bool
is_some None = false
is_some (Some x) = true

pub some_none : (x : ℕ) → Some x ≡ None → ⊥
some_none x e = true≢false (ap is_some e)

pub found_in : (a k : ℕ) (xs : List Pair) (b : ℕ) → Rising a xs b → (find k xs ≡ None → ⊥) → (a ≤ k) × (k < b)
found_in a k xs b h n = elim (cases_lt k a) [
  | inl l ↦ absurd (n (find_out a k xs b h l))
  | inr l ↦ elim (cases_lt k b) [ inl u ↦ (l, u) | inr u ↦ absurd (n (find_beyond a k xs b h u)) ]
]

pub find_append_left : (a b c k : ℕ) (xs ys : List Pair) → Rising a xs b → Rising b ys c → k < b → find k ((xs ++ ys)) ≡ find k xs
find_append_left a b c k [] ys h g l = find_out b k ys c g l
find_append_left a b c k (x ∷ xs) ys h g l = ap (λ (z : Option ℕ). if x.key == k then Some x.word else z) (find_append_left (suc x.key) b c k xs ys h.1 g l)

pub find_append_right : (a b k : ℕ) (xs ys : List Pair) → Rising a xs b → b ≤ k → find k ((xs ++ ys)) ≡ find k ys
find_append_right a b k [] ys h l = refl
find_append_right a b k (x ∷ xs) ys h l = let r = rising_le (suc x.key) xs b h.1 in cond-false (x.key == k) (Some x.word) (find k ((xs ++ ys))) (ne_eqb x.key k (λ e. omega arith)) ∙ find_append_right (suc x.key) b k xs ys h.1 l

-- ## Putting a pair in

-- by the place of its key
pub put_prefix : (k w : ℕ) (x : Pair) (xs : List Pair) → k < x.key → put k w (x ∷ xs) ≡ record { key = k; word = w } ∷ x ∷ xs
put_prefix k w x xs l = cond-true (ltb k x.key) (record { key = k; word = w } ∷ x ∷ xs) (if x.key == k then record { key = k; word = w } ∷ xs else x ∷ put k w xs) (lt-ltb k x.key l)

pub put_here : (k w : ℕ) (x : Pair) (xs : List Pair) → x.key ≡ k → put k w (x ∷ xs) ≡ record { key = k; word = w } ∷ xs
put_here k w x xs e =
    cond-false (ltb k x.key) (record { key = k; word = w } ∷ x ∷ xs) (if x.key == k then record { key = k; word = w } ∷ xs else x ∷ put k w xs) (le-ltb k x.key (omega arith))
    ∙ cond-true (x.key == k) (record { key = k; word = w } ∷ xs) (x ∷ put k w xs) (eq-eqb x.key k e)

pub put_back : (k w : ℕ) (x : Pair) (xs : List Pair) → x.key < k → put k w (x ∷ xs) ≡ x ∷ put k w xs
put_back k w x xs l =
    cond-false (ltb k x.key) (record { key = k; word = w } ∷ x ∷ xs) (if x.key == k then record { key = k; word = w } ∷ xs else x ∷ put k w xs) (le-ltb k x.key (omega arith))
    ∙ cond-false (x.key == k) (record { key = k; word = w } ∷ xs) (x ∷ put k w xs) (ne_eqb x.key k (λ e. omega arith))

-- where k stands to the first key
pub placed : (k : ℕ) (x : Pair) → (k < x.key) ⊎ ((x.key ≡ k) ⊎ (x.key < k))
placed k x = elim (cases_lt k x.key) [ inl l ↦ inl l | inr l ↦ elim (cases_eq x.key k) [ inl e ↦ inr (inl e) | inr n ↦ inr (inr (omega arith)) ] ]

pub rising_put : (a k w : ℕ) (xs : List Pair) (b : ℕ) → Rising a xs b → a ≤ k → k < b → Rising a (put k w xs) b
rising_put a k w [] b h l u = (l, omega arith)
rising_put a k w (x ∷ xs) b h l u = elim (placed k x) [
  | inl q ↦ subst (λ (ys : List Pair). Rising a ys b) (sym (put_prefix k w x xs q)) (l, (omega arith, h.1))
  | inr (inl q) ↦ subst (λ (ys : List Pair). Rising a ys b) (sym (put_here k w x xs q)) (l, subst (λ (j : ℕ). Rising (suc j) xs b) q h.1)
  | inr (inr q) ↦ subst (λ (ys : List Pair). Rising a ys b) (sym (put_back k w x xs q)) (h.0, rising_put (suc x.key) k w xs b h.1 (omega arith) u)
]

pub find_put_same : (k w : ℕ) (xs : List Pair) → find k (put k w xs) ≡ Some w
find_put_same k w [] = cond-true (k == k) (Some w) None (eq-eqb k k refl)
find_put_same k w (x ∷ xs) = elim (placed k x) [
  | inl q ↦ ap (find k) (put_prefix k w x xs q) ∙ cond-true (k == k) (Some w) (find k (x ∷ xs)) (eq-eqb k k refl)
  | inr (inl q) ↦ ap (find k) (put_here k w x xs q) ∙ cond-true (k == k) (Some w) (find k xs) (eq-eqb k k refl)
  | inr (inr q) ↦ ap (find k) (put_back k w x xs q) ∙ (cond-false (x.key == k) (Some x.word) (find k (put k w xs)) (ne_eqb x.key k (λ e. omega arith)) ∙ find_put_same k w xs)
]

pub find_put_other : (k w j : ℕ) (xs : List Pair) → (k ≡ j → ⊥) → find j (put k w xs) ≡ find j xs
find_put_other k w j [] n = cond-false (k == j) (Some w) None (ne_eqb k j n)
find_put_other k w j (x ∷ xs) n = elim (placed k x) [
  | inl q ↦ ap (find j) (put_prefix k w x xs q) ∙ cond-false (k == j) (Some w) (find j (x ∷ xs)) (ne_eqb k j n)
  | inr (inl q) ↦ ap (find j) (put_here k w x xs q) ∙ (cond-false (k == j) (Some w) (find j xs) (ne_eqb k j n) ∙ sym (cond-false (x.key == j) (Some x.word) (find j xs) (ne_eqb x.key j (λ e. n (sym q ∙ e)))))
  | inr (inr q) ↦ ap (find j) (put_back k w x xs q) ∙ ap (λ (z : Option ℕ). if x.key == j then Some x.word else z) (find_put_other k w j xs n)
]

pub put_has : (k w : ℕ) (xs : List Pair) (y : Pair) → Has y (put k w xs) → (y ≡ record { key = k; word = w }) ⊎ Has y xs
put_has k w [] y (inl e) = inl e
put_has k w [] y (inr h) = absurd h
put_has k w (x ∷ xs) y h = elim (placed k x) [
  | inl q ↦ (let g : Has y (record { key = k; word = w } ∷ x ∷ xs) = subst (Has y) (put_prefix k w x xs q) h in g)
  | inr (inl q) ↦ (let g : Has y (record { key = k; word = w } ∷ xs) = subst (Has y) (put_here k w x xs q) h in elim g [ inl e ↦ inl e | inr m ↦ inr (inr m) ])
  | inr (inr q) ↦ (let g : Has y (x ∷ put k w xs) = subst (Has y) (put_back k w x xs q) h in elim g [ inl e ↦ inr (inl e) | inr m ↦ elim (put_has k w xs y m) [ inl e ↦ inl e | inr t ↦ inr (inr t) ] ])
]

pub size_put : (k w : ℕ) (xs : List Pair) → length (put k w xs) ≤ suc (length xs)
size_put k w [] = omega arith
size_put k w (x ∷ xs) = elim (placed k x) [
  | inl q ↦ (let e = ap (λ (ys : List Pair). length ys) (put_prefix k w x xs q) in omega arith)
  | inr (inl q) ↦ (let e = ap (λ (ys : List Pair). length ys) (put_here k w x xs q) in omega arith)
  | inr (inr q) ↦ (let e = ap (λ (ys : List Pair). length ys) (put_back k w x xs q) in let r = size_put k w xs in omega arith)
]

pub size_put_old : (a k w : ℕ) (xs : List Pair) (b : ℕ) → Rising a xs b → (find k xs ≡ None → ⊥) → length (put k w xs) ≡ length xs
size_put_old a k w [] b h n = absurd (n refl)
size_put_old a k w (x ∷ xs) b h n = elim (placed k x) [
  | inl q ↦ absurd (n (find_out x.key k (x ∷ xs) b (omega arith, h.1) q))
  | inr (inl q) ↦ ap (λ (ys : List Pair). length ys) (put_here k w x xs q)
  | inr (inr q) ↦ ap (λ (ys : List Pair). length ys) (put_back k w x xs q) ∙ ap suc (size_put_old (suc x.key) k w xs b h.1 (λ e. n (cond-false (x.key == k) (Some x.word) (find k xs) (ne_eqb x.key k (λ z. omega arith)) ∙ e)))
]
