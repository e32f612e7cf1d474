-- How many numbers pass a test, where they go to others that pass one.
use Rattle.std.proofs.Common.{◌≡◌, ◌⊎◌, inl, inr, ◌∙◌, ◌≤◌, ◌<◌, ◌+◌, ◌==◌, ◌&&◌, ◌||◌, ℕ, zero, suc, Bool, true, false, cond, not, refl, sym, ap, arith, true≢false}
use Rattle.std.proofs.lemmas.Bool.{and_from, and_parts, cases_eq, eq-eqb, ne_eqb, not_from_false}
use Rattle.core_paging.specs.core_state.Lists.{count_below}
use Rattle.core_covers.proofs.CountLemmas.{count_mono}

pub count_all : (n : ℕ) → count_below n (λ _. true) ≡ n
count_all zero = refl
count_all (suc n) = ap suc (count_all n)

-- one or the other passes
pub count_either : (n : ℕ) (p q : ℕ → Bool) → count_below n (λ i. p i || q i) ≤ count_below n p + count_below n q
count_either zero p q = omega arith
count_either (suc n) p q = go (p n) (q n) (count_either n p q)
  where
    go : (b c : Bool) → count_below n (λ i. p i || q i) ≤ count_below n p + count_below n q
        → cond (b || c) (suc (count_below n (λ i. p i || q i))) (count_below n (λ i. p i || q i)) ≤ cond b (suc (count_below n p)) (count_below n p) + cond c (suc (count_below n q)) (count_below n q)
    go true true l = omega arith
    go true false l = omega arith
    go false true l = omega arith
    go false false l = l

-- without one that passes it is one fewer
count_less : (m x : ℕ) (q : ℕ → Bool) → x < m → q x ≡ true → suc (count_below m (λ j. q j && not (j == x))) ≤ count_below m q
count_less zero x q lt h = absurd (omega arith)
count_less (suc m) x q lt h = go (count_less m x q) (cases_eq m x)
  where
    fewer : count_below m (λ j. q j && not (j == x)) ≤ count_below m q
    fewer = count_mono m q (λ j. q j && not (j == x)) (λ j _ k. (and_parts (q j) (not (j == x)) k).0)

    here : (b c : Bool) → b ≡ true → c ≡ true → suc (cond (b && not c) (suc (count_below m (λ j. q j && not (j == x)))) (count_below m (λ j. q j && not (j == x)))) ≤ cond b (suc (count_below m q)) (count_below m q)
    here true true e f = let l = fewer in omega arith
    here true false e f = absurd (true≢false (sym f))
    here false c e f = absurd (true≢false (sym e))

    there : (b c : Bool) → suc (count_below m (λ j. q j && not (j == x))) ≤ count_below m q
        → suc (cond (b && not c) (suc (count_below m (λ j. q j && not (j == x)))) (count_below m (λ j. q j && not (j == x)))) ≤ cond b (suc (count_below m q)) (count_below m q)
    there true true l = omega arith
    there true false l = omega arith
    there false c l = l

    go : (x < m → q x ≡ true → suc (count_below m (λ j. q j && not (j == x))) ≤ count_below m q) → (m ≡ x) ⊎ (m ≡ x → ⊥) → suc (count_below (suc m) (λ j. q j && not (j == x))) ≤ count_below (suc m) q
    go less (inl e) = here (q m) (m == x) (ap q e ∙ h) (eq-eqb m x e)
    go less (inr ne) = there (q m) (m == x) (less (omega arith) h)

self : (n : ℕ) → n < suc n
self n = omega arith

up : (i n : ℕ) → i < n → i < suc n
up i n l = omega arith

-- each goes to one of its own
pub count_into : (n m : ℕ) (p q : ℕ → Bool) (to : (i : ℕ) → i < n → ℕ) → ((i : ℕ) (l : i < n) → p i ≡ true → (to i l < m) × (q (to i l) ≡ true))
    → ((i j : ℕ) (l : i < n) (k : j < n) → p i ≡ true → p j ≡ true → to i l ≡ to j k → i ≡ j) → count_below n p ≤ count_below m q
count_into zero m p q to goes apart = omega arith
count_into (suc n) m p q to goes apart = go (p n) refl (λ r passes. count_into n m p r (λ i l. to i (up i n l)) passes (λ i j l k. apart i j (up i n l) (up j n k)))
  where
    last : ℕ
    last = to n (self n)

    -- those below go elsewhere
    elsewhere : p n ≡ true → (i : ℕ) (l : i < n) → p i ≡ true → (to i (up i n l) < m) × ((q (to i (up i n l)) && not (to i (up i n l) == last)) ≡ true)
    elsewhere here i l k =
        let g = goes i (up i n l) k in (
          g.0,
          and_from (q (to i (up i n l))) (not (to i (up i n l) == last)) g.1
              (not_from_false (to i (up i n l) == last) (ne_eqb (to i (up i n l)) last (λ e. let same = apart i n (up i n l) (self n) k here e in absurd (omega arith)))),
        )

    go : (b : Bool) → p n ≡ b → ((r : ℕ → Bool) → ((i : ℕ) (l : i < n) → p i ≡ true → (to i (up i n l) < m) × (r (to i (up i n l)) ≡ true)) → count_below n p ≤ count_below m r)
        → cond b (suc (count_below n p)) (count_below n p) ≤ count_below m q
    go true here below = let a = below (λ j. q j && not (j == last)) (elsewhere here) in let g = goes n (self n) here in let b = count_less m last q g.0 g.1 in omega arith
    go false none below = below q (λ i l. goes i (up i n l))
