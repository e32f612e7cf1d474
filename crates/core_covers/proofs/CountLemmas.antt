-- How many numbers pass a test.
use Rattle.std.proofs.Common.{◌≡◌, ◌⊎◌, inl, inr, ◌≤◌, ◌<◌, ◌+◌, ◌==◌, ◌||◌, ℕ, zero, suc, Bool, true, false, cond, List, [], ◌∷◌, length, refl, sym, arith, true≢false}
use Rattle.std.proofs.lemmas.Bool.{eq-eqb, eqb-true, ne_eqb, or_left, or_right}
use Rattle.map_model.specs.Lists.{Has}
use Rattle.core_paging.specs.core_state.Lists.{count_below}

-- a test that passes where another does
pub count_mono : (n : ℕ) (p q : ℕ → Bool) → ((i : ℕ) → i < n → q i ≡ true → p i ≡ true) → count_below n q ≤ count_below n p
count_mono zero p q h = omega arith
count_mono (suc n) p q h = go (q n) (p n) (h n (omega arith)) (count_mono n p q (λ i lt. h i (omega arith)))
  where
    go : (b c : Bool) → (b ≡ true → c ≡ true) → count_below n q ≤ count_below n p → cond b (suc (count_below n q)) (count_below n q) ≤ cond c (suc (count_below n p)) (count_below n p)
    go true true k l = omega arith
    go true false k l = absurd (true≢false (sym (k refl)))
    go false true k l = omega arith
    go false false k l = omega arith

-- none passes
pub count_none : (n : ℕ) (p : ℕ → Bool) → ((i : ℕ) → i < n → p i ≡ false) → count_below n p ≡ 0
count_none zero p h = refl
count_none (suc n) p h = go (p n) (h n (omega arith)) (count_none n p (λ i lt. h i (omega arith)))
  where
    go : (b : Bool) → b ≡ false → count_below n p ≡ 0 → cond b (suc (count_below n p)) (count_below n p) ≡ 0
    go true e c = absurd (true≢false e)
    go false e c = c

-- one number more
count_one : (n x : ℕ) (p : ℕ → Bool) → count_below n (λ i. (i == x) || p i) ≤ suc (count_below n p)
count_one zero x p = omega arith
count_one (suc n) x p = go (n == x) refl (p n) (count_one n x p)
  where
    -- below x it is the same test
    same : n ≡ x → count_below n (λ i. (i == x) || p i) ≤ count_below n p
    same e = count_mono n p (λ i. (i == x) || p i) (λ i lt h. other i (i == x) (ne_eqb i x (λ (q : i ≡ x). absurd (omega arith))) h)
      where
        other : (i : ℕ) (b : Bool) → b ≡ false → (b || p i) ≡ true → p i ≡ true
        other i true f h = absurd (true≢false f)
        other i false f h = h

    go : (b : Bool) → (n == x) ≡ b → (c : Bool) → count_below n (λ i. (i == x) || p i) ≤ suc (count_below n p)
        → cond (b || c) (suc (count_below n (λ i. (i == x) || p i))) (count_below n (λ i. (i == x) || p i)) ≤ suc (cond c (suc (count_below n p)) (count_below n p))
    go true e c l = let k = same (eqb-true n x e) in at c k
      where
        at : (c : Bool) → count_below n (λ i. (i == x) || p i) ≤ count_below n p → suc (count_below n (λ i. (i == x) || p i)) ≤ suc (cond c (suc (count_below n p)) (count_below n p))
        at true k = omega arith
        at false k = omega arith
    go false e true l = omega arith
    go false e false l = l

-- a test that passes where another does, or for one of these numbers
pub count_more : (n : ℕ) (p q : ℕ → Bool) (xs : List ℕ) → ((i : ℕ) → i < n → q i ≡ true → (p i ≡ true) ⊎ Has i xs) → count_below n q ≤ count_below n p + length xs
count_more n p q [] h = let a = count_mono n p q (λ i lt k. elim (h i lt k) [ inl e ↦ e | inr none ↦ absurd none ]) in omega arith
count_more n p q (x ∷ xs) h =
    let a = count_more n (λ i. (i == x) || p i) q xs (λ i lt k. elim (h i lt k) [
      | inl e ↦ inl (or_right (i == x) (p i) e)
      | inr has ↦ elim has [ inl e ↦ inl (or_left (i == x) (p i) (eq-eqb i x e)) | inr later ↦ inr later ]
    ]) in
    let b = count_one n x p in omega arith
