-- How many pages have a fence above a key.
use Rattle.std.proofs.Common.{◌≡◌, ◌<◌, ◌≤◌, ltb, ℕ, zero, suc, Bool, true, false, cond, inl, inr, refl, sym, ap, ◌∙◌, arith, true≢false}
use Rattle.std.proofs.lemmas.Bool.{cases_eq, lt-ltb, ltb-true}
use Rattle.paged_calls.specs.core_state.Lists.{count_below}
use Rattle.paged_calls.specs.core_state.Openings.{Opening}
use Rattle.paged_calls.specs.core_state.States.{State}
use Rattle.paged_scans.specs.Steps.{pages_above}

-- ## Counts

-- at most all
count_all : (n : ℕ) (P : ℕ → Bool) → count_below n P ≤ n
count_all zero P = omega arith
count_all (suc n) P = go (P n) (count_all n P)
  where
    go : (b : Bool) → count_below n P ≤ n → cond b (suc (count_below n P)) (count_below n P) ≤ suc n
    go true l = omega arith
    go false l = omega arith

count_same : (n : ℕ) (P Q : ℕ → Bool) → ((q : ℕ) → Q q ≡ P q) → count_below n Q ≡ count_below n P
count_same zero P Q same = refl
count_same (suc n) P Q same = let ih = count_same n P Q same in (λ i. cond (same n i) (suc (ih i)) (ih i))

-- where none came there are no more
count_less : (n : ℕ) (P Q : ℕ → Bool) → ((q : ℕ) → Q q ≡ true → P q ≡ true) → count_below n Q ≤ count_below n P
count_less zero P Q less = omega arith
count_less (suc n) P Q less = go (Q n) (P n) (count_below n Q) (count_below n P) (less n) (count_less n P Q less)
  where
    go : (b c : Bool) (m k : ℕ) → (b ≡ true → c ≡ true) → m ≤ k → cond b (suc m) m ≤ cond c (suc k) k
    go true true m k f l = omega arith
    go false true m k f l = omega arith
    go false false m k f l = l
    go true false m k f l = absurd (true≢false (sym (f refl)))

-- and where one went there are fewer
count_fewer : (n p : ℕ) (P Q : ℕ → Bool) → p < n → P p ≡ true → Q p ≡ false → ((q : ℕ) → Q q ≡ true → P q ≡ true) → suc (count_below n Q) ≤ count_below n P
count_fewer zero p P Q lt was now less = absurd (omega arith)
count_fewer (suc n) p P Q lt was now less = elim (cases_eq n p) [
  | inl e ↦ gone (Q n) (P n) (count_below n Q) (count_below n P) (ap Q e ∙ now) (ap P e ∙ was) (count_less n P Q less)
  | inr ne ↦ (let l : p < n = below n p lt ne in more (Q n) (P n) (count_below n Q) (count_below n P) (less n) (count_fewer n p P Q l was now less))
]
  where
    below : (n p : ℕ) → p < suc n → (n ≡ p → ⊥) → p < n
    below n p l ne = elim (cases_eq p n) [ inl e ↦ absurd (ne (sym e)) | inr f ↦ omega arith ]

    gone : (b c : Bool) (m k : ℕ) → b ≡ false → c ≡ true → m ≤ k → suc (cond b (suc m) m) ≤ cond c (suc k) k
    gone false true m k x y l = omega arith
    gone true c m k x y l = absurd (true≢false x)
    gone false false m k x y l = absurd (true≢false (sym y))

    more : (b c : Bool) (m k : ℕ) → (b ≡ true → c ≡ true) → suc m ≤ k → suc (cond b (suc m) m) ≤ cond c (suc k) k
    more true true m k f l = omega arith
    more false true m k f l = omega arith
    more false false m k f l = l
    more true false m k f l = absurd (true≢false (sym (f refl)))

-- ## Fences

module _ (g : Opening) where
  pub above_all : (s : State) (key : ℕ) → pages_above g s key ≤ g.format.pages
  above_all s key = count_all g.format.pages (λ p. ltb key (s.page p).node.high)

  -- where the fences are the same
  pub above_same : (s t : State) (key : ℕ) → ((p : ℕ) → (t.page p).node.high ≡ (s.page p).node.high) → pages_above g t key ≡ pages_above g s key
  above_same s t key same = count_same g.format.pages (λ p. ltb key (s.page p).node.high) (λ p. ltb key (t.page p).node.high) (λ q. ap (ltb key) (same q))

  -- behind the end of a page that has the key below its high fence
  pub above_fewer : (s : State) (page key high : ℕ) → page < g.format.pages → key < high → (s.page page).node.high ≡ high → suc (pages_above g s high) ≤ pages_above g s key
  above_fewer s page key high below lt is = count_fewer g.format.pages page (λ p. ltb key (s.page p).node.high) (λ p. ltb high (s.page p).node.high) below (lt-ltb key (s.page page).node.high (omega arith)) (ap (ltb high) is ∙ never (ltb high high) refl)
      (λ q e. lt-ltb key (s.page q).node.high (let a = ltb-true high (s.page q).node.high e in omega arith))
    where
      never : (b : Bool) → ltb high high ≡ b → b ≡ false
      never true e = let a = ltb-true high high e in absurd (omega arith)
      never false e = refl
