-- The least of the logs' numbers, and the reach.
use Rattle.std.proofs.Common.{◌≡◌, ◌⊎◌, ◌≤◌, ◌<◌, ℕ, zero, suc, min, max, ap, inl, inr, arith}
use Rattle.std.proofs.lemmas.Bool.{cases_lt, cases_eq}
use Rattle.rfa_model.specs.Reaches.{least, EveryReach}

pub least_low : (f : ℕ → ℕ) (n w : ℕ) → 0 < w → w ≤ n → least f n ≤ f w
least_low f zero w some low = absurd (omega arith)
least_low f (suc n) w some low = go (least_low f n) (cases_eq w (suc n))
  where
    go : ((w : ℕ) → 0 < w → w ≤ n → least f n ≤ f w) → (w ≡ suc n) ⊎ (w ≡ suc n → ⊥) → min (f (suc n)) (least f n) ≤ f w
    go ih (inl e) = let q = ap f e in omega arith
    go ih (inr ne) = let a : w ≤ n = rest ne in let q = ih w some a in omega arith
      where
        rest : (w ≡ suc n → ⊥) → w ≤ n
        rest ne = elim (cases_lt n w) [ inl lt ↦ absurd (ne (let l = low in omega arith)) | inr le ↦ le ]

pub least_from : (f : ℕ → ℕ) (n x : ℕ) → 0 < n → ((w : ℕ) → 0 < w → w ≤ n → x ≤ f w) → x ≤ least f n
least_from f zero x some h = absurd (omega arith)
least_from f (suc zero) x some h = let q = h 1 (omega arith) (omega arith) in omega arith
least_from f (suc (suc n)) x some h =
    let q = h (suc (suc n)) (omega arith) (omega arith) in
    let r = least_from f (suc n) x (omega arith) (λ w s l. h w s (omega arith)) in omega arith

pub least_met : (f : ℕ → ℕ) (n : ℕ) → 0 < n → (w : ℕ) × (0 < w) × (w ≤ n) × (least f n ≡ f w)
least_met f zero some = absurd (omega arith)
least_met f (suc zero) some = (1, omega arith, omega arith, omega arith)
least_met f (suc (suc n)) some = go (least_met f (suc n) (omega arith)) (cases_lt (f (suc (suc n))) (least f (suc n)))
  where
    go : ((w : ℕ) × (0 < w) × (w ≤ suc n) × (least f (suc n) ≡ f w)) → (f (suc (suc n)) < least f (suc n)) ⊎ (least f (suc n) ≤ f (suc (suc n))) →
        (w : ℕ) × (0 < w) × (w ≤ suc (suc n)) × (min (f (suc (suc n))) (least f (suc n)) ≡ f w)
    go ih (inl lt) = (suc (suc n), omega arith, omega arith, (let l = lt in omega arith))
    go ih (inr le) = (ih.0, ih.1, (let l = ih.2 in omega arith), (let l = le in let e = ih.3 in omega arith))

pub every_reach : EveryReach
every_reach logs some = record {
  low = λ f w s l. least_low f logs w s l;
  met = λ f. least_met f logs some;
  reached = λ floor n greatest h. least_from (λ w. max floor (greatest w)) logs n some h;
  within = λ floor w greatest s l far. (let q = least_low (λ w. max floor (greatest w)) logs w s l in let r = far in omega arith);
  floored = λ floor greatest. least_from (λ w. max floor (greatest w)) logs floor some (λ w s l. omega arith);
}
