-- How many of the first blocks end at or below a number.
use Rattle.std.proofs.Common.{◌≡◌, ◌≤◌, ◌<◌, ◌+◌, ℕ, zero, suc, Bool, true, false, leb, List, [], ◌∷◌, drop, length, slice_get, refl, sym, ap, ◌∙◌, subst, arith, true≢false}
use Rattle.std.proofs.lemmas.Bool.{cond-true, cond-false}
use Rattle.worker_log.specs.Inside.{is_up_to}
use Rattle.worker_log.specs.Logs.{passed_by}

-- the one behind the first k is passed too
passed_suc : (k x : ℕ) (ends : List ℕ) → is_up_to x (slice_get ends k) ≡ true → (passed_by x (drop k ends) ≡ suc (passed_by x (drop (suc k) ends))) × (k < length ends)
passed_suc k x [] is = absurd (true≢false (sym is))
passed_suc zero x (e ∷ ends) is = (cond-true (leb e x) (suc (passed_by x ends)) 0 is, omega arith)
passed_suc (suc k) x (e ∷ ends) is = let q = passed_suc k x ends is in let l = q.1 in (q.0, omega arith)

pub passed_more : (k x : ℕ) (ends : List ℕ) → is_up_to x (slice_get ends k) ≡ true → (passed_by x (drop k ends) ≡ passed_by x (drop (k + 1) ends) + 1) × (k < length ends)
passed_more k x ends is =
    let q = passed_suc k x ends is in let l = q.1 in
    let e : suc k ≡ k + 1 = omega arith in
    let d : passed_by x (drop (suc k) ends) ≡ passed_by x (drop (k + 1) ends) = ap (λ (j : ℕ). passed_by x (drop j ends)) e in
    let f = q.0 in (omega arith, omega arith)

-- and no further one
pub passed_all : (k x : ℕ) (ends : List ℕ) → is_up_to x (slice_get ends k) ≡ false → passed_by x (drop k ends) ≡ 0
passed_all zero x [] is = refl
passed_all (suc k) x [] is = refl
passed_all zero x (e ∷ ends) is = cond-false (leb e x) (suc (passed_by x ends)) 0 is
passed_all (suc k) x (e ∷ ends) is = passed_all k x ends is

pub passed_within : (x : ℕ) (ends : List ℕ) → passed_by x ends ≤ length ends
passed_within x [] = omega arith
passed_within x (e ∷ ends) = go (leb e x) (passed_within x ends)
  where
    go : (b : Bool) → passed_by x ends ≤ length ends → Rattle.std.proofs.Common.cond b (suc (passed_by x ends)) 0 ≤ length (e ∷ ends)
    go true l = omega arith
    go false l = omega arith
