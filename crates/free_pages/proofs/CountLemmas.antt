-- How many marks stand.
use Rattle.std.proofs.Common.{◌≡◌, ◌≤◌, ◌<◌, ◌+◌, ℕ, zero, suc, Bool, true, false, List, [], ◌∷◌, length, set, replicate, refl, sym, arith, true≢false}
use Rattle.free_pages.specs.Pages.{count, is_in, IsEmpty}

-- a mark as a number
abbrev pub one : Bool → ℕ
one true = 1
one false = 0

pub count_most : (xs : List Bool) → count xs ≤ length xs
count_most [] = omega arith
count_most (true ∷ xs) = let e = count_most xs in omega arith
count_most (false ∷ xs) = let e = count_most xs in omega arith

-- one mark is written
pub count-set : (xs : List Bool) (i : ℕ) (mark : Bool) → i < length xs → count (set xs i mark) + one (is_in xs i) ≡ count xs + one mark
count-set [] i mark lt = omega arith
count-set (true ∷ xs) zero true lt = refl
count-set (true ∷ xs) zero false lt = omega arith
count-set (false ∷ xs) zero true lt = omega arith
count-set (false ∷ xs) zero false lt = refl
count-set (true ∷ xs) (suc i) mark lt = let e = count-set xs i mark (omega arith) in omega arith
count-set (false ∷ xs) (suc i) mark lt = let e = count-set xs i mark (omega arith) in omega arith

-- one that stands is counted
pub count_some : (xs : List Bool) (i : ℕ) → is_in xs i ≡ true → 0 < count xs
count_some [] i e = absurd (true≢false (sym e))
count_some (true ∷ xs) i e = omega arith
count_some (false ∷ xs) zero e = absurd (true≢false (sym e))
count_some (false ∷ xs) (suc i) e = count_some xs i e

-- where none is counted, none stands
pub none_from_count : (xs : List Bool) → count xs ≡ 0 → IsEmpty xs
none_from_count xs e i = go (is_in xs i) refl
  where
    go : (b : Bool) → is_in xs i ≡ b → b ≡ false
    go true s = let q = count_some xs i s in absurd (omega arith)
    go false s = refl

pub count_none : (xs : List Bool) → IsEmpty xs → count xs ≡ 0
count_none [] f = refl
count_none (true ∷ xs) f = absurd (true≢false (f 0))
count_none (false ∷ xs) f = count_none xs (λ i. f (suc i))

pub count-replicate : (n : ℕ) → count (replicate n false) ≡ 0
count-replicate zero = refl
count-replicate (suc n) = count-replicate n
