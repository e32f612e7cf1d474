-- How many words a row has.
use Rattle.std.proofs.Common.{◌≡◌, ◌≤◌, ℕ, zero, suc, List, [], ◌∷◌, ◌++◌, length, drop, refl, ap, arith}

-- a row has as many words once those of a page stand in it
pub whole_length : (ws now : List ℕ) (n : ℕ) → length ws ≡ n → n ≤ length now → length (ws ++ drop n now) ≡ length now
whole_length [] now zero e le = refl
whole_length [] now (suc n) e le = absurd (omega arith)
whole_length (x ∷ xs) now zero e le = absurd (omega arith)
whole_length (x ∷ xs) [] (suc n) e le = absurd (omega arith)
whole_length (x ∷ xs) (y ∷ ys) (suc n) e le = ap suc (whole_length xs ys n (omega arith) (omega arith))
