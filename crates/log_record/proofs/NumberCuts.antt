-- Numbers in front of the same bytes, and at places.
use Rattle.std.proofs.Common.{◌≡◌, ◌++◌, ◌+◌, ℕ, List, ◌^◌, ◌<◌, drop, ap, sym, ◌∙◌}
use mathlib.Core.List.{append_assoc}
use Rattle.std.proofs.lemmas.List.{append_cancel_left, drop_at, drop-drop}
use Rattle.lean_bytes.specs.Numbers.{number_bytes, number_of, number_at}
use Rattle.lean_bytes.proofs.NumberLemmas.{length-number_bytes, number-read}

-- two numbers in front of the same bytes are the same
pub number_cut : (n x y : ℕ) (xs ys : List ℕ) → x < 256 ^ n → y < 256 ^ n → number_bytes n x ++ xs ≡ number_bytes n y ++ ys → (x ≡ y) × (xs ≡ ys)
number_cut n x y xs ys h k e =
    let same : x ≡ y = sym (number-read n x xs h) ∙ ap (number_of n) e ∙ number-read n y ys k in
    (same, append_cancel_left (number_bytes n y) xs ys (ap (λ (z : ℕ). number_bytes n z ++ xs) (sym same) ∙ e))

pub number_in_cut : (n x y : ℕ) (a b xs ys : List ℕ) → x < 256 ^ n → y < 256 ^ n → (number_bytes n x ++ a) ++ xs ≡ (number_bytes n y ++ b) ++ ys → (x ≡ y) × (a ++ xs ≡ b ++ ys)
number_in_cut n x y a b xs ys h k e = number_cut n x y (a ++ xs) (b ++ ys) h k (sym (append_assoc (number_bytes n x) a xs) ∙ e ∙ append_assoc (number_bytes n y) b ys)

-- ## Numbers at places

-- what stands behind a number
pub drop_next : (n k at x : ℕ) (bytes xs : List ℕ) → drop at bytes ≡ number_bytes n x ++ xs → k ≡ at + n → drop k bytes ≡ xs
drop_next n k at x bytes xs h e = ap (λ j. drop j bytes) e ∙ sym (drop-drop n at bytes) ∙ ap (drop n) h ∙ drop_at (number_bytes n x) xs n (length-number_bytes n x)

-- a number that stands at a place
pub number_there : (n at x : ℕ) (bytes xs : List ℕ) → drop at bytes ≡ number_bytes n x ++ xs → x < 256 ^ n → number_at n at bytes ≡ x
number_there n at x bytes xs h few = ap (number_of n) h ∙ number-read n x xs few
