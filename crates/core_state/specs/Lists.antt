-- Words on numbers and lists of numbers.
use Rattle.std.specs.Prelude.{ℕ, zero, suc, max, Bool, true, false, ◌&&◌, ◌==◌, List, [], ◌∷◌, if◌then◌else◌}

-- it has no element
abbrev pub is_empty : {A : Type 0} → List A → Bool
is_empty [] = true
is_empty (x ∷ xs) = false

-- the greatest of f 1 .. f n
abbrev pub most : (ℕ → ℕ) → ℕ → ℕ
most f zero = f 1
most f (suc n) = max (f (suc n)) (most f n)

-- each number below n passes
abbrev pub all_below : ℕ → (ℕ → Bool) → Bool
all_below zero p = true
all_below (suc n) p = p n && all_below n p

-- how many numbers below n pass
abbrev pub count_below : ℕ → (ℕ → Bool) → ℕ
count_below zero p = 0
count_below (suc n) p = if p n then suc (count_below n p) else count_below n p

-- how often p stands in the list
abbrev pub times : ℕ → List ℕ → ℕ
times p [] = 0
times p (x ∷ xs) = if x == p then suc (times p xs) else times p xs

-- the list but for p
abbrev pub without : ℕ → List ℕ → List ℕ
without p [] = []
without p (x ∷ xs) = if x == p then without p xs else x ∷ without p xs

-- the list with p behind it
abbrev pub at_end : List ℕ → ℕ → List ℕ
at_end [] p = p ∷ []
at_end (x ∷ xs) p = x ∷ at_end xs p
