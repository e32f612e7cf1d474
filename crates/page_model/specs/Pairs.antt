-- Lists of pairs with rising keys, and the ranges of keys that they name.
use Rattle.std.specs.Prelude.{if◌then◌else◌, ◌≡◌, ◌≤◌, ℕ, suc, Bool, true, false, not, leb, ltb, ◌==◌, List, [], ◌∷◌, ◌⊎◌, Option, Some, None}

pub record Pair : Type 0 where
  pub key : ℕ
  pub word : ℕ

abbrev pub Has : {A : Type 0} → A → List A → Type 0
Has x [] = ⊥
Has x (y ∷ ys) = (x ≡ y) ⊎ Has x ys

-- keys rise strictly, from low up to, not including, high
abbrev pub Rising : ℕ → List Pair → ℕ → Type 0
Rising low [] high = low ≤ high
Rising low (x ∷ xs) high = (low ≤ x.key) × Rising (suc x.key) xs high

abbrev pub find : ℕ → List Pair → Option ℕ
find k [] = None
find k (x ∷ xs) = if x.key == k then Some x.word else find k xs

-- the pair with key k gets the word w, and is put in where there is none
abbrev pub put : ℕ → ℕ → List Pair → List Pair
put k w [] = record { key = k; word = w } ∷ []
put k w (x ∷ xs) =
    if ltb k x.key then record { key = k; word = w } ∷ x ∷ xs
    else (if x.key == k then record { key = k; word = w } ∷ xs else x ∷ put k w xs)

-- the pairs whose keys pass
abbrev pub keep : (ℕ → Bool) → List Pair → List Pair
keep p [] = []
keep p (x ∷ xs) = if p x.key then x ∷ keep p xs else keep p xs

abbrev pub below : ℕ → List Pair → List Pair
below sep = keep (λ k. ltb k sep)

abbrev pub onward : ℕ → List Pair → List Pair
onward sep = keep (λ k. leb sep k)

abbrev pub without : ℕ → List Pair → List Pair
without sep = keep (λ k. not (k == sep))

abbrev pub is_in : ℕ → List ℕ → Bool
is_in k [] = false
is_in k (x ∷ xs) = if x == k then true else is_in k xs

-- the first key, or the fence behind the pairs
abbrev pub first_key : List Pair → ℕ → ℕ
first_key [] high = high
first_key (x ∷ xs) high = x.key

-- the word of the last pair with a key up to k
abbrev pub route : List Pair → ℕ → ℕ → ℕ
route [] k word = word
route (x ∷ xs) k word = if leb x.key k then route xs k x.word else word

-- A child with the fences that its pair gives it: the pair's key, and the next pair's or else the node's high fence.
pub record Span : Type 0 where
  pub child : ℕ
  pub low : ℕ
  pub high : ℕ

abbrev pub spans : List Pair → ℕ → List Span
spans [] high = []
spans (x ∷ xs) high = record { child = x.word; low = x.key; high = first_key xs high } ∷ spans xs high
