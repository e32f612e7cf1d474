-- Pairs whose keys rise, of which some are others.
use Rattle.std.proofs.Common.{◌≡◌, inl, inr, ◌≤◌, ◌<◌, ℕ, zero, suc, List, [], ◌∷◌, length, refl, sym, ap, ◌∙◌, arith}
use Rattle.page_model.specs.Pairs.{Pair, Has, Rising, first_key, Span, spans}
use Rattle.page_model.specs.Needs.{key_at}
use Rattle.page_model.specs.Page.{word_at}
use Rattle.btree_node.specs.Words.{IsOrdered}

-- ## One list

-- no key is below where the list begins
pub rising_from : (a : ℕ) (xs : List Pair) (b : ℕ) (x : Pair) → Rising a xs b → Has x xs → a ≤ x.key
rising_from a [] b x r m = absurd m
rising_from a (y ∷ ys) b x r (inl e) = let q = ap (λ (z : Pair). z.key) e in let l = r.0 in omega arith
rising_from a (y ∷ ys) b x r (inr m) = let q = rising_from (suc y.key) ys b x r.1 m in let l = r.0 in omega arith

-- the place of a pair
pub place_of : (xs : List Pair) (x : Pair) → Has x xs → (i : ℕ) × (i < length xs) × (key_at i xs ≡ x.key) × (word_at i xs ≡ x.word)
place_of [] x m = absurd m
place_of (y ∷ ys) x (inl e) = (zero, omega arith, ap (λ (z : Pair). z.key) (sym e), ap (λ (z : Pair). z.word) (sym e))
place_of (y ∷ ys) x (inr m) = let q = place_of ys x m in let l = q.1 in (suc q.0, omega arith, q.2, q.3)

-- what stands at a place is a pair
pub pair_at : (xs : List Pair) (i : ℕ) → i < length xs → Has (record { key = key_at i xs; word = word_at i xs }) xs
pair_at [] i l = absurd (let no : ⊥ = omega arith in no)
pair_at (x ∷ xs) zero l = inl refl
pair_at (x ∷ xs) (suc i) l = inr (pair_at xs i (omega arith))

-- ## Pairs and spans

-- a span is that of a pair
pub pair_of_span : (xs : List Pair) (h : ℕ) (s : Span) → Has s (spans xs h) → Has (record { key = s.low; word = s.child }) xs
pair_of_span [] h s m = absurd m
pair_of_span (x ∷ xs) h s (inl e) = inl (ap (λ (z : Span). record { key = z.low; word = z.child }) e)
pair_of_span (x ∷ xs) h s (inr m) = inr (pair_of_span xs h s m)

-- a pair names a span
pub span_of_pair : (xs : List Pair) (h : ℕ) (x : Pair) → Has x xs → (s : Span) × Has s (spans xs h) × (s.child ≡ x.word) × (s.low ≡ x.key)
span_of_pair [] h x m = absurd m
span_of_pair (y ∷ ys) h x (inl e) = (record { child = y.word; low = y.key; high = first_key ys h }, inl refl, ap (λ (z : Pair). z.word) (sym e), ap (λ (z : Pair). z.key) (sym e))
span_of_pair (y ∷ ys) h x (inr m) = let q = span_of_pair ys h x m in (q.0, inr q.1, q.2, q.3)

-- ## Two lists

-- each of the one is in the other
abbrev pub AllIn : List Pair → List Pair → Type 0
AllIn xs ys = (x : Pair) → Has x xs → Has x ys

-- keys above the first pair's are those of pairs behind it
behind : (y : Pair) (a : ℕ) (xs ys : List Pair) (b : ℕ) → y.key < a → Rising a xs b → AllIn xs (y ∷ ys) → AllIn xs ys
behind y a xs ys b l r h x m = at (h x m)
  where
    at : Has x (y ∷ ys) → Has x ys
    at (inl e) = let q = ap (λ (z : Pair). z.key) e in let n = rising_from a xs b x r m in absurd (let no : ⊥ = omega arith in no)
    at (inr k) = k

-- a list begins with its first key
from_first : (x : Pair) (xs : List Pair) (b : ℕ) → Rising (suc x.key) xs b → Rising x.key (x ∷ xs) b
from_first x xs b r = (omega arith, r)

-- so they are no more
no_more : (a c : ℕ) (xs ys : List Pair) (b d : ℕ) → Rising a xs b → Rising c ys d → AllIn xs ys → length xs ≤ length ys
no_more a c [] ys b d r s h = omega arith
no_more a c (x ∷ xs) [] b d r s h = absurd (h x (inl refl))
no_more a c (x ∷ xs) (y ∷ ys) b d r s h = elim (h x (inl refl)) [
  | inl e ↦
      (let q = ap (λ (z : Pair). z.key) e in
      let n = no_more (suc x.key) (suc y.key) xs ys b d r.1 s.1 (behind y (suc x.key) xs ys b (omega arith) r.1 (λ z m. h z (inr m))) in
      omega arith)
  | inr m ↦
      (let q = rising_from (suc y.key) ys d x s.1 m in
      let n = no_more x.key (suc y.key) (x ∷ xs) ys b d (from_first x xs b r.1) s.1 (behind y x.key (x ∷ xs) ys b (omega arith) (from_first x xs b r.1) h) in
      omega arith)
]

-- and where they are as many, they are the same
same_pairs : (a c : ℕ) (xs ys : List Pair) (b d : ℕ) → Rising a xs b → Rising c ys d → AllIn xs ys → length xs ≡ length ys → xs ≡ ys
same_pairs a c [] [] b d r s h e = refl
same_pairs a c [] (y ∷ ys) b d r s h e = absurd (let no : ⊥ = omega arith in no)
same_pairs a c (x ∷ xs) [] b d r s h e = absurd (h x (inl refl))
same_pairs a c (x ∷ xs) (y ∷ ys) b d r s h e = elim (h x (inl refl)) [
  | inl k ↦
      (let q = ap (λ (z : Pair). z.key) k in
      let n = same_pairs (suc x.key) (suc y.key) xs ys b d r.1 s.1 (behind y (suc x.key) xs ys b (omega arith) r.1 (λ z m. h z (inr m))) (omega arith) in
      ap (λ (z : Pair). z ∷ xs) k ∙ ap (λ (z : List Pair). y ∷ z) n)
  | inr m ↦
      (let q = rising_from (suc y.key) ys d x s.1 m in
      let n = no_more x.key (suc y.key) (x ∷ xs) ys b d (from_first x xs b r.1) s.1 (behind y x.key (x ∷ xs) ys b (omega arith) (from_first x xs b r.1) h) in
      absurd (let no : ⊥ = omega arith in no))
]

-- the same of pairs as a page has them
pub same_ordered : (a c : ℕ) (xs ys : List Pair) (b d : ℕ) → IsOrdered a xs b → Rising c ys d → AllIn xs ys → length xs ≡ length ys → xs ≡ ys
same_ordered a c [] [] b d r s h e = refl
same_ordered a c [] (y ∷ ys) b d r s h e = absurd (let no : ⊥ = omega arith in no)
same_ordered a c (x ∷ xs) ys b d r s h e = same_pairs a c (x ∷ xs) ys b d r s h e
