-- The first entries that a walk meets.
use Rattle.std.proofs.Common.{◌≡◌, ◌⊎◌, inl, inr, ◌≤◌, ◌++◌, ◌==◌, leb, ltb, ℕ, suc, Bool, true, false, cond, List, [], ◌∷◌, length, refl, sym, arith, true≢false, eq-eqb}
use Rattle.std.proofs.lemmas.Bool.{eqb-true, or_cases, or_left, or_right}
use Rattle.std.specs.List.{list_any}
use Rattle.map_model.specs.Lists.{Has}
use Rattle.map_model.proofs.ListLemmas.{has_left}
use Rattle.page_model.specs.Nodes.{Format}
use Rattle.page_model.specs.Pairs.{Pair, Rising}
use Rattle.row_changes.specs.session_state.core_index.Walks.{met_keys}

-- ## A key in a list

pub listed_has : (k : ℕ) (xs : List ℕ) → list_any (λ y. y == k) xs ≡ true → Has k xs
listed_has k [] h = absurd (true≢false (sym h))
listed_has k (x ∷ xs) h = elim (or_cases (x == k) (list_any (λ y. y == k) xs) h) [ inl e ↦ inl (sym (eqb-true x k e)) | inr e ↦ inr (listed_has k xs e) ]

pub has_listed : (k : ℕ) (xs : List ℕ) → Has k xs → list_any (λ y. y == k) xs ≡ true
has_listed k [] h = absurd h
has_listed k (x ∷ xs) (inl e) = or_left (x == k) (list_any (λ y. y == k) xs) (eq-eqb x k (sym e))
has_listed k (x ∷ xs) (inr h) = or_right (x == k) (list_any (λ y. y == k) xs) (has_listed k xs h)

-- ## Keys in their order

abbrev pub Rises : ℕ → List ℕ → Type 0
Rises low [] = Unit {0}
Rises low (k ∷ ks) = (low ≤ k) × Rises (suc k) ks

rises_down : (a b : ℕ) (ks : List ℕ) → a ≤ b → Rises b ks → Rises a ks
rises_down a b [] le r = tt
rises_down a b (k ∷ ks) le r = ((let l = r.0 in omega arith), r.1)

-- the entries that are met stand in the order of their keys
pub met_rises : (f : Format) (k low : ℕ) (ps : List Pair) (high : ℕ) → Rising low ps high → Rises low (met_keys f k ps)
met_rises f k low [] high r = tt
met_rises f k low (x ∷ xs) high r = go (leb k x.key) (ltb x.word f.dead) (met_rises f k (suc x.key) xs high r.1)
  where
    go : (a d : Bool) → Rises (suc x.key) (met_keys f k xs) → Rises low (cond a (x.key ∷ cond d [] (met_keys f k xs)) (met_keys f k xs))
    go true true ih = (r.0, tt)
    go true false ih = (r.0, ih)
    go false d ih = rises_down low (suc x.key) (met_keys f k xs) (let l = r.0 in omega arith) ih

-- they are no more than the leaf has
pub met_few : (f : Format) (k : ℕ) (ps : List Pair) → length (met_keys f k ps) ≤ length ps
met_few f k [] = omega arith
met_few f k (x ∷ xs) = go (leb k x.key) (ltb x.word f.dead) (met_few f k xs)
  where
    go : (a d : Bool) → length (met_keys f k xs) ≤ length xs → length (cond a (x.key ∷ cond d [] (met_keys f k xs)) (met_keys f k xs)) ≤ suc (length xs)
    go true true ih = omega arith
    go true false ih = omega arith
    go false d ih = omega arith

pub rises_has : (low : ℕ) (ks : List ℕ) (k : ℕ) → Rises low ks → Has k ks → low ≤ k
rises_has low [] k r h = absurd h
rises_has low (x ∷ xs) k r (inl e) = let l = r.0 in omega arith
rises_has low (x ∷ xs) k r (inr h) = let l = r.0 in let m = rises_has (suc x) xs k r.1 h in omega arith

-- ## The first of them

head_is : (a b : ℕ) (xs ys : List ℕ) → a ∷ xs ≡ b ∷ ys → a ≡ b
head_is a b xs ys e = cc

tail_is : (a b : ℕ) (xs ys : List ℕ) → a ∷ xs ≡ b ∷ ys → xs ≡ ys
tail_is a b xs ys e = cc

-- Some are taken, the first ones; each before this one is taken, and it is not: so they are all that stand before it.
pub first_same : (low : ℕ) (taken rest before behind : List ℕ) (at : ℕ) → Rises low (before ++ at ∷ behind) → taken ++ rest ≡ before ++ at ∷ behind → ((k : ℕ) → Has k before → Has k taken) → (Has at taken → ⊥) → taken ≡ before
first_same low [] rest [] behind at r e all no_it = refl
first_same low [] rest (b ∷ bs) behind at r e all no_it = absurd (all b (inl refl))
first_same low (t ∷ ts) rest [] behind at r e all no_it = absurd (no_it (inl (sym (head_is t at (ts ++ rest) behind e))))
first_same low (t ∷ ts) rest (b ∷ bs) behind at r e all no_it =
    let q = first_same (suc b) ts rest bs behind at r.1 (tail_is t b (ts ++ rest) (bs ++ at ∷ behind) e) (λ k m. inner k m (all k (inr m))) (λ m. no_it (inr m)) in
    λ i. head i ∷ q i
  where
    head : t ≡ b
    head = head_is t b (ts ++ rest) (bs ++ at ∷ behind) e

    inner : (k : ℕ) → Has k bs → (k ≡ t) ⊎ Has k ts → Has k ts
    inner k m (inl q) = let l = rises_has (suc b) (bs ++ at ∷ behind) k r.1 (has_left k bs (at ∷ behind) m) in let h = head in absurd (omega arith)
    inner k m (inr q) = q

-- where each that is met is taken there are no others
pub rest_none : (low : ℕ) (taken rest : List ℕ) → Rises low (taken ++ rest) → ((k : ℕ) → Has k (taken ++ rest) → Has k taken) → rest ≡ []
rest_none low [] [] r all = refl
rest_none low [] (x ∷ xs) r all = absurd (all x (inl refl))
rest_none low (t ∷ ts) rest r all = rest_none (suc t) ts rest r.1 (λ k h. inner k h (all k (inr h)))
  where
    inner : (k : ℕ) → Has k (ts ++ rest) → (k ≡ t) ⊎ Has k ts → Has k ts
    inner k h (inl e) = let l = rises_has (suc t) (ts ++ rest) k r.1 h in absurd (omega arith)
    inner k h (inr m) = m
