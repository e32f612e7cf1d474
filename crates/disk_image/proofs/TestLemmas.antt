-- Tests, and options that hang on them.
use Rattle.std.proofs.Common.{◌≡◌, ◌<◌, ℕ, zero, suc, Bool, true, false, cond, List, [], ◌∷◌, Option, Some, None, refl, ap, arith, true≢false, length, get_or, leb, sym}
use Rattle.std.proofs.lemmas.Bool.{and_parts, and_from, le-leb, leb-true}
use Rattle.map_model.specs.Lists.{all}
use Rattle.page_model.specs.Pairs.{Pair, Rising}
use Rattle.page_model.specs.Check.{is_nil, is_rising}

-- ## Options

pub some_is : {A : Type 0} (x y : A) → Some x ≡ Some y → x ≡ y
some_is {A = A} x y e = ap or_x e
  where
    or_x : Option A → A
    or_x (Some z) = z
    or_x None = x

pub none_some : {A : Type 0} (y : A) → ◌≡◌ {A = Option A} None (Some y) → ⊥
none_some y e = cc

-- what an option says that is none where a test fails
pub if_option : {A : Type 0} (b : Bool) (o : Option A) (y : A) → cond b o None ≡ Some y → (b ≡ true) × (o ≡ Some y)
if_option true o y e = (refl, e)
if_option false o y e = absurd (none_some y e)

pub if_some : {A : Type 0} (b : Bool) (x y : A) → cond b (Some x) None ≡ Some y → (b ≡ true) × (x ≡ y)
if_some b x y e = let q = if_option b (Some x) y e in (q.0, some_is x y q.1)

-- ## Lists

-- by places
pub all_at : (p : ℕ → Bool) (xs : List ℕ) → all p xs ≡ true → (k : ℕ) → k < length xs → p (get_or xs k 0) ≡ true
all_at p [] h k l = absurd (omega arith)
all_at p (x ∷ xs) h zero l = (and_parts (p x) (all p xs) h).0
all_at p (x ∷ xs) h (suc k) l = all_at p xs (and_parts (p x) (all p xs) h).1 k (omega arith)

pub all_from_at : (p : ℕ → Bool) (xs : List ℕ) → ((k : ℕ) → k < length xs → p (get_or xs k 0) ≡ true) → all p xs ≡ true
all_from_at p [] h = refl
all_from_at p (x ∷ xs) h = and_from (p x) (all p xs) (h 0 (omega arith)) (all_from_at p xs (λ k l. h (suc k) (omega arith)))

pub nil_to : {A : Type 0} (xs : List A) → is_nil xs ≡ true → xs ≡ []
nil_to [] h = refl
nil_to (x ∷ xs) h = absurd (true≢false (sym h))

-- ## Pairs

pub rising_to : (low : ℕ) (ps : List Pair) (high : ℕ) → is_rising low ps high ≡ true → Rising low ps high
rising_to low [] high h = leb-true low high h
rising_to low (p ∷ ps) high h = let b = and_parts (leb low p.key) (is_rising (suc p.key) ps high) h in (leb-true low p.key b.0, rising_to (suc p.key) ps high b.1)

pub rising_from : (low : ℕ) (ps : List Pair) (high : ℕ) → Rising low ps high → is_rising low ps high ≡ true
rising_from low [] high h = le-leb low high h
rising_from low (p ∷ ps) high h = and_from (leb low p.key) (is_rising (suc p.key) ps high) (le-leb low p.key h.0) (rising_from (suc p.key) ps high h.1)
