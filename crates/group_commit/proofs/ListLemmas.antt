-- Those of a list that pass, the least of numbers, and one queue of many.
use Rattle.std.proofs.Common.{◌≡◌, ◌<◌, ◌≤◌, ◌-◌, ℕ, zero, suc, min, Bool, true, false, cond, List, [], ◌∷◌, ◌++◌, length, set, refl, ap, ◌∙◌, inl, inr, arith}
use Rattle.std.proofs.lemmas.Bool.{cond-true, cond-false}
use Rattle.std.proofs.lemmas.List.{get_or-set_same, get_or-set_other}
use Rattle.map_model.specs.Lists.{Has, keep}
use Rattle.rfa_model.specs.Reaches.{least}
use Rattle.core_crash.proofs.core_commit.Lists.{Within}
use Rattle.group_commit.specs.declared.queue.End.{End}
use Rattle.group_commit.specs.Queues.{queue_of}

pub keep_append : {A : Type 0} (p : A → Bool) (xs ys : List A) → keep p (xs ++ ys) ≡ keep p xs ++ keep p ys
keep_append p [] ys = refl
keep_append {A} p (x ∷ xs) ys = go (keep_append p xs ys) (p x)
  where
    go : keep p (xs ++ ys) ≡ keep p xs ++ keep p ys → (b : Bool) → cond b (x ∷ keep p (xs ++ ys)) (keep p (xs ++ ys)) ≡ cond b (x ∷ keep p xs) (keep p xs) ++ keep p ys
    go ih true = ap (λ (l : List A). x ∷ l) ih
    go ih false = ih

pub keep_all : {A : Type 0} (p : A → Bool) (xs : List A) → ((x : A) → Has x xs → p x ≡ true) → keep p xs ≡ xs
keep_all p [] h = refl
keep_all {A} p (x ∷ xs) h = cond-true (p x) (x ∷ keep p xs) (keep p xs) (h x (inl refl)) ∙ ap (λ (l : List A). x ∷ l) (keep_all p xs (λ y i. h y (inr i)))

pub keep_none : {A : Type 0} (p : A → Bool) (xs : List A) → ((x : A) → Has x xs → p x ≡ false) → keep p xs ≡ []
keep_none p [] h = refl
keep_none p (x ∷ xs) h = cond-false (p x) (x ∷ keep p xs) (keep p xs) (h x (inl refl)) ∙ keep_none p xs (λ y i. h y (inr i))

-- the least is that of the same numbers
pub least_same : (f g : ℕ → ℕ) (n : ℕ) → 0 < n → ((i : ℕ) → Within n i → f i ≡ g i) → least f n ≡ least g n
least_same f g zero z h = absurd (omega arith)
least_same f g (suc zero) z h = let a = h 1 (omega arith, omega arith) in ap (λ (x : ℕ). min x x) a
least_same f g (suc (suc n)) z h =
    let a = h (suc (suc n)) (omega arith, omega arith) in
    let b = least_same f g (suc n) (omega arith) (λ i l. let l0 = l.0 in let l1 = l.1 in h i (l0, omega arith)) in
    cc

-- ## One of many queues

pub queue_set_same : (qs : List (List End)) (v : ℕ) (q : List End) → 0 < v → v ≤ length qs → queue_of (set qs (v - 1) q) v ≡ q
queue_set_same qs v q z l = get_or-set_same qs (v - 1) q [] (omega arith)

pub queue_set_other : (qs : List (List End)) (v w : ℕ) (q : List End) → 0 < v → 0 < w → (w ≡ v → ⊥) → queue_of (set qs (v - 1) q) w ≡ queue_of qs w
queue_set_other qs v w q z y n = get_or-set_other qs (v - 1) (w - 1) q [] (λ e. n (omega arith))
