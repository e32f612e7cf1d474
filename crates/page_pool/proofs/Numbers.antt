-- Lists in which each number stands once: what is taken out and put in, and how many there are.
use Rattle.std.proofs.Common.{◌≡◌, ◌≢◌, ◌<◌, ◌≤◌, ◌==◌, ◌&&◌, ℕ, zero, suc, Bool, true, false, List, [], ◌∷◌, ◌++◌, ◌⊎◌, length, inl, inr, refl, sym, ap, subst, ◌∙◌, arith}
use Rattle.std.specs.Prelude.{if◌then◌else◌}
use Rattle.std.proofs.lemmas.Bool.{eq-eqb, eqb-true, eqb-false}
use Rattle.map_model.specs.Lists.{Has}
use Rattle.lean_proto.specs.core_state.Lists.{all_below}
use Rattle.page_pool.specs.Pools.{AreOnce, others}
use Rattle.page_pool.specs.Queues.{EveryPop}

-- numbers below a bound of which the same passes
pub all_same : (n : ℕ) (P Q : ℕ → Bool) → ((q : ℕ) → q < n → P q ≡ Q q) → all_below n P ≡ all_below n Q
all_same zero P Q h = refl
all_same (suc n) P Q h =
    let a = h n (omega arith) in
    let b = all_same n P Q (λ q l. h q (omega arith)) in (λ i. a i && b i)

-- ## One more at the end

pub has_end : {A : Type 0} (x y : A) (q : List A) → Has x (q ++ y ∷ []) → (Has x q) ⊎ (x ≡ y)
has_end x y [] (inl e) = inr e
has_end x y [] (inr h) = absurd h
has_end x y (z ∷ zs) (inl e) = inl (inl e)
has_end x y (z ∷ zs) (inr h) = elim (has_end x y zs h) [ inl i ↦ inl (inr i) | inr e ↦ inr e ]

pub end_keeps : {A : Type 0} (x y : A) (q : List A) → Has x q → Has x (q ++ y ∷ [])
end_keeps x y [] h = absurd h
end_keeps x y (z ∷ zs) (inl e) = inl e
end_keeps x y (z ∷ zs) (inr h) = inr (end_keeps x y zs h)

pub end_has : {A : Type 0} (x y : A) (q : List A) → x ≡ y → Has x (q ++ y ∷ [])
end_has x y [] e = inl e
end_has x y (z ∷ zs) e = inr (end_has x y zs e)

pub once_end : (l : List ℕ) (f : ℕ) → AreOnce l → (Has f l → ⊥) → AreOnce (l ++ f ∷ [])
once_end [] f a h = (λ n. n, tt)
once_end (y ∷ ys) f a h = (
  λ i. elim (has_end y f ys i) [ inl j ↦ a.0 j | inr e ↦ h (inl (sym e)) ],
  once_end ys f a.1 (λ i. h (inr i)),
)

-- ## One less
pub others_to : (f : ℕ) (l : List ℕ) (x : ℕ) → Has x (others f l) → (Has x l) × (x ≢ f)
others_to f [] x h = absurd h
others_to f (y ∷ ys) x h = go (y == f) refl (λ i. others_to f ys x i) h
  where
    go : (b : Bool) → (y == f) ≡ b → (Has x (others f ys) → (Has x ys) × (x ≢ f)) → Has x (if b then others f ys else y ∷ others f ys) → (Has x (y ∷ ys)) × (x ≢ f)
    go true e ih h = let k = ih h in (inr k.0, k.1)
    go false e ih (inl is) = (inl is, λ z. eqb-false y f e (sym is ∙ z))
    go false e ih (inr h) = let k = ih h in (inr k.0, k.1)

pub others_from : (f : ℕ) (l : List ℕ) (x : ℕ) → Has x l → x ≢ f → Has x (others f l)
others_from f [] x h ne = absurd h
others_from f (y ∷ ys) x h ne = go (y == f) refl (λ i. others_from f ys x i ne) h
  where
    go : (b : Bool) → (y == f) ≡ b → (Has x ys → Has x (others f ys)) → Has x (y ∷ ys) → Has x (if b then others f ys else y ∷ others f ys)
    go true e ih (inl is) = absurd (ne (is ∙ eqb-true y f e))
    go true e ih (inr h) = ih h
    go false e ih (inl is) = inl is
    go false e ih (inr h) = inr (ih h)

pub once_others : (f : ℕ) (l : List ℕ) → AreOnce l → AreOnce (others f l)
once_others f [] a = tt
once_others f (y ∷ ys) a = go (y == f) (once_others f ys a.1)
  where
    go : (b : Bool) → AreOnce (others f ys) → AreOnce (if b then others f ys else y ∷ others f ys)
    go true ih = ih
    go false ih = (λ h. a.0 (others_to f ys y h).0, ih)

-- one that does not stand there takes nothing out
others_none : (f : ℕ) (l : List ℕ) → (Has f l → ⊥) → others f l ≡ l
others_none f [] h = refl
others_none f (y ∷ ys) h = go (y == f) refl (others_none f ys (λ i. h (inr i)))
  where
    go : (b : Bool) → (y == f) ≡ b → others f ys ≡ ys → (if b then others f ys else y ∷ others f ys) ≡ y ∷ ys
    go true e ih = absurd (h (inl (sym (eqb-true y f e))))
    go false e ih = ap (λ l. y ∷ l) ih

pub every_pop : EveryPop
every_pop [] f a = ap (λ b. if b then [] else f ∷ []) (eq-eqb f f refl)
every_pop (y ∷ ys) f a = go (y == f) refl (every_pop ys f a.1)
  where
    go : (b : Bool) → (y == f) ≡ b → others f (ys ++ f ∷ []) ≡ ys → (if b then others f (ys ++ f ∷ []) else y ∷ others f (ys ++ f ∷ [])) ≡ y ∷ ys
    go true e ih = absurd (a.0 (end_has y f ys (eqb-true y f e)))
    go false e ih = ap (λ l. y ∷ l) ih

-- one number at most is taken out
length_others : (f : ℕ) (l : List ℕ) → AreOnce l → length l ≤ suc (length (others f l))
length_others f [] a = omega arith
length_others f (y ∷ ys) a = go (y == f) refl (length_others f ys a.1)
  where
    go : (b : Bool) → (y == f) ≡ b → length ys ≤ suc (length (others f ys)) → suc (length ys) ≤ suc (length (if b then others f ys else y ∷ others f ys))
    go true e ih = let same = ap length (others_none f ys (λ h. a.0 (subst (λ j. Has j ys) (sym (eqb-true y f e)) h))) in omega arith
    go false e ih = omega arith

-- ## Two lists

pub has_either : {A : Type 0} (x : A) (a b : List A) → Has x (a ++ b) → (Has x a) ⊎ (Has x b)
has_either x [] b h = inr h
has_either x (y ∷ ys) b (inl e) = inl (inl e)
has_either x (y ∷ ys) b (inr h) = elim (has_either x ys b h) [ inl i ↦ inl (inr i) | inr i ↦ inr i ]

pub either_left : {A : Type 0} (x : A) (a b : List A) → Has x a → Has x (a ++ b)
either_left x [] b h = absurd h
either_left x (y ∷ ys) b (inl e) = inl e
either_left x (y ∷ ys) b (inr h) = inr (either_left x ys b h)

pub either_right : {A : Type 0} (x : A) (a b : List A) → Has x b → Has x (a ++ b)
either_right x [] b h = h
either_right x (y ∷ ys) b h = inr (either_right x ys b h)

pub once_append : (a b : List ℕ) → AreOnce a → AreOnce b → ((x : ℕ) → Has x a → Has x b → ⊥) → AreOnce (a ++ b)
once_append [] b m n d = n
once_append (y ∷ ys) b m n d = (
  λ h. elim (has_either y ys b h) [ inl i ↦ m.0 i | inr i ↦ d y (inl refl) i ],
  once_append ys b m.1 n (λ x i j. d x (inr i) j),
)

-- ## How many there are

pub few : (n : ℕ) (l : List ℕ) → AreOnce l → ((x : ℕ) → Has x l → x < n) → length l ≤ n
few zero [] a b = omega arith
few zero (x ∷ xs) a b = absurd (let lt = b x (inl refl) in let no : ⊥ = omega arith in no)
few (suc n) l a b =
    let less = length_others n l a in
    let more = few n (others n l) (once_others n l a) (λ x h. let o = others_to n l x h in let lt = b x o.0 in let ne = o.1 in omega arith) in
    omega arith

-- taking out leaves no more, and one less where it stands there
others_few : (f : ℕ) (l : List ℕ) → length (others f l) ≤ length l
others_few f [] = omega arith
others_few f (y ∷ ys) = go (y == f) (others_few f ys)
  where
    go : (b : Bool) → length (others f ys) ≤ length ys → length (if b then others f ys else y ∷ others f ys) ≤ suc (length ys)
    go true ih = omega arith
    go false ih = omega arith

others_less : (f : ℕ) (l : List ℕ) → Has f l → suc (length (others f l)) ≤ length l
others_less f [] h = absurd h
others_less f (y ∷ ys) h = go (y == f) refl (others_few f ys) (others_less f ys) h
  where
    go : (b : Bool) → (y == f) ≡ b → length (others f ys) ≤ length ys → (Has f ys → suc (length (others f ys)) ≤ length ys) → Has f (y ∷ ys) → suc (length (if b then others f ys else y ∷ others f ys)) ≤ suc (length ys)
    go true e less ih h = omega arith
    go false e less ih (inl is) = absurd (eqb-false y f e (sym is))
    go false e less ih (inr h) = let more = ih h in omega arith

-- where each number below a bound stands there
pub enough : (n : ℕ) (l : List ℕ) → ((x : ℕ) → x < n → Has x l) → n ≤ length l
enough zero l h = omega arith
enough (suc n) l h =
    let one = others_less n l (h n (omega arith)) in
    let more = enough n (others n l) (λ x lt. others_from n l x (h x (omega arith)) (λ e. (let no : ⊥ = omega arith in no))) in
    omega arith
