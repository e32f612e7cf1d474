-- Facts on the lists of the definitions.
use Rattle.std.proofs.Common.{◌≡◌, ℕ, zero, suc, ◌≤◌, ◌<◌, Bool, true, false, ◌||◌, List, [], ◌∷◌, ◌⊎◌, refl, sym, ap, ◌∙◌, subst, inl, inr, arith, true≢false}
use Rattle.std.proofs.lemmas.Bool.{cases_Bool, cases_eq}
use Rattle.page_model.specs.Records.{any as page_any}
use Rattle.map_model.specs.Lists.{upd, any, Has}
use Rattle.rfa_model.specs.Reaches.{least}
use Rattle.map_model.proofs.ListLemmas.{upd_same, upd_other}
use mathlib.Core.Path.{fun_ext}
pub use Rattle.core_commit.specs.Past.{Each, Within, pick}

pub each_map : {A : Type 0} (P Q : A → List A → Type 0) (xs : List A) → ((x : A) (ys : List A) → P x ys → Q x ys) → Each P xs → Each Q xs
each_map P Q [] f h = tt
each_map P Q (x ∷ xs) f h = (f x xs h.0, each_map P Q xs f h.1)

-- x stands in the list, with ys behind it
abbrev pub Before : {A : Type 0} → A → List A → List A → Type 0
Before x ys [] = ⊥
Before x ys (z ∷ zs) = ((x ≡ z) × (ys ≡ zs)) ⊎ Before x ys zs

pub each_at : {A : Type 0} (P : A → List A → Type 0) (xs : List A) (x : A) (ys : List A) → Each P xs → Before x ys xs → P x ys
each_at P [] x ys h b = absurd b
each_at P (z ∷ zs) x ys h (inl e) = rw (e.0, e.1) h.0
each_at P (z ∷ zs) x ys h (inr b) = each_at P zs x ys h.1 b

pub has_before : {A : Type 0} (x : A) (xs : List A) → Has x xs → (ys : List A) × Before x ys xs
has_before x [] h = absurd h
has_before x (z ∷ zs) (inl e) = (zs, inl (e, refl))
has_before x (z ∷ zs) (inr h) = let r = has_before x zs h in (r.0, inr r.1)

pub before_has : {A : Type 0} (x : A) (ys xs : List A) → Before x ys xs → Has x xs
before_has x ys [] b = absurd b
before_has x ys (z ∷ zs) (inl e) = inl e.0
before_has x ys (z ∷ zs) (inr b) = inr (before_has x ys zs b)

pub behind_has : {A : Type 0} (x : A) (ys xs : List A) → Before x ys xs → (y : A) → Has y ys → Has y xs
behind_has x ys [] b y h = absurd b
behind_has x ys (z ∷ zs) (inl e) y h = inr (subst (λ l. Has y l) e.1 h)
behind_has x ys (z ∷ zs) (inr b) y h = inr (behind_has x ys zs b y h)

-- the same word of the pages' crate
pub any_is : {A : Type 0} (p : A → Bool) (xs : List A) → page_any p xs ≡ any p xs
any_is p [] = refl
any_is p (x ∷ xs) = ap (λ (b : Bool). p x || b) (any_is p xs)

pub upd_comm : {A : Type 0} (f : ℕ → A) (i k : ℕ) (a b : A) → (i ≡ k → ⊥) → upd (upd f i a) k b ≡ upd (upd f k b) i a
upd_comm f i k a b ne = fun_ext (λ j. elim (cases_eq j i) [
  | inl e ↦ upd_other (upd f i a) k b j (λ q. ne (sym e ∙ q)) ∙ (upd_same f i a j e ∙ sym (upd_same (upd f k b) i a j e))
  | inr n ↦ elim (cases_eq j k) [
    | inl e ↦ upd_same (upd f i a) k b j e ∙ (sym (upd_same f k b j e) ∙ sym (upd_other (upd f k b) i a j n))
    | inr m ↦ upd_other (upd f i a) k b j m ∙ (upd_other f i a j n ∙ (sym (upd_other f k b j m) ∙ sym (upd_other (upd f k b) i a j n)))
  ]
])

pub least_le : (f : ℕ → ℕ) (n i : ℕ) → Within n i → least f n ≤ f i
least_le f zero i h = let a = h.0 in let b = h.1 in absurd (omega arith)
least_le f (suc n) i h =
    let a = h.0 in let b = h.1 in
    elim (cases_eq i (suc n)) [ inl e ↦ rw e (omega arith) | inr ne ↦ let k : i ≤ n = omega arith in let r = least_le f n i (a, k) in omega arith ]

pub le_least : (f : ℕ → ℕ) (n x : ℕ) → 0 < n → ((i : ℕ) → Within n i → x ≤ f i) → x ≤ least f n
le_least f zero x z h = absurd (omega arith)
le_least f (suc zero) x z h = let a = h 1 (omega arith, omega arith) in omega arith
le_least f (suc (suc n)) x z h =
    let a = h (suc (suc n)) (omega arith, omega arith) in
    let b = le_least f (suc n) x (omega arith) (λ i l. let l0 = l.0 in let l1 = l.1 in h i (l0, omega arith)) in omega arith

pub each_map_has : {A : Type 0} (P Q : A → List A → Type 0) (xs : List A) → ((x : A) (ys : List A) → Has x xs → P x ys → Q x ys) → Each P xs → Each Q xs
each_map_has P Q [] f h = tt
each_map_has P Q (x ∷ xs) f h = (f x xs (inl refl) h.0, each_map_has P Q xs (λ y ys i p. f y ys (inr i) p) h.1)

-- ## The newest element with a test, which may look at what stands behind it

abbrev pub Newest : {A : Type 0} → (A → List A → Bool) → A → List A → List A → Type 0
Newest q r b [] = ⊥
Newest q r b (z ∷ zs) = ((r ≡ z) × (b ≡ zs) × (q z zs ≡ true)) ⊎ ((q z zs ≡ false) × Newest q r b zs)

abbrev pub NoneOf : {A : Type 0} → (A → List A → Bool) → List A → Type 0
NoneOf {A} q l = (x : A) (bx : List A) → Before x bx l → q x bx ≡ false

pub newest : {A : Type 0} (q : A → List A → Bool) (l : List A) → NoneOf q l ⊎ ((r : A) × (b : List A) × Newest q r b l)
newest q [] = inl (λ x bx i. absurd i)
newest {A} q (z ∷ zs) = go (newest q zs) (cases_Bool (q z zs))
  where
    none : NoneOf q zs → q z zs ≡ false → NoneOf q (z ∷ zs)
    none n e x bx (inl i) = rw (i.0, i.1) e
    none n e x bx (inr i) = n x bx i

    go : NoneOf q zs ⊎ ((r : A) × (b : List A) × Newest q r b zs) → (q z zs ≡ true) ⊎ (q z zs ≡ false) → NoneOf q (z ∷ zs) ⊎ ((r : A) × (b : List A) × Newest q r b (z ∷ zs))
    go ih (inl e) = inr (z, zs, inl (refl, refl, e))
    go (inl n) (inr e) = inl (none n e)
    go (inr n) (inr e) = inr (n.0, n.1, inr (e, n.2))

pub newest_before : {A : Type 0} (q : A → List A → Bool) (r : A) (b l : List A) → Newest q r b l → Before r b l
newest_before q r b [] n = absurd n
newest_before q r b (z ∷ zs) (inl e) = inl (e.0, e.1)
newest_before q r b (z ∷ zs) (inr n) = inr (newest_before q r b zs n.1)

pub newest_holds : {A : Type 0} (q : A → List A → Bool) (r : A) (b l : List A) → Newest q r b l → q r b ≡ true
newest_holds q r b [] n = absurd n
newest_holds q r b (z ∷ zs) (inl e) = rw (e.0, e.1) e.2
newest_holds q r b (z ∷ zs) (inr n) = newest_holds q r b zs n.1

pub newest_first : {A : Type 0} (q : A → List A → Bool) (r : A) (b l : List A) → Newest q r b l → (x : A) (bx : List A) → Before x bx l → q x bx ≡ true → ((x ≡ r) × (bx ≡ b)) ⊎ Before x bx b
newest_first q r b [] n x bx i k = absurd n
newest_first q r b (z ∷ zs) (inl e) x bx (inl i) k = inl (i.0 ∙ sym e.0, i.1 ∙ sym e.1)
newest_first {A} q r b (z ∷ zs) (inl e) x bx (inr i) k = inr (subst (λ (l : List A). Before x bx l) (sym e.1) i)
newest_first q r b (z ∷ zs) (inr n) x bx (inl i) k = absurd (true≢false (sym k ∙ rw (i.0, i.1) n.0))
newest_first q r b (z ∷ zs) (inr n) x bx (inr i) k = newest_first q r b zs n.1 x bx i k

pub newest_from : {A : Type 0} (q : A → List A → Bool) (r : A) (b l : List A) → Before r b l → q r b ≡ true → ((x : A) (bx : List A) → Before x bx l → Before r b bx → q x bx ≡ false) → Newest q r b l
newest_from q r b [] i k f = absurd i
newest_from q r b (z ∷ zs) (inl e) k f = inl (e.0, e.1, rw (← e.0, ← e.1) k)
newest_from q r b (z ∷ zs) (inr i) k f = inr (f z zs (inl (refl, refl)) i, newest_from q r b zs i k (λ x bx j. f x bx (inr j)))

pub pick_newest : {A B : Type 0} (q : A → List A → Bool) (f : A → List A → B) (d : B) (r : A) (b l : List A) → Newest q r b l → pick q f d l ≡ f r b
pick_newest q f d r b [] n = absurd n
pick_newest q f d r b (z ∷ zs) (inl e) = rw e.2 (rw (e.0, e.1) refl)
pick_newest q f d r b (z ∷ zs) (inr n) = rw n.0 (pick_newest q f d r b zs n.1)

pub pick_none : {A B : Type 0} (q : A → List A → Bool) (f : A → List A → B) (d : B) (l : List A) → NoneOf q l → pick q f d l ≡ d
pick_none q f d [] n = refl
pick_none q f d (z ∷ zs) n = rw (n z zs (inl (refl, refl))) (pick_none q f d zs (λ x bx i. n x bx (inr i)))
