-- What the changes of a table mean.
use Rattle.std.proofs.Common.{◌≡◌, ◌==◌, ℕ, Bool, true, false, cond, List, [], ◌∷◌, ◌++◌, map, length, drop, ◌≤◌, refl, sym, ◌∙◌, ap, eqb-true}
use Rattle.std.proofs.lemmas.List.{append-nil, drop_all}
use Rattle.plain_core.specs.declared.table.Placed.{Placed}
use Rattle.plain_core.specs.Tables.{found}

-- each change with what its value means
abbrev pub meant_one : {A B : Type 0} → (A → B) → Placed A → Placed B
meant_one f x = record { place = x.place; value = f x.value }

abbrev pub meant : {A B : Type 0} → (A → B) → List (Placed A) → List (Placed B)
meant f xs = map (meant_one f) xs

-- the changes so far, with what the rest will be, are all
abbrev pub HasMeant : {A B C : Type 0} → (A → C) → (B → C) → List (Placed A) → List (Placed B) → List (Placed B) → Type 0
HasMeant f g copies rest whole = meant f copies ++ meant g rest ≡ meant g whole

choice : {A B : Type 0} (f : A → B) (b : Bool) (x y : A) → f (cond b x y) ≡ cond b (f x) (f y)
choice f true x y = refl
choice f false x y = refl

-- what stands at a place means what the changes mean there
pub found_meant : {A B : Type 0} (f : A → B) (xs : List (Placed A)) (d : A) (i : ℕ) → f (found xs d i) ≡ found (meant f xs) (f d) i
found_meant f [] d i = refl
found_meant f (x ∷ xs) d i = choice f (i == x.place) x.value (found xs d i) ∙ ap (λ r. cond (i == x.place) (f x.value) r) (found_meant f xs d i)

-- two tables that mean the same
pub same_found : {A B C : Type 0} (f : A → C) (g : B → C) (xs : List (Placed A)) (ys : List (Placed B)) (d : A) (e : B) (i : ℕ) →
    meant f xs ≡ meant g ys → f d ≡ g e → f (found xs d i) ≡ g (found ys e i)
same_found f g xs ys d e i h k = found_meant f xs d i ∙ ap (λ zs. found zs (f d) i) h ∙ ap (λ z. found (meant g ys) z i) k ∙ back
  where
    back : found (meant g ys) (g e) i ≡ g (found ys e i)
    back = sym (found_meant g ys e i)

-- the changes are all where none is left
pub all_meant : {A B C : Type 0} (f : A → C) (g : B → C) (xs : List (Placed A)) (ys : List (Placed B)) (n : ℕ) → length ys ≤ n → HasMeant f g xs (drop n ys) ys → meant f xs ≡ meant g ys
all_meant f g xs ys n h k = sym (append-nil (meant f xs)) ∙ ap (λ zs. meant f xs ++ meant g zs) (sym (drop_all n ys h)) ∙ k

-- the function at the places of the list
abbrev pub there : {A C : Type 0} → (ℕ → C) → List (Placed A) → List (Placed C)
there f xs = map (λ x. record { place = x.place; value = f x.place }) xs

there_if : {A C : Type 0} (f : ℕ → C) (x : Placed A) (xs : List (Placed A)) (zs : List (Placed C)) (d : A) (e : C) (i : ℕ) (b : Bool) → (i == x.place) ≡ b →
    ((found xs d i ≡ d → found zs e i ≡ f i) → found (there f xs ++ zs) e i ≡ f i) →
    (cond (i == x.place) x.value (found xs d i) ≡ d → found zs e i ≡ f i) → cond (i == x.place) (f x.place) (found (there f xs ++ zs) e i) ≡ f i
there_if f x xs zs d e i true h k l = ap (λ b. cond b (f x.place) (found (there f xs ++ zs) e i)) h ∙ ap f (sym (eqb-true i x.place h))
there_if f x xs zs d e i false h k l = ap (λ b. cond b (f x.place) (found (there f xs ++ zs) e i)) h ∙ k (λ m. l (ap (λ b. cond b x.value (found xs d i)) h ∙ m))

-- a table that has the function at these places is it, if it is where none of them is
found_there : {A C : Type 0} (f : ℕ → C) (xs : List (Placed A)) (zs : List (Placed C)) (d : A) (e : C) (i : ℕ) →
    (found xs d i ≡ d → found zs e i ≡ f i) → found (there f xs ++ zs) e i ≡ f i
found_there f [] zs d e i h = h refl
found_there f (x ∷ xs) zs d e i h = there_if f x xs zs d e i (i == x.place) refl (found_there f xs zs d e i) h

-- two tables at once
pub found_both : {A B C : Type 0} (F : A → B → C) (xs : List (Placed A)) (ys : List (Placed B)) (d : A) (e : B) (i : ℕ) →
    found (there (λ j. F (found xs d j) (found ys e j)) xs ++ there (λ j. F (found xs d j) (found ys e j)) ys) (F d e) i ≡ F (found xs d i) (found ys e i)
found_both F xs ys d e i =
    let f = λ (j : ℕ). F (found xs d j) (found ys e j) in
    found_there f xs (there f ys) d (F d e) i (λ h. ap (λ zs. found zs (F d e) i) (sym (append-nil (there f ys))) ∙ found_there f ys [] e (F d e) i (λ k. sym (ap (λ a. F a (found ys e i)) h ∙ ap (F d) k)))
