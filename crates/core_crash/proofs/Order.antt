-- A fold over a list in order is the fold over it as it stands, where the elements that change places commute.
use Rattle.std.proofs.Common.{◌≡◌, Bool, true, false, cond, List, [], ◌∷◌, refl, sym, ap, ◌∙◌, inl, inr}
use Rattle.map_model.specs.Lists.{Has}
use Rattle.map_model.specs.Lists.{insert_by, in_order}
use Rattle.core_paging.proofs.core_commit.Lists.{Each}
use Rattle.map_model.proofs.ListLemmas.{order_has}

-- the last of the list first
abbrev pub fold_up : {A S : Type 0} → (S → A → S) → S → List A → S
fold_up step s [] = s
fold_up step s (x ∷ xs) = step (fold_up step s xs) x

-- the first of the list first
abbrev pub fold_down : {A S : Type 0} → (S → A → S) → S → List A → S
fold_down step s [] = s
fold_down step s (x ∷ xs) = fold_down step (step s x) xs

abbrev pub Swaps : {A S : Type 0} → (S → A → S) → A → A → Type 0
Swaps {A} {S} step x y = (s : S) → step (step s x) y ≡ step (step s y) x

-- where a newer one is earlier than an older one, they commute
abbrev pub Apart : {A S : Type 0} → (A → A → Bool) → (S → A → S) → List A → Type 0
Apart {A} lt step xs = Each (λ x ys. (y : A) → Has y ys → lt x y ≡ true → Swaps step x y) xs

pub fold_up_insert : {A S : Type 0} (lt : A → A → Bool) (step : S → A → S) (x : A) (ys : List A) → ((y : A) → Has y ys → lt x y ≡ true → Swaps step x y) → (s : S) → fold_up step s (insert_by lt x ys) ≡ step (fold_up step s ys) x
fold_up_insert lt step x [] h s = refl
fold_up_insert {A} {S} lt step x (y ∷ ys) h s = go (fold_up_insert lt step x ys (λ z k. h z (inr k)) s) (lt x y) refl
  where
    go : fold_up step s (insert_by lt x ys) ≡ step (fold_up step s ys) x → (b : Bool) → lt x y ≡ b → fold_up step s (cond b (y ∷ insert_by lt x ys) (x ∷ y ∷ ys)) ≡ step (step (fold_up step s ys) y) x
    go ih true e = ap (λ (t : S). step t y) ih ∙ h y (inl refl) e (fold_up step s ys)
    go ih false e = refl

pub fold_up_order : {A S : Type 0} (lt : A → A → Bool) (step : S → A → S) (xs : List A) → Apart lt step xs → (s : S) → fold_up step s (in_order lt xs) ≡ fold_up step s xs
fold_up_order lt step [] h s = refl
fold_up_order {A} {S} lt step (x ∷ xs) h s =
    fold_up_insert lt step x (in_order lt xs) (λ y k. h.0 y (order_has lt xs y k)) s
    ∙ ap (λ (t : S). step t x) (fold_up_order lt step xs h.1 s)

fold_down_insert : {A S : Type 0} (lt : A → A → Bool) (step : S → A → S) (x : A) (ys : List A) → ((y : A) → Has y ys → lt x y ≡ true → Swaps step x y) → (s : S) → fold_down step s (insert_by lt x ys) ≡ fold_down step (step s x) ys
fold_down_insert lt step x [] h s = refl
fold_down_insert {A} {S} lt step x (y ∷ ys) h s = go (fold_down_insert lt step x ys (λ z k. h z (inr k)) (step s y)) (lt x y) refl
  where
    go : fold_down step (step s y) (insert_by lt x ys) ≡ fold_down step (step (step s y) x) ys → (b : Bool) → lt x y ≡ b → fold_down step s (cond b (y ∷ insert_by lt x ys) (x ∷ y ∷ ys)) ≡ fold_down step (step (step s x) y) ys
    go ih true e = ih ∙ ap (λ (t : S). fold_down step t ys) (sym (h y (inl refl) e s))
    go ih false e = refl

pub fold_down_order : {A S : Type 0} (lt : A → A → Bool) (step : S → A → S) (xs : List A) → Apart lt step xs → (s : S) → fold_down step s (in_order lt xs) ≡ fold_down step s xs
fold_down_order lt step [] h s = refl
fold_down_order lt step (x ∷ xs) h s =
    fold_down_insert lt step x (in_order lt xs) (λ y k. h.0 y (order_has lt xs y k)) s
    ∙ fold_down_order lt step xs h.1 (step s x)
