-- A test of each element of a list, as far as a loop has come.
use Rattle.std.proofs.Common.{◌≡◌, ◌<◌, ◌+◌, ℕ, zero, suc, Bool, true, false, ◌&&◌, List, [], ◌∷◌, length, get_or, drop, refl, sym, ◌∙◌, ap, arith, true≢false}
use Rattle.std.proofs.lemmas.List.{at_drop_more}

module _ {A : Type 0} (F : List A → Bool) (p : A → Bool) (one : (x : A) (xs : List A) → F (x ∷ xs) ≡ (p x && F xs)) where
  opened : (xs : List A) (i : ℕ) (d : A) (b : Bool) → i < length xs → p (get_or xs i d) ≡ b → F (drop i xs) ≡ (b && F (drop (i + 1) xs))
  opened xs i d b l h = at_drop_more F xs i d l ∙ one (get_or xs i d) (drop (i + 1) xs) ∙ ap (λ c. c && F (drop (i + 1) xs)) h

  pub walk_more : (xs : List A) (i : ℕ) (d : A) → i < length xs → p (get_or xs i d) ≡ true → F (drop i xs) ≡ F xs → F (drop (i + 1) xs) ≡ F xs
  walk_more xs i d l h e = sym (opened xs i d true l h) ∙ e

  pub walk_fails : (xs : List A) (i : ℕ) (d : A) → i < length xs → p (get_or xs i d) ≡ false → F (drop i xs) ≡ F xs → false ≡ F xs
  walk_fails xs i d l h e = sym (opened xs i d false l h) ∙ e

  pub walk_at : (xs : List A) (i : ℕ) (d : A) → i < length xs → F xs ≡ true → p (get_or xs i d) ≡ true
  walk_at [] i d l h = absurd (omega arith)
  walk_at (x ∷ xs) zero d l h = left (p x) (F xs) (sym (one x xs) ∙ h)
    where
      left : (a b : Bool) → (a && b) ≡ true → a ≡ true
      left true b e = refl
      left false b e = e
  walk_at (x ∷ xs) (suc i) d l h = walk_at xs i d (omega arith) (right (p x) (F xs) (sym (one x xs) ∙ h))
    where
      right : (a b : Bool) → (a && b) ≡ true → b ≡ true
      right true b e = e
      right false b e = absurd (true≢false (sym e))
