-- Which rows are held once one was given up.
use Rattle.std.proofs.Common.{◌≡◌, ◌≢◌, ◌==◌, ◌⊎◌, inl, inr, ℕ, Bool, true, false, List, [], ◌∷◌, refl, sym, ap, ◌∙◌, arith, eq-eqb, true≢false}
use Rattle.std.proofs.lemmas.Bool.{cond-true}
use Rattle.std.proofs.lemmas.Bool.Decides.{nat_tests}
use Rattle.rows_trait.specs.declared.view.Hold.{Hold}
use Rattle.rows_trait.specs.Views.{holds, without}
use Rattle.rows_trait.proofs.Holds.{holds_without, holds_without_here}

-- nothing is held where no row is
pub none_held : (hs : List Hold) → ((q : ℕ) → holds hs q ≡ true → ⊥) → hs ≡ []
none_held [] f = refl
none_held (h ∷ hs) f = absurd (f h.row (cond-true (h.row == h.row) true (holds hs h.row) (eq-eqb h.row h.row refl)))

-- what is left was held, and is another row
pub others_left : (hs : List Hold) (a : ℕ) (P : ℕ → Type 0) → ((q : ℕ) → holds hs q ≡ true → (q ≡ a) ⊎ P q) → (q : ℕ) → holds (without hs a) q ≡ true → P q
others_left hs a P only q h = go (q == a) refl
  where
    go : (b : Bool) → (q == a) ≡ b → P q
    go true e = let is : q ≡ a = grind (arith, nat_tests) in absurd (true≢false (sym h ∙ (ap (holds (without hs a)) is ∙ holds_without_here hs a)))
    go false e = let ne : q ≢ a = grind (arith, nat_tests) in elim (only q (sym (holds_without hs a q ne) ∙ h)) [ inl i ↦ absurd (ne i) | inr p ↦ p ]
