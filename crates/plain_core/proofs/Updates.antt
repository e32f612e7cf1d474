-- What a table's change makes of the function for which it stands.
use Rattle.std.proofs.Common.{◌≡◌, ℕ, List, [], ◌∷◌, ◌++◌, Bool, true, false, cond, ◌==◌, refl, ◌∙◌, ap}
use mathlib.Core.Path.{fun_ext}
use Rattle.map_model.specs.Lists.{upd}
use Rattle.core_state.specs.Lists.{at_end}

-- the meaning of a choice is the choice of the meanings
choice : {A B : Type 0} (f : A → B) (b : Bool) (x y : A) → f (cond b x y) ≡ cond b (f x) (f y)
choice f true x y = refl
choice f false x y = refl

-- a change of a value is the change of what the value means
pub set_meaning : {A B : Type 0} (f : A → B) (n t : ℕ → A) (i : ℕ) (v : A) → n ≡ upd t i v → (λ j. f (n j)) ≡ upd (λ j. f (t j)) i (f v)
set_meaning f n t i v e = ap (λ (h : _ → _). λ j. f (h j)) e ∙ fun_ext (λ j. choice f (j == i) v (t j))

-- a page at the end of the queue
pub at_end_is : (xs : List ℕ) (p : ℕ) → xs ++ p ∷ [] ≡ at_end xs p
at_end_is [] p = refl
at_end_is (x ∷ xs) p = ap (λ ys. x ∷ ys) (at_end_is xs p)
