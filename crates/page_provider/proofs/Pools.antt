-- What the queue holds of a page.
use Rattle.std.proofs.Common.{◌≡◌, ◌<◌, ◌==◌, ℕ, suc, Bool, true, false, List, [], ◌∷◌, length, map, Some, inl, inr, refl, ap, ◌∙◌, arith}
use Rattle.std.specs.Prelude.{if◌then◌else◌}
use Rattle.std.proofs.lemmas.Bool.{eqb-true}
use Rattle.map_model.specs.Lists.{Has}
use Rattle.btree_descent.specs.core_state.Lists.{times}
use Rattle.cooling_stage.specs.declared.stage.Cooling.{Cooling}
use Rattle.cooling_stage.specs.Queue.{found}

abbrev page_of : Cooling → ℕ
page_of = λ x. x.page

-- what the queue holds of a page that stands in it
pub record Entry (p : ℕ) (q : List Cooling) (x : Cooling) : Type 0 where
  pub has : Has x q
  pub page : x.page ≡ p

pub found_entry : (p : ℕ) (q : List Cooling) (x : Cooling) → found p q ≡ Some x → Entry p q x
found_entry p [] x e = absurd (cc)
found_entry p (y ∷ ys) x e = go (λ k. found_entry p ys x k) (y.page == p) refl e
  where
    go : (found p ys ≡ Some x → Entry p ys x) → (b : Bool) → (y.page == p) ≡ b → (if b then Some y else found p ys) ≡ Some x → Entry p (y ∷ ys) x
    go rest true is k = let same : x ≡ y = cc in record { has = inl same; page = ap page_of same ∙ eqb-true y.page p is }
    go rest false is k = let o = rest k in record { has = inr o.has; page = o.page }

pub found_long : (p : ℕ) (q : List Cooling) (x : Cooling) → found p q ≡ Some x → 0 < length q
found_long p [] x e = absurd (cc)
found_long p (y ∷ ys) x e = omega arith

pub found_some : (p : ℕ) (q : List Cooling) → 0 < times p (map page_of q) → (x : Cooling) × (found p q ≡ Some x)
found_some p [] few = absurd (omega arith)
found_some p (y ∷ ys) few = go (λ k. found_some p ys k) (y.page == p) few
  where
    go : (0 < times p (map page_of ys) → (x : Cooling) × (found p ys ≡ Some x)) → (b : Bool) → 0 < (if b then suc (times p (map page_of ys)) else times p (map page_of ys)) → (x : Cooling) × ((if b then Some y else found p ys) ≡ Some x)
    go rest true k = (y, refl)
    go rest false k = rest k
