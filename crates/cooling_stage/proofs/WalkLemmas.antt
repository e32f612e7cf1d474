-- The places of a queue, from its head.
use Rattle.std.proofs.Common.{◌≡◌, ℕ, zero, suc, cond, eq-eqb, ne_eqb, List, [], ◌∷◌, slice_get, None, Some, sym, ap, ◌∙◌}
use Rattle.cooling_stage.specs.declared.stage.Cooling.{Cooling}
use Rattle.cooling_stage.specs.Queue.{found, behind}
use Rattle.cooling_stage.specs.Walk.{EveryPlace}
use Rattle.cooling_stage.proofs.QueueLemmas.{found-head}

-- a page that is not found stands at no place
absent-place : (page : ℕ) (q : List Cooling) → found page q ≡ None → (i : ℕ) (x : Cooling) → slice_get q i ≡ Some x → x.page ≡ page → ⊥
absent-place page [] h i x at = λ _. cc
absent-place page (y ∷ ys) h zero x at =
    let same : y ≡ x = cc in λ e. (found-head page y ys h).0 (ap (λ c. c.page) same ∙ e)
absent-place page (y ∷ ys) h (suc i) x at = absent-place page ys (found-head page y ys h).1 i x at

pub every_place : EveryPlace
every_place [] once i x at = absurd (let no : ⊥ = cc in no)
every_place (y ∷ ys) once zero x at =
    let same : y ≡ x = cc in
    let e = eq-eqb y.page x.page (ap (λ c. c.page) same) in
    record {
      here = ap (λ b. cond b (Some y) (found x.page ys)) e ∙ ap Some same;
      next = ap (λ b. slice_get (cond b ys (behind x.page ys)) 0) e;
    }
every_place (y ∷ ys) once (suc i) x at =
    let more = every_place ys once.1 i x at in
    let e = ne_eqb y.page x.page (λ p. absent-place y.page ys once.0 i x at (sym p)) in
    record {
      here = ap (λ b. cond b (Some y) (found x.page ys)) e ∙ more.here;
      next = ap (λ b. slice_get (cond b ys (behind x.page ys)) 0) e ∙ more.next;
    }
