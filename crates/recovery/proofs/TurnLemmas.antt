-- Slots that are turned one after the other.
use Rattle.std.proofs.Common.{◌≡◌, ◌<◌, ◌≤◌, ◌+◌, ℕ, Bool, false, List, length, get_or, set, refl, sym, ◌∙◌, ap, ⊎_elim, arith}
use Rattle.std.proofs.lemmas.Bool.{cases_eq}
use Rattle.std.proofs.lemmas.List.{get_or-set_other, get_or-set_same, length-set}
use Rattle.recovery.specs.Inside.{IsTurned, turned}

-- those before a place are
pub record IsTurnedTo (marks ahead : List Bool) (old : List ℕ) (n : ℕ) (new : List ℕ) : Type 0 where
  pub count : length new ≡ length old
  pub done : (p : ℕ) → p < n → p < length old → get_or new p 0 ≡ turned (get_or marks p false) (get_or ahead p false) (get_or old p 0)
  pub rest : (p : ℕ) → n ≤ p → get_or new p 0 ≡ get_or old p 0

pub none_turned : (marks ahead : List Bool) (old : List ℕ) → IsTurnedTo marks ahead old 0 old
none_turned marks ahead old = record { count = refl; done = λ p l w. absurd (omega arith); rest = λ p l. refl }

pub one_turned : (marks ahead : List Bool) (old now : List ℕ) (n y : ℕ) → IsTurnedTo marks ahead old n now → n < length now → y ≡ turned (get_or marks n false) (get_or ahead n false) (get_or now n 0) → IsTurnedTo marks ahead old (n + 1) (set now n y)
one_turned marks ahead old now n y is lt e = record {
  count = length-set now n y ∙ is.count;
  done = λ p l w. ⊎_elim (λ (q : p ≡ n). here p q) (λ (ne : p ≡ n → ⊥). get_or-set_other now n p y 0 ne ∙ is.done p (omega arith) w) (cases_eq p n);
  rest = λ p l. get_or-set_other now n p y 0 (λ q. absurd (omega arith)) ∙ is.rest p (omega arith);
}
  where
    here : (p : ℕ) → p ≡ n → get_or (set now n y) p 0 ≡ turned (get_or marks p false) (get_or ahead p false) (get_or old p 0)
    here p q = ap (λ (i : ℕ). get_or (set now n y) i 0) q ∙ (get_or-set_same now n y 0 lt ∙ (e ∙ (ap (turned (get_or marks n false) (get_or ahead n false)) (is.rest n (omega arith))
        ∙ ap (λ (i : ℕ). turned (get_or marks i false) (get_or ahead i false) (get_or old i 0)) (sym q))))

pub all_turned : (marks ahead : List Bool) (old new : List ℕ) (n : ℕ) → length old ≤ n → IsTurnedTo marks ahead old n new → IsTurned marks ahead old new
all_turned marks ahead old new n le is = record { count = is.count; each = λ p l. is.done p (omega arith) l }
