-- Stray pages that are marked one after the other.
use Rattle.std.proofs.Common.{◌≡◌, ◌⊎◌, ◌<◌, ◌≤◌, ◌+◌, ◌||◌, ℕ, Bool, true, false, List, length, get_or, set, refl, sym, ◌∙◌, ap, inl, inr, ⊎_elim, arith, true≢false}
use Rattle.std.proofs.lemmas.Bool.{cases_eq, cases_lt}
use Rattle.std.proofs.lemmas.List.{get_or-set_other, get_or-set_same, get_or_past, length-set}
use Rattle.recovery.specs.Inside.{IsMarkedToo}

-- those before a place are
pub record IsMarkedTo (stray old : List Bool) (n : ℕ) (new : List Bool) : Type 0 where
  pub count : length new ≡ length old
  pub done : (p : ℕ) → p < n → get_or new p false ≡ get_or old p false || get_or stray p false
  pub rest : (p : ℕ) → n ≤ p → get_or new p false ≡ get_or old p false

pub none_marked : (stray old : List Bool) → IsMarkedTo stray old 0 old
none_marked stray old = record { count = refl; done = λ p l. absurd (omega arith); rest = λ p l. refl }

pub one_marked : (stray old now : List Bool) (n : ℕ) (y : Bool) → IsMarkedTo stray old n now → n < length now → y ≡ get_or now n false || get_or stray n false → IsMarkedTo stray old (n + 1) (set now n y)
one_marked stray old now n y is lt e = record {
  count = length-set now n y ∙ is.count;
  done = λ p l. ⊎_elim (λ (q : p ≡ n). here p q) (λ (ne : p ≡ n → ⊥). get_or-set_other now n p y false ne ∙ is.done p (omega arith)) (cases_eq p n);
  rest = λ p l. get_or-set_other now n p y false (λ q. absurd (omega arith)) ∙ is.rest p (omega arith);
}
  where
    here : (p : ℕ) → p ≡ n → get_or (set now n y) p false ≡ get_or old p false || get_or stray p false
    here p q = ap (λ (i : ℕ). get_or (set now n y) i false) q ∙ (get_or-set_same now n y false lt ∙ (e ∙ (ap (λ b. b || get_or stray n false) (is.rest n (omega arith))
        ∙ ap (λ (i : ℕ). get_or old i false || get_or stray i false) (sym q))))

-- what is marked beside nothing
or_none : (a b : Bool) → b ≡ false → a || b ≡ a
or_none true b e = refl
or_none false b e = e

pub all_marked : (stray old new : List Bool) (n : ℕ) → length stray ≤ n → IsMarkedTo stray old n new → IsMarkedToo stray old new
all_marked stray old new n le is = record {
  count = is.count;
  each = λ p. go p (cases_lt p n);
}
  where
    go : (p : ℕ) → (p < n) ⊎ (n ≤ p) → get_or new p false ≡ get_or old p false || get_or stray p false
    go p (inl l) = is.done p l
    go p (inr l) = is.rest p l ∙ sym (or_none (get_or old p false) (get_or stray p false) (get_or_past stray p false (omega arith)))

-- ## What a mark tells

pub both_off : (a b c : Bool) → c ≡ a || b → c ≡ false → (a ≡ false) × (b ≡ false)
both_off true b c e off = absurd (true≢false (sym e ∙ off))
both_off false b c e off = (refl, sym e ∙ off)

pub other_on : (a b c : Bool) → c ≡ a || b → c ≡ true → a ≡ false → b ≡ true
other_on true b c e on off = absurd (true≢false off)
other_on false b c e on off = sym e ∙ on
