-- What a session knows while others step.
use Rattle.std.proofs.Common.{◌≡◌, ◌⊎◌, ◌<◌, ◌≤◌, ◌==◌, ◌++◌, ℕ, suc, true, false, List, [], ◌∷◌, length, Some, set, slice_get, length-set, refl, sym, ap, ◌∙◌, subst, inl, inr, arith}
use Rattle.std.proofs.lemmas.Bool.{eqb-true, cases_eq, cases_lt, ne_eqb}
use Rattle.std.proofs.lemmas.List.{get_or-set_same, get_or-set_other}
use Rattle.std.proofs.lemmas.Option.{slice_get-get_or, slice_get_past}
use Rattle.transactions.specs.declared.session.Session.{Session}
use Rattle.core_state.specs.Events.{Event}
use Rattle.transactions.specs.Steps.{is_step, is_step_of, AreOnly, AreQuiet}
use Rattle.transactions.specs.Memory.{memory_of, Knows}
use Rattle.transactions.specs.Laws.{EveryOther, EverySession}
use Rattle.transactions.proofs.CallLemmas.{knows_more}

module _ (v w : ℕ) (ne : (w == v) ≡ false) where
  other : (x : ℕ) → (x == w) ≡ true → (x == v) ≡ false
  other x h = ap (λ y. y == v) (eqb-true x w h) ∙ ne

  one : (e : Event) → (is_step e ≡ true → is_step_of w e ≡ true) → is_step_of v e ≡ false
  one (Event.Begin x f) h = other x (h refl)
  one (Event.Lock x i mode) h = other x (h refl)
  one (Event.Read x p k a) h = other x (h refl)
  one (Event.Next x p k a) h = other x (h refl)
  one (Event.Change x p k y) h = other x (h refl)
  one (Event.Put_back x p) h = other x (h refl)
  one (Event.End x commit f) h = other x (h refl)
  one (Event.Unlock x i) h = other x (h refl)
  one _ h = refl

  pub others : (es : List Event) → AreOnly w es → AreQuiet v es
  others [] o = tt
  others (e ∷ es) o = (one e o.0, others es o.1)

pub every_other : EveryOther
every_other g es more m w = record {
  quiet = λ k met q. knows_more g es more m k met q;
  only = λ k met ne o. knows_more g es more m k met (others m.session w ne more o);
}

get_same : {A : Type 0} (l : List A) (i : ℕ) (a : A) → i < length l → slice_get (set l i a) i ≡ Some a
get_same l i a le =
    let size : length (set l i a) ≡ length l = length-set l i a in
    slice_get-get_or (set l i a) i a (omega (arith, size, le)) ∙ ap Some (get_or-set_same l i a a le)

get_other : {A : Type 0} (l : List A) (i j : ℕ) (a : A) → (j ≡ i → ⊥) → slice_get (set l i a) j ≡ slice_get l j
get_other l i j a ne = go (cases_lt j (length l))
  where
    size : length (set l i a) ≡ length l
    size = length-set l i a

    go : (j < length l) ⊎ (length l ≤ j) → slice_get (set l i a) j ≡ slice_get l j
    go (inl le) = slice_get-get_or (set l i a) j a (omega (arith, size, le)) ∙ (ap Some (get_or-set_other l i j a a ne) ∙ sym (slice_get-get_or l j a le))
    go (inr past) = slice_get_past (set l i a) j (omega (arith, size, past)) ∙ sym (slice_get_past l j past)

some_is : {A : Type 0} (a b : A) → Some a ≡ Some b → a ≡ b
some_is a b e = cc

pub every_session : EverySession
every_session g es more sessions i now all within number knows met only = record {
  number = λ j s q. numbered j s q (cases_eq j i);
  knows = λ j s q. known j s q (cases_eq j i);
}
  where
    same : (j : ℕ) (s : Session) → slice_get (set sessions i now) j ≡ Some s → j ≡ i → now ≡ s
    same j s q e = some_is now s (sym (get_same sessions i now within) ∙ (ap (slice_get (set sessions i now)) (sym e) ∙ q))

    numbered : (j : ℕ) (s : Session) → slice_get (set sessions i now) j ≡ Some s → (j ≡ i) ⊎ (j ≡ i → ⊥) → s.session ≡ suc j
    numbered j s q (inl e) = subst (λ (x : Session). x.session ≡ suc j) (same j s q e) (number ∙ ap suc (sym e))
    numbered j s q (inr n) = all.number j s (sym (get_other sessions i j now n) ∙ q)

    known : (j : ℕ) (s : Session) → slice_get (set sessions i now) j ≡ Some s → (j ≡ i) ⊎ (j ≡ i → ⊥) → Knows g (es ++ more) (memory_of s)
    known j s q (inl e) = subst (λ (x : Session). Knows g (es ++ more) (memory_of x)) (same j s q e) knows
    known j s q (inr n) =
        let was = sym (get_other sessions i j now n) ∙ q in
        let e : s.session ≡ suc j = all.number j s was in
        let ne : (suc i == s.session) ≡ false = ne_eqb (suc i) s.session (λ z. n (omega (arith, e, z))) in
        (every_other g es more (memory_of s) (suc i)).only (all.knows j s was) met ne only
