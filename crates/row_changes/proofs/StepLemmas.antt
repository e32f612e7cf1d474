-- What steps of a call that may be refused say of clocks and faults.
use Rattle.std.proofs.Common.{◌≡◌, ◌≤◌, ◌<◌, ◌^◌, ℕ, Bool, true, false, cond, leb, Some, None, Result, Ok, Err, refl, sym, ◌∙◌, subst, arith}
use Rattle.std.proofs.lemmas.Bool.{leb-false, leb-true}
use Rattle.map_model.specs.declared.call.Refusal.{Refusal}
use Rattle.map_model.specs.declared.call.Refusal.TheVariants as refusal
use Rattle.session_state.specs.engine_trait.declared.unserved.Unanswered.TheVariants as unanswered
use Rattle.session_state.specs.engine_trait.declared.unserved.Unserved.{Unserved}
use Rattle.session_state.specs.engine_trait.declared.unserved.Unserved.TheVariants as unserved
use Rattle.session_state.specs.engine_trait.Refusals.{clock_refusal}
use Rattle.lean_disk.specs.Faults.{HasCause}

-- ## What a test of the clock says

pub clock_below : (clock : ℕ) → clock_refusal clock None ≡ None → clock < 2 ^ 62
clock_below clock e = go (leb (2 ^ 62) clock) refl e
  where
    go : (b : Bool) → leb (2 ^ 62) clock ≡ b → cond b (Some refusal.ClockSpent) None ≡ None → clock < 2 ^ 62
    go true q r = absurd (cc)
    go false q r = leb-false (2 ^ 62) clock q

-- it refuses for one reason
pub record IsAtEnd (clock : ℕ) (why : Refusal) : Type 0 where
  pub is : why ≡ refusal.ClockSpent
  pub spent : 2 ^ 62 ≤ clock

pub clock_at_end : (clock : ℕ) (why : Refusal) → clock_refusal clock None ≡ Some why → IsAtEnd clock why
clock_at_end clock why e = go (leb (2 ^ 62) clock) refl e
  where
    some_is : (r q : Refusal) → Some r ≡ Some q → r ≡ q
    some_is r q p = cc

    go : (b : Bool) → leb (2 ^ 62) clock ≡ b → cond b (Some refusal.ClockSpent) None ≡ Some why → IsAtEnd clock why
    go true q r = record { is = sym (some_is refusal.ClockSpent why r); spent = leb-true (2 ^ 62) clock q }
    go false q r = absurd (cc)

-- the answer of a fault
abbrev pub the_fault : (A : Type 0) → Result A Unserved
the_fault A = Err (unserved.Unanswered unanswered.DiskFault)

-- whoever is refused by it has met no fault
pub not_fault : (A : Type 0) (clock : ℕ) (why : Refusal) → clock_refusal clock None ≡ Some why → (Err (unserved.Refused why) ≡ the_fault A) → ⊥
not_fault A clock why e = subst (λ k. (Err (unserved.Refused k) ≡ the_fault A) → ⊥) (sym (clock_at_end clock why e).is) (λ p. absurd (cc))

pub ok_calm : {A E : Type 0} (a : A) (why : E) → Ok a ≡ Err why → ⊥
ok_calm a why e = absurd (cc)

-- a call behind ones without a fault
pub cause_from : (a b c : ℕ) (P Q : Type 0) → b ≡ a → HasCause b c P → (Q → P) → (P → Q) → HasCause a c Q
cause_from a b c P Q same h back on = subst (λ n. HasCause n c Q) same (record { later = h.later; cause = λ q. h.cause (back q); calm = λ no. h.calm (λ p. no (on p)) })

-- a refusal, as an answer
abbrev pub refused_as : (A : Type 0) → Refusal → Result A Unserved
refused_as A why = Err (unserved.Refused why)

-- two calls without a fault are one
pub calm_then : (a b c : ℕ) (P Q R : Type 0) → HasCause a b P → (P → ⊥) → HasCause b c Q → (Q → ⊥) → (R → ⊥) → HasCause a c R
calm_then a b c P Q R p no_p q no_q no_r = record { later = let x = p.later in let y = q.later in omega arith; cause = λ r. absurd (no_r r); calm = λ _. q.calm no_q ∙ p.calm no_p }
