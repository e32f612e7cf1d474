-- Whether a transaction goes on: it is open, and its abort is not half done.
use Rattle.std.proofs.Common.{◌≡◌, ◌⊎◌, inl, inr, Bool, true, false, cond, Option, Some, refl, ◌∙◌, true≢false}
use Rattle.map_model.specs.declared.call.Refusal.{Refusal}
use Rattle.map_model.specs.declared.call.Refusal.TheVariants as refusal
use Rattle.paged_desks.specs.core_state.States.{State}
use Rattle.paged_desks.specs.engine_trait.Refusals.{in_transaction}
use Rattle.paged_calls.specs.Tests.{is_going}
use Rattle.paged_desks.specs.session_state.declared.session.Session.{Session}

-- what is so where it does
pub record Going (x : Session) : Type 0 where
  pub is_open : x.is_open ≡ true
  pub whole : x.is_half_aborted ≡ false

pub going : (x : Session) → is_going x ≡ true → Going x
going x e = go x.is_half_aborted refl e
  where
    go : (b : Bool) → x.is_half_aborted ≡ b → cond b false x.is_open ≡ true → Going x
    go true q r = absurd (true≢false (cc))
    go false q r = record { is_open = r; whole = q }

pub goes : (x : Session) → x.is_open ≡ true → x.is_half_aborted ≡ false → is_going x ≡ true
goes x is_open whole = λ i. cond (whole i) false (is_open i)

-- and where it does not
pub not_going : (x : Session) → is_going x ≡ false → (x.is_half_aborted ≡ true) ⊎ (x.is_open ≡ false)
not_going x e = go x.is_half_aborted refl e
  where
    go : (b : Bool) → x.is_half_aborted ≡ b → cond b false x.is_open ≡ false → (x.is_half_aborted ≡ true) ⊎ (x.is_open ≡ false)
    go true q r = inl q
    go false q r = inr r

pub as_one : (h a : Bool) (later : Option Refusal) → cond h (Some refusal.NoTransaction) (cond a later (Some refusal.NoTransaction)) ≡ cond (cond h false a) later (Some refusal.NoTransaction)
as_one true a later = refl
as_one false a later = refl

-- the tests of the worker are those of its session
pub tests_as : (s : State) (is_half_aborted : Bool) (x : Session) → (s.worker x.own).is_open ≡ x.is_open → is_half_aborted ≡ x.is_half_aborted → (later : Option Refusal) → in_transaction s x.own is_half_aborted later ≡ cond (is_going x) later (Some refusal.NoTransaction)
tests_as s is_half_aborted x is_open half_is later =
    (λ i. cond (half_is i) (Some refusal.NoTransaction) (cond (is_open i) later (Some refusal.NoTransaction))) ∙ as_one x.is_half_aborted x.is_open later
