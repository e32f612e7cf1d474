-- Whether a transaction goes on: it is open, and its abort is not half done.
use Rattle.std.proofs.Common.{◌≡◌, ◌⊎◌, inl, inr, Bool, true, false, cond, Option, None, Some, refl, ◌∙◌, true≢false}
use Rattle.map_model.specs.declared.call.Refusal.{Refusal}
use Rattle.map_model.specs.declared.call.Refusal.TheVariants as refusal
use Rattle.session_state.specs.core_state.States.{State}
use Rattle.session_state.specs.engine_trait.Refusals.{in_transaction}
use Rattle.session_state.specs.engine_trait.Serving.{refused_by}
use Rattle.row_ends.specs.Tests.{call_test, is_going}
use Rattle.session_state.specs.declared.session.Session.{Session}
use Rattle.session_state.specs.engine_trait.declared.unserved.Unanswered.TheVariants as unanswered
use Rattle.session_state.specs.engine_trait.declared.unserved.Unserved.{Unserved}
use Rattle.session_state.specs.engine_trait.declared.unserved.Unserved.TheVariants as unserved

-- what is so where it does
pub record Going (x : Session) : Type 0 where
  pub is_open : x.is_open ≡ true
  pub whole : x.is_half_aborted ≡ false

pub going : (x : Session) → is_going x ≡ true → Going x
going x e = go x.is_half_aborted refl e
  where
    go : (b : Bool) → x.is_half_aborted ≡ b → cond b false x.is_open ≡ true → Going x
    go true q r = absurd (true≢false (cc))
    go false q r = record { is_open = r; whole = q }

pub goes : (x : Session) → x.is_open ≡ true → x.is_half_aborted ≡ false → is_going x ≡ true
goes x is_open whole = λ i. cond (whole i) false (is_open i)

-- and where it does not
pub not_going : (x : Session) → is_going x ≡ false → (x.is_half_aborted ≡ true) ⊎ (x.is_open ≡ false)
not_going x e = go x.is_half_aborted refl e
  where
    go : (b : Bool) → x.is_half_aborted ≡ b → cond b false x.is_open ≡ false → (x.is_half_aborted ≡ true) ⊎ (x.is_open ≡ false)
    go true q r = inl q
    go false q r = inr r

pub as_one : (h a : Bool) (later : Option Refusal) → cond h (Some refusal.NoTransaction) (cond a later (Some refusal.NoTransaction)) ≡ cond (cond h false a) later (Some refusal.NoTransaction)
as_one true a later = refl
as_one false a later = refl

-- the tests of the worker are those of its session
pub tests_as : (s : State) (is_half_aborted : Bool) (x : Session) → (s.worker x.own).is_open ≡ x.is_open → is_half_aborted ≡ x.is_half_aborted → (later : Option Refusal) → in_transaction s x.own is_half_aborted later ≡ cond (is_going x) later (Some refusal.NoTransaction)
tests_as s is_half_aborted x is_open half_is later =
    (λ i. cond (half_is i) (Some refusal.NoTransaction) (cond (is_open i) later (Some refusal.NoTransaction))) ∙ as_one x.is_half_aborted x.is_open later

-- ## A call within a transaction

-- it works, and a transaction is open
pub record IsReady (x : Session) : Type 0 where
  pub works : x.works ≡ true
  pub is_open : x.is_open ≡ true
  pub whole : x.is_half_aborted ≡ false

pub ready_of : (x : Session) → call_test x ≡ None → IsReady x
ready_of x e = works_case x.works refl e
  where
    open_case : x.works ≡ true → (b : Bool) → is_going x ≡ b → refused_by (cond b None (Some refusal.NoTransaction)) ≡ None → IsReady x
    open_case w true q r = let k = going x q in record { works = w; is_open = k.is_open; whole = k.whole }
    open_case w false q r = absurd (cc)

    works_case : (b : Bool) → x.works ≡ b → cond b (refused_by (cond (is_going x) None (Some refusal.NoTransaction))) (Some (unserved.Unanswered unanswered.Broken)) ≡ None → IsReady x
    works_case true q r = open_case q (is_going x) refl r
    works_case false q r = absurd (cc)

-- why it is refused
pub data Tested (x : Session) (why : Unserved) : Type 0 where
  Fails : x.works ≡ false → why ≡ unserved.Unanswered unanswered.Broken → Tested x why
  Closed : x.works ≡ true → is_going x ≡ false → why ≡ unserved.Refused refusal.NoTransaction → Tested x why

pub tested : (x : Session) (why : Unserved) → call_test x ≡ Some why → Tested x why
tested x why e = works_case x.works refl e
  where
    open_case : x.works ≡ true → (b : Bool) → is_going x ≡ b → refused_by (cond b None (Some refusal.NoTransaction)) ≡ Some why → Tested x why
    open_case w true q r = absurd (cc)
    open_case w false q r = Closed w q (cc)

    works_case : (b : Bool) → x.works ≡ b → cond b (refused_by (cond (is_going x) None (Some refusal.NoTransaction))) (Some (unserved.Unanswered unanswered.Broken)) ≡ Some why → Tested x why
    works_case true q r = open_case q (is_going x) refl r
    works_case false q r = Fails q (cc)
