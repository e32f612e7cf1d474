-- What a call that changes its key is tested for, and what its tests say of a state.
use Rattle.std.proofs.Common.{◌≡◌, ◌∙◌, ◌⊎◌, inl, inr, ◌↔◌, ◌≤◌, ◌<◌, ◌^◌, ℕ, Bool, true, false, cond, leb, length, Option, Some, None, Result, Err, ap, refl, sym, subst, true≢false}
use Rattle.std.proofs.lemmas.Bool.{leb-false}
use Rattle.map_model.specs.declared.call.Call.{Call}
use Rattle.map_model.specs.declared.call.Call.TheVariants as call
use Rattle.map_model.specs.declared.call.Refusal.{Refusal}
use Rattle.map_model.specs.declared.call.Refusal.TheVariants as refusal
use Rattle.paged_desks.specs.engine_trait.declared.unserved.Unanswered.TheVariants as unanswered
use Rattle.paged_desks.specs.engine_trait.declared.unserved.Unserved.{Unserved}
use Rattle.paged_desks.specs.engine_trait.declared.unserved.Unserved.TheVariants as unserved
use Rattle.paged_desks.specs.core_calls.Refusals.{Hinders, IsHindered, IsLong}
use Rattle.paged_desks.specs.core_state.Events as happening
use Rattle.paged_desks.specs.core_state.Openings.{Opening}
use Rattle.paged_desks.specs.core_state.States.{State}
use Rattle.paged_desks.specs.engine_trait.Limits.{limits}
use Rattle.paged_desks.specs.engine_trait.Refusals.{change_refusal, in_transaction, is_full_for, lock_refusal, met_refusal, refusal_in, room_refusal}
use Rattle.paged_desks.specs.engine_trait.Serving.{MayRefuse, refused_by}
use Rattle.paged_desks.proofs.session_state.ServingLemmas.{refused_none}
use Rattle.paged_desks.proofs.session_state.UndoLemmas.{many_of}
use Rattle.paged_desks.specs.session_state.Holds.{IsOf}
use Rattle.paged_desks.specs.session_state.declared.session.Session.{Session}
use Rattle.paged_desks.specs.worker_log.Logs.{Log, limit, used}
use Rattle.paged_desks.specs.Calls.{EndsWork, ends_work, works_behind}
use Rattle.paged_calls.specs.Tests.{change_test, is_going}
use Rattle.paged_calls.proofs.GoingLemmas.{going, tests_as}
use Rattle.paged_calls.proofs.KeyLemmas.{IsOfKey}
use Rattle.paged_calls.proofs.TakingLemmas.{none_is, some_is}

-- ## The tests

-- those of a change, and then what else there is
abbrev pub gate : (a b c d : Bool) → (most : Refusal) → Option Refusal → Option Refusal
gate a b c d most last = cond a (cond b (Some refusal.TooLong) (cond c (Some most) (cond d (Some refusal.ClockSpent) last))) (Some refusal.NoTransaction)

abbrev pub gate_of : Session → Log → Option Refusal → Option Refusal
gate_of x log last = gate (is_going x) (leb 64 (length x.undo)) (leb (limit log) (used log)) (leb (2 ^ 62) x.clock.clock) (refusal.LogFull (used log) (limit log)) last

pub gate_more : (a b c d : Bool) (most why : Refusal) (last : Option Refusal) → gate a b c d most None ≡ Some why → gate a b c d most last ≡ Some why
gate_more false b c d most why last e = e
gate_more true true c d most why last e = e
gate_more true false true d most why last e = e
gate_more true false false true most why last e = e
gate_more true false false false most why last e = absurd (none_is why e)

pub gate_none : (a b c d : Bool) (most : Refusal) (last : Option Refusal) → gate a b c d most None ≡ None → gate a b c d most last ≡ last
gate_none false b c d most last e = absurd (none_is _ (sym e))
gate_none true true c d most last e = absurd (none_is _ (sym e))
gate_none true false true d most last e = absurd (none_is _ (sym e))
gate_none true false false true most last e = absurd (none_is _ (sym e))
gate_none true false false false most last e = refl

pub test_is : (x : Session) (log : Log) → x.works ≡ true → change_test x log ≡ refused_by (gate_of x log None)
test_is x log works i = cond (works i) (refused_by (gate_of x log None)) (Some (unserved.Unanswered unanswered.Broken))

-- what holds where none refuses it
pub record IsFree (x : Session) (log : Log) : Type 0 where
  pub is_open : x.is_open ≡ true
  pub whole : x.is_half_aborted ≡ false
  pub few : length x.undo < 64
  pub small : x.clock.clock < 2 ^ 62
  pub room : used log < limit log

pub free_of : (x : Session) (log : Log) → x.works ≡ true → change_test x log ≡ None → IsFree x log
free_of x log works e = go (is_going x) (leb 64 (length x.undo)) (leb (limit log) (used log)) (leb (2 ^ 62) x.clock.clock) refl refl refl refl (refused_none (gate_of x log None) (sym (test_is x log works) ∙ e))
  where
    go : (a b c d : Bool) → is_going x ≡ a → leb 64 (length x.undo) ≡ b → leb (limit log) (used log) ≡ c → leb (2 ^ 62) x.clock.clock ≡ d → gate a b c d (refusal.LogFull (used log) (limit log)) None ≡ None → IsFree x log
    go false b c d p q r u e = absurd (none_is _ (sym e))
    go true true c d p q r u e = absurd (none_is _ (sym e))
    go true false true d p q r u e = absurd (none_is _ (sym e))
    go true false false true p q r u e = absurd (none_is _ (sym e))
    go true false false false p q r u e = record { is_open = (going x p).is_open; whole = (going x p).whole; few = leb-false 64 (length x.undo) q; small = leb-false (2 ^ 62) x.clock.clock u; room = leb-false (limit log) (used log) r }

-- then the engine works
pub works_of : (x : Session) (log : Log) → change_test x log ≡ None → x.works ≡ true
works_of x log e = go x.works refl
  where
    go : (b : Bool) → x.works ≡ b → x.works ≡ true
    go true w = w
    go false w = absurd (none_is (unserved.Unanswered unanswered.Broken) (sym e ∙ (λ i. cond (w i) (refused_by (gate_of x log None)) (Some (unserved.Unanswered unanswered.Broken)))))

-- ## Of a state

-- where the session has what the core's worker has, the tests are the same
pub tests_in : (s : State) (x : Session) (log : Log) → IsOf x (s.worker x.own) → (is_half_aborted : Bool) → is_half_aborted ≡ x.is_half_aborted → (last : Option Refusal) → in_transaction s x.own is_half_aborted (change_refusal s x.own log last) ≡ gate_of x log last
tests_in s x log of is_half_aborted half_is last = tests_as s is_half_aborted x of.is_open half_is (change_refusal s x.own log last)
    ∙ (λ i. gate (is_going x) (leb 64 (many_of (s.worker x.own).changes x.undo of.undo i)) (leb (limit log) (used log)) (leb (2 ^ 62) (of.clock i)) (refusal.LogFull (used log) (limit log)) last)

-- what a call that changes its key is tested for behind the taking of its row
abbrev pub room_in : Opening → State → Call → Option Refusal
room_in g s (call.Put k value) = cond (is_full_for g s k) (room_refusal g s k) None
room_in g s _ = None

pub refusal_is : (c : Call) (key : ℕ) → IsOfKey c key happening.Mode.Alone → (g : Opening) (s : State) (own : ℕ) (is_half_aborted : Bool) (log : Log)
    → refusal_in g s own is_half_aborted log c ≡ in_transaction s own is_half_aborted (change_refusal s own log (lock_refusal g s own key happening.Mode.Alone (met_refusal g s own key (room_in g s c))))
refusal_is (call.Put k value) key e g s own is_half_aborted log = λ i. in_transaction s own is_half_aborted (change_refusal s own log (lock_refusal g s own (e i) happening.Mode.Alone (met_refusal g s own (e i) (room_in g s (call.Put k value)))))
refusal_is (call.Del k) key e g s own is_half_aborted log = λ i. in_transaction s own is_half_aborted (change_refusal s own log (lock_refusal g s own (e i) happening.Mode.Alone (met_refusal g s own (e i) None)))
refusal_is (call.Get k) key e g s own is_half_aborted log = absurd e
refusal_is _ key e g s own is_half_aborted log = absurd e

-- its transaction has all its changes
pub long_of : (c : Call) (key : ℕ) → IsOfKey c key happening.Mode.Alone → (g : Opening) (s : State) (own : ℕ) → g.changes ≤ length (s.worker own).changes → IsLong limits g s own c
long_of (call.Put k value) key e g s own many = many
long_of (call.Del k) key e g s own many = many
long_of _ key e g s own many = absurd e

-- another session has its row
pub hindered_of : (c : Call) (key : ℕ) → IsOfKey c key happening.Mode.Alone → (g : Opening) (s : State) (own h : ℕ) → Hinders (s.row (g.row_of key)) own happening.Mode.Alone h → IsHindered g s own c h
hindered_of (call.Put k value) key e g s own h hinders = subst (λ j. Hinders (s.row (g.row_of j)) own happening.Mode.Alone h) (sym e) hinders
hindered_of (call.Del k) key e g s own h hinders = subst (λ j. Hinders (s.row (g.row_of j)) own happening.Mode.Alone h) (sym e) hinders
hindered_of _ key e g s own h hinders = absurd e

-- it is no abort
pub no_abort : (c : Call) (key : ℕ) → IsOfKey c key happening.Mode.Alone → c ≡ call.Abort → ⊥
no_abort c key e q = subst (λ (d : Call). IsOfKey d key happening.Mode.Alone) q e

-- ## Why a test refuses it

-- what is so of each such refusal is so of this one, or there is no engine to ask
pub by_test : (x : Session) (log : Log) (why : Unserved) → change_test x log ≡ Some why → (P : Unserved → Type 0) → P (unserved.Refused refusal.NoTransaction) → P (unserved.Refused refusal.TooLong) → P (unserved.Refused (refusal.LogFull (used log) (limit log))) → P (unserved.Refused refusal.ClockSpent) → ((x.works ≡ true) × P why) ⊎ ((x.works ≡ false) × (why ≡ unserved.Unanswered unanswered.Broken))
by_test x log why e P shut long full spent = go x.works refl
  where
    open_case : (a b c d : Bool) → refused_by (gate a b c d (refusal.LogFull (used log) (limit log)) None) ≡ Some why → P why
    open_case false b c d q = subst P (some_is _ why q) shut
    open_case true true c d q = subst P (some_is _ why q) long
    open_case true false true d q = subst P (some_is _ why q) full
    open_case true false false true q = subst P (some_is _ why q) spent
    open_case true false false false q = absurd (none_is why q)

    go : (b : Bool) → x.works ≡ b → ((x.works ≡ true) × P why) ⊎ ((x.works ≡ false) × (why ≡ unserved.Unanswered unanswered.Broken))
    go true w = inl (w, open_case (is_going x) (leb 64 (length x.undo)) (leb (limit log) (used log)) (leb (2 ^ 62) x.clock.clock) (sym (test_is x log w) ∙ e))
    go false w = inr (w, sym (some_is (unserved.Unanswered unanswered.Broken) why ((λ i. cond (sym w i) (refused_by (gate_of x log None)) (Some (unserved.Unanswered unanswered.Broken))) ∙ e)))

module _ (x : Session) (log : Log) (why : Unserved) (e : change_test x log ≡ Some why) where
  pub test_comes : (workers : ℕ) → MayRefuse workers why ⊎ EndsWork why
  test_comes workers = elim (by_test x log why e (MayRefuse workers) tt tt tt tt) [ inl q ↦ inl q.1 | inr q ↦ inr (ap ends_work q.1) ]

  pub test_works : (A : Type 0) → x.works ≡ works_behind {A = A} (Err why)
  test_works A = elim (by_test x log why e (λ r. works_behind {A = A} (Err r) ≡ true) refl refl refl refl) [ inl q ↦ q.0 ∙ sym q.1 | inr q ↦ q.0 ∙ ap (λ (r : Unserved). works_behind {A = A} (Err r)) (sym q.1) ]

  pub test_broken : (A : Type 0) → ◌≡◌ {A = Result A Unserved} (Err why) (Err (unserved.Unanswered unanswered.Broken)) ↔ (x.works ≡ false)
  test_broken A = elim (by_test x log why e (λ r. ◌≡◌ {A = Result A Unserved} (Err r) (Err (unserved.Unanswered unanswered.Broken)) → ⊥) (λ q. absurd (cc)) (λ q. absurd (cc)) (λ q. absurd (cc)) (λ q. absurd (cc)))
      [ inl q ↦ ((λ r. absurd (q.1 r)), (λ f. absurd (true≢false (sym q.0 ∙ f)))) | inr q ↦ ((λ _. q.0), (λ _. ap (λ (r : Unserved). Err r) q.1)) ]
