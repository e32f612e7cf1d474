-- The first record of a session's transaction, from one moment to the next.
use Rattle.std.proofs.Common.{◌≡◌, ◌≤◌, ◌==◌, ◌&&◌, ℕ, suc, Bool, true, false, cond, List, ◌∷◌, Option, Some, None, refl, sym, ap, ◌∙◌, arith, eq-eqb}
use Rattle.std.proofs.lemmas.Bool.{and_from, cond-false, cond-true}
use Rattle.map_model.specs.Lists.{Has}
use Rattle.map_model.proofs.ListLemmas.{upd_same}
use Rattle.btree_descent.specs.image_model.Entries.{Entry, is_record}
use Rattle.btree_descent.specs.core_state.States.{State, Worker}
use Rattle.core_covers.specs.Firsts as covers
use Rattle.core_covers.specs.Firsts.{first_of, oldest, or_else}
use Rattle.core_covers.proofs.FirstLemmas.{every_first_step, oldest_has, own_is}
use Rattle.session_state.specs.Holds.{IsOf}
use Rattle.session_state.specs.declared.session.Session.{Session}

-- nothing was entered
pub first_same : (s t : State) (w : ℕ) → (t.worker w).is_open ≡ (s.worker w).is_open → (t.worker w).txn ≡ (s.worker w).txn → t.entries ≡ s.entries → first_of t w ≡ first_of s w
first_same s t w opens txns entries = (every_first_step s t w opens txns).same entries

-- or what is no record
pub first_read : (s t : State) (w : ℕ) (r : Entry) → (t.worker w).is_open ≡ (s.worker w).is_open → (t.worker w).txn ≡ (s.worker w).txn → t.entries ≡ r ∷ s.entries → is_record r.kind ≡ false → first_of t w ≡ first_of s w
first_read s t w r opens txns entries kind = (every_first_step s t w opens txns).other r entries (ap (λ b. b && ((r.log == w) && (r.txn == (s.worker w).txn))) kind)

-- a record of the session's open transaction was, by its clock's number, and the session keeps that if it had none
pub first_staged : (s t : State) (x y : Session) (r : Entry) → IsOf x (s.worker x.own) → x.is_open ≡ true → first_of s x.own ≡ x.first → (t.worker x.own).is_open ≡ (s.worker x.own).is_open → (t.worker x.own).txn ≡ (s.worker x.own).txn
    → t.entries ≡ r ∷ s.entries → is_record r.kind ≡ true → r.log ≡ x.own → r.txn ≡ (s.worker x.own).txn → r.number ≡ y.clock.clock → y.first ≡ or_else x.first (Some y.clock.clock) → first_of t x.own ≡ y.first
first_staged s t x y r of_s is_open first opens txns entries kind log txn number next =
    (every_first_step s t x.own opens txns).own r entries (of_s.is_open ∙ is_open) own_entry ∙ ((λ i. or_else (first i) (Some (number i))) ∙ sym next)
  where
    own_entry : covers.is_own x.own (s.worker x.own).txn r ≡ true
    own_entry = and_from (is_record r.kind) ((r.log == x.own) && (r.txn == (s.worker x.own).txn)) kind (and_from (r.log == x.own) (r.txn == (s.worker x.own).txn) (eq-eqb r.log x.own log) (eq-eqb r.txn (s.worker x.own).txn txn))

-- where the worker is not open there is none
pub first_ended : (t : State) (w : ℕ) → (t.worker w).is_open ≡ false → first_of t w ≡ None
first_ended t w shut = cond-false (t.worker w).is_open (oldest (covers.is_own w (t.worker w).txn) t.entries) None shut

-- nor where it has begun its next transaction
pub first_begun : (s t : State) (w : ℕ) → ((r : Entry) → Has r s.entries → r.txn ≤ (s.worker r.log).txn) → (t.worker w).is_open ≡ true → (t.worker w).txn ≡ suc (s.worker w).txn → t.entries ≡ s.entries → first_of t w ≡ None
first_begun s t w earlier opened txn entries =
    cond-true (t.worker w).is_open (oldest (covers.is_own w (t.worker w).txn) t.entries) None opened ∙ ((λ i. oldest (covers.is_own w (txn i)) (entries i)) ∙ go (oldest (covers.is_own w (suc (s.worker w).txn)) s.entries) refl)
  where
    go : (first : Option ℕ) → oldest (covers.is_own w (suc (s.worker w).txn)) s.entries ≡ first → first ≡ None
    go None e = refl
    go (Some n) e =
        let q = oldest_has (covers.is_own w (suc (s.worker w).txn)) s.entries n e in
        let a = own_is w (suc (s.worker w).txn) q.0 q.2 in
        absurd (let b = earlier q.0 q.1 in let c = ap (λ (k : ℕ). (s.worker k).txn) a.1 in let d = a.2 in omega arith)
