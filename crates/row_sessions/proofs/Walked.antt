-- How sessions stand after a walk, and what it owes.
use Rattle.std.proofs.Common.{◌≡◌, ◌<◌, ◌≤◌, ◌==◌, ◌||◌, ◌%◌, ℕ, zero, suc, Bool, true, false, List, [], ◌∷◌, ◌++◌, length, get_or, refl, sym, ap, subst, ◌∙◌, true≢false, arith}
use Rattle.std.proofs.lemmas.Bool.{eqb-true}
use Rattle.std.specs.List.{list_any}
use Rattle.std.specs.Prelude.{slice_set}
use Rattle.map_model.specs.Maps.{MapAnswer}
use Rattle.btree_descent.specs.core_state.Openings.{Opening}
use Rattle.btree_descent.specs.core_state.States.{State}
use Rattle.btree_descent.specs.core_state.Needs.{may}
use Rattle.btree_descent.specs.core_state.Steps as core
use Rattle.btree_descent.specs.row_words.declared.event.Event.TheVariants as told
use Rattle.btree_descent.specs.row_words.declared.event.Met.{Met}
use Rattle.btree_descent.specs.row_words.declared.event.Met.TheVariants as met
use Rattle.btree_descent.specs.row_words.Moments.{event_of, met_of}
use Rattle.btree_descent.specs.row_words.Openings.{opening}
use Rattle.btree_descent.specs.row_words.Sealed.{stepped, sets}
use Rattle.btree_descent.specs.rows_trait.declared.view.View.{View}
use Rattle.btree_descent.specs.rows_trait.Views.{after_all, state}
use Rattle.btree_descent.specs.declared.next.Following.{Following}
use Rattle.btree_descent.specs.declared.next.Following.TheVariants as following
use Rattle.btree_descent.specs.declared.next.Stamp.{Stamp}
use Rattle.btree_descent.specs.Nexts.{IsWalked, Walked}
use Rattle.row_sessions.specs.declared.session.Session.{Session}
use Rattle.row_sessions.specs.Standing.{AreSessions, session_at, touched_session}
use Rattle.row_sessions.proofs.Cores.{upd_here}
use Rattle.row_sessions.proofs.Standings.{ran_state, met_core, sessions_own}
use Rattle.row_sessions.proofs.Locks.{last_behind, miss_core, none_core}

-- a key that is listed stands at a place
pub listed_at : (k : ℕ) (xs : List ℕ) → list_any (λ y. y == k) xs ≡ true → (i : ℕ) × (i < length xs) × (get_or xs i 0 ≡ k)
listed_at k [] h = absurd (true≢false (sym h))
listed_at k (x ∷ xs) h = go (x == k) refl (listed_at k xs)
  where
    go : (b : Bool) → (x == k) ≡ b → (list_any (λ y. y == k) xs ≡ true → (i : ℕ) × (i < length xs) × (get_or xs i 0 ≡ k)) → (i : ℕ) × (i < suc (length xs)) × (get_or (x ∷ xs) i 0 ≡ k)
    go true e rest = (0, omega arith, eqb-true x k e)
    go false e rest = let r = rest (ap (λ b. b || list_any (λ y. y == k) xs) (sym e) ∙ h) in (suc r.0, (let l = r.1 in omega arith), r.2)

-- a walk touches its page
walk_worker : (g : Opening) (s : State) (w p k : ℕ) (a : Met) → (core.happens g s (Rattle.btree_descent.specs.core_state.Events.Event.Next w p k (met_of a))).worker w ≡ core.at_pages s w (s.worker w) (p ∷ [])
walk_worker g s w p k (met.Pair j x) = upd_here s.worker w _
walk_worker g s w p k (met.Gap h) = upd_here s.worker w _

next_sets : (w p k c j : ℕ) (a : Met) → sets (told.Next w p k a) c j ≡ false
unfolding sets
next_sets w p k c j a = refl

pub walked_after : (v u : View) (n base w key : ℕ) (locked : ℕ → Type 0) (xs : List Session) (a : Met) (stamp : Stamp) → 0 < w → w ≤ n → AreSessions n base xs (state v)
    → Walked true w key locked a stamp v u → AreSessions n base (slice_set xs w (touched_session w (session_at xs w) stamp.number stamp.log)) (state u)
walked_after v u n base w key locked xs a stamp some among s d =
    let e = told.Next w d.page key a in
    let past = last_behind v u d.past e d.ran d.whole in
    let met : may (opening v.given) (state v).core (event_of e) ≡ true = subst (λ es. may (opening v.given) (after_all v.given es).core (event_of e) ≡ true) past (subst (λ g. may (opening g) (after_all g d.past).core (event_of e) ≡ true) d.ran.given d.was_met) in
    let ran = ran_state v u (e ∷ []) d.ran in
    let o = s.each w among in
    let number : stamp.number ≡ ((state v).core.page d.page).gsn = d.number ∙ (λ i. ((after_all (d.ran.given i) (past i)).core.page d.page).gsn) in
    let log : stamp.log ≡ ((state v).core.page d.page).last = d.log ∙ (λ i. ((after_all (d.ran.given i) (past i)).core.page d.page).last) in
    let worker = ap (λ c. c.worker w) (met_core v.given (state v) e met) ∙ walk_worker (opening v.given) (state v).core w d.page key a in
    subst (AreSessions n base (slice_set xs w (touched_session w (session_at xs w) stamp.number stamp.log))) (sym ran)
    (sessions_own v.given (state v) e n base w xs (touched_session w (session_at xs w) stamp.number stamp.log) refl refl (next_sets w d.page key w 0 a) some among s (record {
      is_open = ap (λ y. y.is_open) worker ∙ o.is_open;
      clock = ap (λ y. y.clock) worker ∙ (λ i. Rattle.std.specs.Prelude.max (o.clock i) (sym number i));
      floor = ap (λ y. y.floor) worker ∙ o.floor;
      debt = ap (λ y. y.debt) worker ∙ (λ i. Rattle.rfa_model.specs.Stamps.owed w (o.floor i) (o.debt i) (sym number i) (sym log i));
      txn = ap (λ y. y.txn) worker ∙ o.txn;
      end = ap (λ y. y.end) worker ∙ o.end;
      changes = ap (λ y. length y.changes) worker ∙ o.changes;
      low = o.low;
      last = let l = o.last in omega arith;
    }))

-- one that met neither a pair nor a gap leaves the core
pub unwalked_core : (worker key : ℕ) (locked : ℕ → Type 0) (v w : View) (n : Following) → ((k x : ℕ) (s : Stamp) → n ≡ following.Pair k x s → ⊥) → ((h : ℕ) (s : Stamp) → n ≡ following.Gap h s → ⊥) → IsWalked true worker key locked v n w
    → (w.given ≡ v.given) × ((state w).core ≡ (state v).core)
unwalked_core worker key locked v w (following.Pair k x s) no_pair no_gap d = absurd (no_pair k x s refl)
unwalked_core worker key locked v w (following.Gap h s) no_pair no_gap d = absurd (no_gap h s refl)
unwalked_core worker key locked v w (following.Unlocked at) no_pair no_gap d = none_core v w d.ran
unwalked_core worker key locked v w (following.Cold p) no_pair no_gap d = none_core v w d.ran
unwalked_core worker key locked v w (following.Moved m) no_pair no_gap d = miss_core v w worker d
unwalked_core worker key locked v w (following.Latched l) no_pair no_gap d = miss_core v w worker d
