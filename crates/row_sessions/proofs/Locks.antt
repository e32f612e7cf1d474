-- How sessions stand after a lock, and after its refusal.
use Rattle.std.proofs.Common.{◌≡◌, ◌<◌, ◌≤◌, ℕ, true, false, List, [], ◌∷◌, ◌++◌, refl, sym, ap, subst, ◌∙◌}
use Rattle.std.proofs.lemmas.List.{append_cancel_right}
use Rattle.std.specs.Prelude.{slice_set}
use Rattle.btree_descent.specs.core_state.States.{Worker, Row}
use Rattle.btree_descent.specs.core_state.Needs.{may}
use Rattle.btree_descent.specs.core_state.Steps as core
use Rattle.btree_descent.specs.row_words.declared.event.Event.{Event}
use Rattle.btree_descent.specs.row_words.declared.event.Event.TheVariants as told
use Rattle.btree_descent.specs.row_words.declared.event.Mode as told_mode
use Rattle.btree_descent.specs.row_words.Moments.{event_of}
use Rattle.btree_descent.specs.row_words.Openings.{opening}
use Rattle.btree_descent.specs.row_words.Sealed.{stepped, sets}
use Rattle.btree_descent.specs.rows_trait.declared.view.View.{View}
use Rattle.btree_descent.specs.rows_trait.Views.{after_all, state}
use Rattle.btree_descent.specs.rows_trait.Turns.{Ran}
use Rattle.key_locks.specs.declared.mode.Mode.{Mode}
use Rattle.key_locks.specs.declared.locking.Stamp.{Stamp}
use Rattle.key_locks.specs.declared.locking.Refusal.{Refusal}
use Rattle.key_locks.specs.declared.locking.Refusal.TheVariants as refusal
use Rattle.key_locks.specs.Rows.{event_mode}
use Rattle.key_locks.specs.Locking.{HasLock, Refuses, IsStamp}
use Rattle.row_sessions.specs.declared.session.Session.{Session}
use Rattle.row_sessions.specs.Standing.{IsOf, session_at, AreSessions}
use Rattle.row_sessions.proofs.Cores.{upd_here}
use Rattle.row_sessions.proofs.Standings.{ran_state, met_core, miss_same, sessions_own}

-- where nobody else steps what was appended last came right behind what had been seen
pub last_behind : (v w : View) (past : List Event) (e : Event) → Ran true v (e ∷ []) w → w.seen ≡ past ++ e ∷ [] → past ≡ v.seen
last_behind v w past e r at = append_cancel_right past v.seen (e ∷ []) (sym at ∙ (r.seen ∙ ap (λ y. v.seen ++ y) (r.all refl)))

-- over events that change nothing
pub none_core : (v w : View) → Ran true v [] w → (w.given ≡ v.given) × ((state w).core ≡ (state v).core)
none_core v w r = (r.given, ap (λ m. m.core) (ran_state v w [] r))

pub miss_core : (v w : View) (a : ℕ) → Ran true v (told.Miss a ∷ []) w → (w.given ≡ v.given) × ((state w).core ≡ (state v).core)
miss_core v w a r = (r.given, ap (λ m. m.core) (ran_state v w (told.Miss a ∷ []) r) ∙ miss_same v.given (state v) a)

pub refused_core : (worker row i : ℕ) (mode : Mode) (v w : View) (r : Refusal) → Refuses true worker row i mode v r w → (w.given ≡ v.given) × ((state w).core ≡ (state v).core)
refused_core worker row i mode v w (refusal.Conflict b) d = none_core v w d.ran
refused_core worker row i mode v w (refusal.Moved m) d = miss_core v w worker d.ran
refused_core worker row i mode v w (refusal.Latched l) d = miss_core v w worker d.ran
refused_core worker row i mode v w (refusal.RowSpent q) d = none_core v w d.ran

lock_sets : (w i c j : ℕ) (mode : told_mode.Mode) → sets (told.Lock w i mode) c j ≡ false
unfolding sets
lock_sets w i c j mode = refl

pub lock_after : (v u : View) (n base w i : ℕ) (xs : List Session) (x : Session) (mode : Mode) (stamp : Stamp) → 0 < w → w ≤ n → AreSessions n base xs (state v) → HasLock true w i mode v stamp u
    → ((b : ℕ) (a : Worker) (o : Row) → IsOf b (session_at xs w) a → IsStamp o stamp → IsOf b x (core.at_row w a o)) → AreSessions n base (slice_set xs w x) (state u)
lock_after v u n base w i xs x mode stamp some among s h to =
    let e = told.Lock w i (event_mode mode) in
    let p = h.published in
    let past = last_behind v u (v.seen ++ p.between) e p.ran p.seen in
    let met : may (opening v.given) (state v).core (event_of e) ≡ true = subst (λ es. may (opening v.given) (after_all v.given es).core (event_of e) ≡ true) past p.met in
    let was : (state v).core.row i ≡ h.row = subst (λ es. (after_all v.given es).core.row i ≡ h.row) past p.was in
    let worker : (stepped v.given (state v) e).core.worker w ≡ core.at_row w ((state v).core.worker w) ((state v).core.row i) = ap (λ c. c.worker w) (met_core v.given (state v) e met) ∙ upd_here (state v).core.worker w _ in
    subst (AreSessions n base (slice_set xs w x)) (sym (ran_state v u (e ∷ []) p.ran))
    (sessions_own v.given (state v) e n base w xs x refl refl (lock_sets w i w 0 (event_mode mode)) some among s
    (subst (IsOf base x) (sym worker) (to base ((state v).core.worker w) ((state v).core.row i) (s.each w among) (subst (λ o. IsStamp o stamp) (sym was) h.stamped))))
