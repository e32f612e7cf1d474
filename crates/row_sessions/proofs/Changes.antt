-- How sessions stand after a put, and after its refusal.
use Rattle.std.proofs.Common.{◌≡◌, ◌<◌, ◌≤◌, ℕ, suc, true, false, List, [], ◌∷◌, Option, refl, sym, ap, subst, ◌∙◌, arith, length}
use Rattle.std.specs.Prelude.{slice_set}
use Rattle.btree_descent.specs.core_state.Needs.{may}
use Rattle.btree_descent.specs.row_words.declared.event.Event.TheVariants as told
use Rattle.btree_descent.specs.row_words.Moments.{event_of}
use Rattle.btree_descent.specs.row_words.Openings.{opening}
use Rattle.btree_descent.specs.row_words.Sealed.{stepped, sets}
use Rattle.btree_descent.specs.rows_trait.declared.view.View.{View}
use Rattle.btree_descent.specs.rows_trait.Views.{after_all, state}
use Rattle.btree_descent.specs.log_record.declared.record.Record.{Record}
use Rattle.btree_descent.specs.draw_trait.Clocks.{Clock}
use Rattle.btree_descent.specs.declared.put.Put.{Put}
use Rattle.btree_descent.specs.declared.put.Put.TheVariants as put
use Rattle.btree_descent.specs.Puts.{Wrote, Changed, clock_in}
use Rattle.row_sessions.specs.declared.session.Session.{Session}
use Rattle.row_sessions.specs.Standing.{changed_session, session_at, AreSessions}
use Rattle.row_sessions.specs.Drawn.{clock_of}
use Rattle.row_sessions.proofs.Cores.{upd_here}
use Rattle.row_sessions.proofs.Standings.{ran_state, met_core, sessions_own}
use Rattle.row_sessions.proofs.Locks.{last_behind, none_core, miss_core}

-- one that is not done leaves the core
pub unput_core : (worker key word : ℕ) (v w : View) (rs now : List Record) (c : Clock) (p : Put) → ((before : Option ℕ) → p ≡ put.Done before → ⊥) → Wrote true worker key word v rs p w c now
    → (w.given ≡ v.given) × ((state w).core ≡ (state v).core)
unput_core worker key word v w rs now c (put.Done before) no_done d = absurd (no_done before refl)
unput_core worker key word v w rs now c (put.Full row) no_done d = none_core v w d.ran
unput_core worker key word v w rs now c (put.Cold page) no_done d = none_core v w d.ran
unput_core worker key word v w rs now c (put.Moved m) no_done d = miss_core v w worker d
unput_core worker key word v w rs now c (put.Latched l) no_done d = miss_core v w worker d
unput_core worker key word v w rs now c (put.RowSpent row) no_done d = none_core v w d
unput_core worker key word v w rs now c put.ClockSpent no_done d = none_core v w d.ran
unput_core worker key word v w rs now c (put.Unstaged u) no_done d = miss_core v w v.actor d.ran

change_sets : (w p k x c j : ℕ) → sets (told.Change w p k x) c j ≡ false
unfolding sets
change_sets w p k x c j = refl

pub changed_after : (v u : View) (n base w key word : ℕ) (xs : List Session) (drawn : Session) (before : Option ℕ) (rs now : List Record) → 0 < w → w ≤ n → AreSessions n base xs (state v)
    → Changed true w key word before v rs u (clock_of drawn) now → drawn.last ≡ drawn.clock → AreSessions n base (slice_set xs w (changed_session (session_at xs w) drawn)) (state u)
changed_after v u n base w key word xs drawn before rs now some among s d last =
    let e = told.Change w d.page key word in
    let past = last_behind v u d.past e d.ran d.seen in
    let met : may (opening v.given) (state v).core (event_of e) ≡ true = subst (λ es. may (opening v.given) (after_all v.given es).core (event_of e) ≡ true) past (subst (λ g. may (opening g) (after_all g d.past).core (event_of e) ≡ true) d.ran.given d.met) in
    let ran = ran_state v u (e ∷ []) d.ran in
    let a = s.each w among in
    let core = ap (λ c. c.worker w) (met_core v.given (state v) e met) ∙ upd_here (state v).core.worker w _ in
    let clock : clock_of drawn ≡ clock_in ((stepped v.given (state v) e).core.worker w) = d.clock ∙ ap (λ m. clock_in (m.core.worker w)) ran in
    subst (AreSessions n base (slice_set xs w (changed_session (session_at xs w) drawn))) (sym ran)
    (sessions_own v.given (state v) e n base w xs (changed_session (session_at xs w) drawn) refl refl (change_sets w d.page key word w 0) some among s (record {
      is_open = ap (λ y. y.is_open) core ∙ a.is_open;
      clock = sym (ap (λ y. y.clock) clock);
      floor = ap (λ y. y.floor) core ∙ a.floor;
      debt = sym (ap (λ y. y.debt) clock);
      txn = ap (λ y. y.txn) core ∙ a.txn;
      end = ap (λ y. y.end) core ∙ a.end;
      changes = ap (λ y. length y.changes) core ∙ (ap suc a.changes ∙ omega arith);
      low = a.low;
      last = omega arith;
    }))
