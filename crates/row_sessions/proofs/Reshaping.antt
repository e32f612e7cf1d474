-- How sessions stand after a change of the tree's structure, and after its refusal.
use Rattle.std.proofs.Common.{◌≡◌, ◌<◌, ◌≤◌, inl, inr, ℕ, suc, true, false, List, [], ◌∷◌, ◌++◌, refl, sym, ap, subst, ◌∙◌, arith, length, append-nil}
use Rattle.std.specs.Prelude.{slice_set, slice_index}
use Rattle.map_model.specs.Lists.{Has}
use Rattle.btree_descent.specs.image_model.Entries.{Entry}
use Rattle.btree_descent.proofs.core_commit.Lists.{least_le, le_least}
use Rattle.btree_descent.specs.core_state.States.{State, Worker, flushed_by_all}
use Rattle.btree_descent.specs.core_state.Needs.{may}
use Rattle.btree_descent.specs.core_state.Steps.{happens}
use Rattle.btree_descent.specs.row_words.declared.event.Event.{Event}
use Rattle.btree_descent.specs.row_words.declared.event.Event.TheVariants as told
use Rattle.btree_descent.specs.row_words.declared.given.Given.{Given}
use Rattle.btree_descent.specs.row_words.Moments.{Moment, event_of, actor_of, is_sync}
use Rattle.btree_descent.specs.row_words.Openings.{opening}
use Rattle.btree_descent.specs.row_words.Sealed.{begun, stepped, run, sets}
use Rattle.btree_descent.proofs.row_words.SealedLemmas.{run_append}
use Rattle.btree_descent.specs.rows_trait.declared.view.View.{View}
use Rattle.btree_descent.specs.rows_trait.Views.{Shape, after_all, state}
use Rattle.btree_descent.specs.rows_trait.Turns.{Ran}
use Rattle.btree_descent.specs.log_record.declared.record.Record.{Record}
use Rattle.btree_descent.specs.draw_trait.Clocks.{Clock}
use Rattle.btree_descent.specs.Puts.{Onward, clock_in}
use Rattle.btree_smo.specs.declared.outcome.Outcome.{Outcome}
use Rattle.btree_smo.specs.declared.outcome.Outcome.TheVariants as outcome
use Rattle.btree_smo.specs.Outcomes.{AreMisses, MissedUpTo, Changed}
use Rattle.btree_smo.specs.Lifts.{Lifted, Raised, lift_entry}
use Rattle.btree_smo.specs.Drops.{Dropped, Lowered, drop_entry}
use Rattle.btree_smo.specs.Splits.{Divided, Parted, split_entry}
use Rattle.btree_smo.specs.Joins.{Joined, Merged, join_entry}
use Rattle.btree_smo.specs.Purges.{Cleared, Declined, IsFloor}
use Rattle.row_sessions.specs.declared.session.Session.{Session}
use Rattle.row_sessions.specs.Standing.{drawn_session, session_at, AreSessions}
use Rattle.row_sessions.specs.Drawn.{clock_of}
use Rattle.row_sessions.proofs.Cores.{upd_here}
use Rattle.row_sessions.proofs.Standings.{ran_state, met_core, miss_same, sessions_core, sessions_own}

-- ## Refusals

misses_core : (v : Given) (m : Moment) (es : List Event) → AreMisses es → (run v m es).core ≡ m.core
misses_core v m [] a = refl
misses_core v m (told.Miss w ∷ es) a = misses_core v (stepped v m (told.Miss w)) es a ∙ miss_same v m w
misses_core v m (_ ∷ es) a = absurd a

-- misses leave the core
pub missed_core : (most : ℕ) (v w : View) → MissedUpTo most true v w → (w.given ≡ v.given) × ((state w).core ≡ (state v).core)
missed_core most v w d = (d.ran.given, ap (λ m. m.core) (ran_state v w d.events d.ran) ∙ misses_core v.given (state v) d.events d.misses)

pub unlifted_core : (worker frame : ℕ) (v w : View) (rs now : List Record) (c : Clock) (o : Outcome) → (o ≡ outcome.Done → ⊥) → Raised true worker frame v rs o w c now → (w.given ≡ v.given) × ((state w).core ≡ (state v).core)
unlifted_core worker frame v w rs now c outcome.Done other d = absurd (other refl)
unlifted_core worker frame v w rs now c (outcome.Full row) other d = absurd d
unlifted_core worker frame v w rs now c outcome.TooTall other d = missed_core 8 v w d.0
unlifted_core worker frame v w rs now c (outcome.Stale row) other d = missed_core 8 v w d.0
unlifted_core worker frame v w rs now c (outcome.Moved m) other d = missed_core 8 v w d
unlifted_core worker frame v w rs now c (outcome.Latched l) other d = missed_core 8 v w d
unlifted_core worker frame v w rs now c (outcome.RowSpent row) other d = missed_core 8 v w d
unlifted_core worker frame v w rs now c outcome.ClockSpent other d = missed_core 8 v w d.0
unlifted_core worker frame v w rs now c (outcome.Unstaged u) other d = missed_core 8 v w d.refused.missed

pub undivided_core : (worker a b q : ℕ) (v w : View) (rs now : List Record) (c : Clock) (o : Outcome) → (o ≡ outcome.Done → ⊥) → Parted true worker a b q v rs o w c now → (w.given ≡ v.given) × ((state w).core ≡ (state v).core)
undivided_core worker a b q v w rs now c outcome.Done other d = absurd (other refl)
undivided_core worker a b q v w rs now c (outcome.Full row) other d = missed_core 8 v w d.0
undivided_core worker a b q v w rs now c outcome.TooTall other d = absurd d
undivided_core worker a b q v w rs now c (outcome.Stale row) other d = missed_core 8 v w d.0
undivided_core worker a b q v w rs now c (outcome.Moved m) other d = missed_core 8 v w d
undivided_core worker a b q v w rs now c (outcome.Latched l) other d = missed_core 8 v w d
undivided_core worker a b q v w rs now c (outcome.RowSpent row) other d = missed_core 8 v w d
undivided_core worker a b q v w rs now c outcome.ClockSpent other d = missed_core 8 v w d.0
undivided_core worker a b q v w rs now c (outcome.Unstaged u) other d = missed_core 8 v w d.refused.missed

pub undropped_core : (worker frame : ℕ) (v w : View) (rs now : List Record) (c : Clock) (o : Outcome) → (o ≡ outcome.Done → ⊥) → Lowered true worker frame v rs o w c now → (w.given ≡ v.given) × ((state w).core ≡ (state v).core)
undropped_core worker frame v w rs now c outcome.Done other d = absurd (other refl)
undropped_core worker frame v w rs now c (outcome.Full row) other d = absurd d
undropped_core worker frame v w rs now c outcome.TooTall other d = absurd d
undropped_core worker frame v w rs now c (outcome.Stale row) other d = missed_core 8 v w d.0
undropped_core worker frame v w rs now c (outcome.Moved m) other d = missed_core 8 v w d
undropped_core worker frame v w rs now c (outcome.Latched l) other d = missed_core 8 v w d
undropped_core worker frame v w rs now c (outcome.RowSpent row) other d = missed_core 8 v w d
undropped_core worker frame v w rs now c outcome.ClockSpent other d = missed_core 8 v w d.0
undropped_core worker frame v w rs now c (outcome.Unstaged u) other d = missed_core 8 v w d.refused.missed

pub unjoined_core : (worker a b q : ℕ) (v w : View) (rs now : List Record) (c : Clock) (o : Outcome) → (o ≡ outcome.Done → ⊥) → Merged true worker a b q v rs o w c now → (w.given ≡ v.given) × ((state w).core ≡ (state v).core)
unjoined_core worker a b q v w rs now c outcome.Done other d = absurd (other refl)
unjoined_core worker a b q v w rs now c (outcome.Full row) other d = missed_core 8 v w d.0
unjoined_core worker a b q v w rs now c outcome.TooTall other d = absurd d
unjoined_core worker a b q v w rs now c (outcome.Stale row) other d = missed_core 8 v w d.0
unjoined_core worker a b q v w rs now c (outcome.Moved m) other d = missed_core 8 v w d
unjoined_core worker a b q v w rs now c (outcome.Latched l) other d = missed_core 8 v w d
unjoined_core worker a b q v w rs now c (outcome.RowSpent row) other d = missed_core 8 v w d
unjoined_core worker a b q v w rs now c outcome.ClockSpent other d = missed_core 8 v w d.0
unjoined_core worker a b q v w rs now c (outcome.Unstaged u) other d = missed_core 8 v w d.refused.missed

pub declined_core : (worker frame : ℕ) (v w : View) (rs now : List Record) (c : Clock) (o : Outcome) → Declined true worker frame v rs o w c now → (w.given ≡ v.given) × ((state w).core ≡ (state v).core)
declined_core worker frame v w rs now c outcome.Done d = absurd d
declined_core worker frame v w rs now c (outcome.Full row) d = absurd d
declined_core worker frame v w rs now c outcome.TooTall d = absurd d
declined_core worker frame v w rs now c (outcome.Stale row) d = missed_core 61 v w d.0
declined_core worker frame v w rs now c (outcome.Moved m) d = missed_core 61 v w d
declined_core worker frame v w rs now c (outcome.Latched l) d = missed_core 61 v w d
declined_core worker frame v w rs now c (outcome.RowSpent row) d = missed_core 61 v w d
declined_core worker frame v w rs now c outcome.ClockSpent d = missed_core 61 v w d.0
declined_core worker frame v w rs now c (outcome.Unstaged u) d = missed_core 61 v w d.missed

-- ## Changes

-- what stays of a worker that made a change of the structure
record Keeps (a b : Worker) : Type 0 where
  is_open : b.is_open ≡ a.is_open
  floor : b.floor ≡ a.floor
  txn : b.txn ≡ a.txn
  end : b.end ≡ a.end
  changes : length b.changes ≡ length a.changes

-- the event was appended where it was met, and misses behind it; the draw has the clock that its worker has then
record Made (v u : View) (w : ℕ) (e : Event) (c : Clock) : Type 0 where
  past : List Event
  onward : Onward true v past
  misses : List Event
  ran : Ran true v (e ∷ misses) u
  only : AreMisses misses
  met : may (opening u.given) (after_all u.given past).core (event_of e) ≡ true
  clock : c ≡ clock_in ((after_all u.given (past ++ e ∷ [])).core.worker w)

changed_made : (v u : View) (w : ℕ) (e : Event) (entry : State → Entry) (rs now : List Record) (c : Clock) → Changed true w e entry v rs u c now → Made v u w e c
changed_made v u w e entry rs now c d = record { past = d.past; onward = d.onward; misses = []; ran = d.ran; only = tt; met = d.met; clock = d.clock }

cleared_made : (v u : View) (w frame most : ℕ) (rs now : List Record) (c : Clock) (d : Cleared true w frame most v rs u c now) → Made v u w (told.Purge w d.page d.keys) c
cleared_made v u w frame most rs now c d = record { past = d.past; onward = d.onward; misses = d.misses; ran = d.ran; only = d.only.0; met = d.met; clock = d.clock }

module _ (v u : View) (n base w : ℕ) (xs : List Session) (drawn : Session) (some : 0 < w) (among : w ≤ n) (s : AreSessions n base xs (state v)) (e : Event) (d : Made v u w e (clock_of drawn)) where
  -- where nobody else steps, it came right behind what had been seen
  past_is : d.past ≡ v.seen
  past_is = d.onward.whole ∙ (ap (λ es. v.seen ++ es) (d.onward.quiet refl) ∙ append-nil v.seen)

  met : may (opening v.given) (state v).core (event_of e) ≡ true
  met = subst (λ es. may (opening v.given) (after_all v.given es).core (event_of e) ≡ true) past_is (subst (λ (g : Given). may (opening g) (after_all g d.past).core (event_of e) ≡ true) d.ran.given d.met)

  clock : clock_of drawn ≡ clock_in ((stepped v.given (state v) e).core.worker w)
  clock = d.clock ∙ ((λ i. clock_in ((after_all (d.ran.given i) (past_is i ++ e ∷ [])).core.worker w)) ∙ ap (λ m. clock_in (m.core.worker w)) (run_append v.given (begun v.given) v.seen (e ∷ [])))

  -- the misses behind it changed nothing
  last_core : (state u).core ≡ (stepped v.given (state v) e).core
  last_core = ap (λ m. m.core) (ran_state v u (e ∷ d.misses) d.ran) ∙ misses_core v.given (stepped v.given (state v) e) d.misses d.only

  after : actor_of e ≡ w → is_sync e ≡ false → sets e w 0 ≡ false → drawn.last ≡ drawn.clock → Keeps ((state v).core.worker w) ((happens (opening v.given) (state v).core (event_of e)).worker w)
      → AreSessions n base (slice_set xs w (drawn_session (session_at xs w) drawn)) (state u)
  after who part off last keeps =
      let a = s.each w among in
      let core : (stepped v.given (state v) e).core.worker w ≡ (happens (opening v.given) (state v).core (event_of e)).worker w = ap (λ c. c.worker w) (met_core v.given (state v) e met) in
      sessions_core n base (slice_set xs w (drawn_session (session_at xs w) drawn)) (stepped v.given (state v) e) (state u) last_core
      (sessions_own v.given (state v) e n base w xs (drawn_session (session_at xs w) drawn) who part off some among s (record {
        is_open = ap (λ y. y.is_open) core ∙ (keeps.is_open ∙ a.is_open);
        clock = sym (ap (λ y. y.clock) clock);
        floor = ap (λ y. y.floor) core ∙ (keeps.floor ∙ a.floor);
        debt = sym (ap (λ y. y.debt) clock);
        txn = ap (λ y. y.txn) core ∙ (keeps.txn ∙ a.txn);
        end = ap (λ y. y.end) core ∙ (keeps.end ∙ a.end);
        changes = ap (λ y. length y.changes) core ∙ (keeps.changes ∙ a.changes);
        low = a.low;
        last = omega arith;
      }))

lift_sets : (w p c j : ℕ) → sets (told.Lift w p) c j ≡ false
unfolding sets
lift_sets w p c j = refl

split_sets : (w l r q i c j : ℕ) → sets (told.Split w l r q i) c j ≡ false
unfolding sets
split_sets w l r q i c j = refl

drop_sets : (w p c j : ℕ) → sets (told.Drop w p) c j ≡ false
unfolding sets
drop_sets w p c j = refl

join_sets : (w l r q c j : ℕ) → sets (told.Join w l r q) c j ≡ false
unfolding sets
join_sets w l r q c j = refl

purge_sets : (w p : ℕ) (keys : List ℕ) (c j : ℕ) → sets (told.Purge w p keys) c j ≡ false
unfolding sets
purge_sets w p keys c j = refl

pub lifted_after : (v u : View) (n base w frame : ℕ) (xs : List Session) (drawn : Session) (rs now : List Record) → 0 < w → w ≤ n → AreSessions n base xs (state v)
    → Lifted true w frame v rs u (clock_of drawn) now → drawn.last ≡ drawn.clock → AreSessions n base (slice_set xs w (drawn_session (session_at xs w) drawn)) (state u)
lifted_after v u n base w frame xs drawn rs now some among s d last =
    let e = told.Lift w d.page in
    let core = upd_here (state v).core.worker w _ in
    after v u n base w xs drawn some among s e (changed_made v u w e (lift_entry w d.page) rs now (clock_of drawn) d.change) refl refl (lift_sets w d.page w 0) last (record {
      is_open = ap (λ y. y.is_open) core;
      floor = ap (λ y. y.floor) core;
      txn = ap (λ y. y.txn) core;
      end = ap (λ y. y.end) core;
      changes = ap (λ y. length y.changes) core;
    })

pub divided_after : (v u : View) (n base w a b q : ℕ) (xs : List Session) (drawn : Session) (rs now : List Record) → 0 < w → w ≤ n → AreSessions n base xs (state v)
    → Divided true w a b q v rs u (clock_of drawn) now → drawn.last ≡ drawn.clock → AreSessions n base (slice_set xs w (drawn_session (session_at xs w) drawn)) (state u)
divided_after v u n base w a b q xs drawn rs now some among s d last =
    let e = told.Split w d.left d.right d.parent 30 in
    let core = upd_here (state v).core.worker w _ in
    after v u n base w xs drawn some among s e (changed_made v u w e (split_entry w d.left d.right d.parent) rs now (clock_of drawn) d.change) refl refl (split_sets w d.left d.right d.parent 30 w 0) last (record {
      is_open = ap (λ y. y.is_open) core;
      floor = ap (λ y. y.floor) core;
      txn = ap (λ y. y.txn) core;
      end = ap (λ y. y.end) core;
      changes = ap (λ y. length y.changes) core;
    })

pub dropped_after : (v u : View) (n base w frame : ℕ) (xs : List Session) (drawn : Session) (rs now : List Record) → 0 < w → w ≤ n → AreSessions n base xs (state v)
    → Dropped true w frame v rs u (clock_of drawn) now → drawn.last ≡ drawn.clock → AreSessions n base (slice_set xs w (drawn_session (session_at xs w) drawn)) (state u)
dropped_after v u n base w frame xs drawn rs now some among s d last =
    let e = told.Drop w d.page in
    let core = upd_here (state v).core.worker w _ in
    after v u n base w xs drawn some among s e (changed_made v u w e (drop_entry w d.page) rs now (clock_of drawn) d.change) refl refl (drop_sets w d.page w 0) last (record {
      is_open = ap (λ y. y.is_open) core;
      floor = ap (λ y. y.floor) core;
      txn = ap (λ y. y.txn) core;
      end = ap (λ y. y.end) core;
      changes = ap (λ y. length y.changes) core;
    })

pub joined_after : (v u : View) (n base w a b q : ℕ) (xs : List Session) (drawn : Session) (rs now : List Record) → 0 < w → w ≤ n → AreSessions n base xs (state v)
    → Joined true w a b q v rs u (clock_of drawn) now → drawn.last ≡ drawn.clock → AreSessions n base (slice_set xs w (drawn_session (session_at xs w) drawn)) (state u)
joined_after v u n base w a b q xs drawn rs now some among s d last =
    let e = told.Join w d.left d.right d.parent in
    let core = upd_here (state v).core.worker w _ in
    after v u n base w xs drawn some among s e (changed_made v u w e (join_entry w d.left d.right d.parent) rs now (clock_of drawn) d.change) refl refl (join_sets w d.left d.right d.parent w 0) last (record {
      is_open = ap (λ y. y.is_open) core;
      floor = ap (λ y. y.floor) core;
      txn = ap (λ y. y.txn) core;
      end = ap (λ y. y.end) core;
      changes = ap (λ y. length y.changes) core;
    })

pub cleared_after : (v u : View) (n base w frame most : ℕ) (xs : List Session) (drawn : Session) (rs now : List Record) → 0 < w → w ≤ n → AreSessions n base xs (state v)
    → Cleared true w frame most v rs u (clock_of drawn) now → drawn.last ≡ drawn.clock → AreSessions n base (slice_set xs w (drawn_session (session_at xs w) drawn)) (state u)
cleared_after v u n base w frame most xs drawn rs now some among s d last =
    let e = told.Purge w d.page d.keys in
    let core = upd_here (state v).core.worker w _ in
    after v u n base w xs drawn some among s e (cleared_made v u w frame most rs now (clock_of drawn) d) refl refl (purge_sets w d.page d.keys w 0) last (record {
      is_open = ap (λ y. y.is_open) core;
      floor = ap (λ y. y.floor) core;
      txn = ap (λ y. y.txn) core;
      end = ap (λ y. y.end) core;
      changes = ap (λ y. length y.changes) core;
    })

-- ## The floor of a purge

-- no log is flushed beyond the base
pub base_floor : (z : Shape) (v : View) (n base : ℕ) (xs : List Session) → 0 < n → (opening v.given).workers ≡ n → AreSessions n base xs (state v) → IsFloor z v base
base_floor z v n base xs some workers s = record { low = λ u pos le. let e = flushed u pos le in omega arith; exact = λ alone. is }
  where
    flushed : (u : ℕ) → 0 < u → u ≤ (opening v.given).workers → (state v).core.flushed u ≡ base
    flushed u pos le = s.flushed u pos (subst (λ k. u ≤ k) workers le)

    is : base ≡ flushed_by_all (opening v.given) (state v).core
    is =
        let low = le_least (state v).core.flushed (opening v.given).workers base (omega arith) (λ i h. let e = flushed i h.0 h.1 in omega arith) in
        let high = least_le (state v).core.flushed (opening v.given).workers 1 (omega arith, omega arith) in
        let e = flushed 1 (omega arith) (omega arith) in
        omega arith

-- ## Paths

-- a bound of each index is one of all that the list has
pub has_below : (n : ℕ) (xs : List ℕ) → ((k : ℕ) → k < length xs → slice_index xs k < n) → (f : ℕ) → Has f xs → f < n
has_below n [] each f has = absurd has
has_below n (x ∷ xs) each f (inl is) = subst (λ y. y < n) (sym is) (each 0 (omega arith))
has_below n (x ∷ xs) each f (inr has) = has_below n xs (λ k lt. each (suc k) (omega arith)) f has
