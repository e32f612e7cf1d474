-- How sessions stand after a step.
use Rattle.std.proofs.Common.{inl, inr, ◌≡◌, ◌<◌, ◌≤◌, ℕ, zero, suc, true, false, List, [], ◌++◌, Option, refl, sym, ap, subst, ◌∙◌, arith, append-nil, replicate}
use Rattle.std.proofs.lemmas.List.{length-set, get_or-set_same, get_or-set_other}
use Rattle.std.proofs.lemmas.Bool.{cases_eq}
use Rattle.std.specs.Prelude.{slice_set}
use Rattle.btree_descent.specs.core_state.Needs.{may}
use Rattle.btree_descent.specs.core_state.Steps.{happens}
use Rattle.btree_descent.specs.row_words.declared.event.Event.{Event}
use Rattle.btree_descent.specs.row_words.declared.event.Event.TheVariants as told
use Rattle.btree_descent.specs.row_words.declared.given.Given.{Given}
use Rattle.btree_descent.specs.row_words.Moments.{Moment, event_of, actor_of, is_sync}
use Rattle.btree_descent.specs.row_words.Openings.{opening}
use Rattle.btree_descent.specs.row_words.Sealed.{begun, stepped, run, heard, sets}
use Rattle.btree_descent.proofs.row_words.SealedLemmas.{run_append, heard_stays}
use Rattle.btree_descent.proofs.row_words.Controls.{every_own}
use Rattle.btree_descent.specs.rows_trait.Plain.{sizes}
use Rattle.btree_descent.specs.rows_trait.Rule.{IsPicture, plan}
use Rattle.btree_descent.specs.rows_trait.declared.view.View.{View}
use Rattle.btree_descent.specs.rows_trait.declared.plain.PlainRows.{PlainRows}
use Rattle.btree_descent.specs.rows_trait.Views.{Shape, after_all, state, no_place}
use Rattle.btree_descent.specs.rows_trait.Turns.{Goes, Ran}
use Rattle.btree_descent.specs.Known.{IsSound}
use Rattle.key_locks.specs.Rows as lock_rows
use Rattle.row_sessions.specs.declared.session.Session.{Session}
use Rattle.row_sessions.specs.declared.sessions.Sessions.{Sessions}
use Rattle.row_sessions.specs.Standing.{IsOf, no_session, session_at, AreSessions, Stands}
use Rattle.row_sessions.proofs.Cores.{steps_met, steps_unmet, read_unmet}

-- ## Views

-- where nobody else steps, the state after is the state before and the seat's own events
pub ran_state : (v w : View) (es : List Event) → Ran true v es w → state w ≡ run v.given (state v) es
ran_state v w es r = (λ i. after_all (r.given i) (r.seen i)) ∙ (run_append v.given (begun v.given) v.seen r.more ∙ ap (λ ys. run v.given (state v) ys) (r.all refl))

pub goes_state : (z : Shape) (v w : View) (es : List Event) → z.alone ≡ true → Goes z v es w → state w ≡ run v.given (state v) es
goes_state z v w es alone g =
    (λ i. after_all (g.given i) (g.seen i))
    ∙ (ap (λ ys. after_all v.given ((v.seen ++ ys) ++ es)) (g.quiet alone)
    ∙ (ap (λ ys. after_all v.given (ys ++ es)) (append-nil v.seen) ∙ run_append v.given (begun v.given) v.seen es))

-- ## Steps

-- what an event makes of the core, where its need is met
pub met_core : (v : Given) (m : Moment) (e : Event) → may (opening v) m.core (event_of e) ≡ true → (stepped v m e).core ≡ happens (opening v) m.core (event_of e)
unfolding stepped
met_core v m e h = steps_met (opening v) m.core (event_of e) h

-- a miss changes nothing, nor does a read of one that is not open
pub miss_same : (v : Given) (m : Moment) (a : ℕ) → (stepped v m (told.Miss a)).core ≡ m.core
unfolding stepped
miss_same v m a = refl

pub read_same : (v : Given) (m : Moment) (a p k : ℕ) (x : Option ℕ) → (m.core.worker a).is_open ≡ false → (stepped v m (told.Read a p k x)).core ≡ m.core
unfolding stepped
read_same v m a p k x closed = steps_unmet (opening v) m.core (event_of (told.Read a p k x)) (read_unmet (opening v) m.core a p k x closed)

-- ## Sessions

-- they speak of workers and flushed numbers alone
pub sessions_kept : (n base : ℕ) (xs : List Session) (m u : Moment) → u.core.worker ≡ m.core.worker → u.core.flushed ≡ m.core.flushed → AreSessions n base xs m → AreSessions n base xs u
sessions_kept n base xs m u worker flushed s = record {
  count = s.count;
  each = λ w le. subst (λ f. IsOf base (session_at xs w) (f w)) (sym worker) (s.each w le);
  idle = subst (λ f. (f 0).is_open ≡ false) (sym worker) s.idle;
  flushed = λ w some le. subst (λ f. f w ≡ base) (sym flushed) (s.flushed w some le);
}

pub sessions_core : (n base : ℕ) (xs : List Session) (m u : Moment) → u.core ≡ m.core → AreSessions n base xs m → AreSessions n base xs u
sessions_core n base xs m u e s = sessions_kept n base xs m u (ap (λ c. c.worker) e) (ap (λ c. c.flushed) e) s

-- an event of worker w that does not flush: the others stay
pub sessions_own : (v : Given) (m : Moment) (e : Event) (n base w : ℕ) (xs : List Session) (x : Session) → actor_of e ≡ w → is_sync e ≡ false → sets e w 0 ≡ false → 0 < w → w ≤ n
    → AreSessions n base xs m → IsOf base x ((stepped v m e).core.worker w) → AreSessions n base (slice_set xs w x) (stepped v m e)
unfolding stepped heard
sessions_own v m e n base w xs x who part off some le s is = record {
  count = length-set xs w x ∙ s.count;
  each = λ u lt. elim (cases_eq u w) [
    | inl same ↦ let at : session_at (slice_set xs w x) u ≡ x = ap (session_at (slice_set xs w x)) same ∙ get_or-set_same xs w x no_session (let c = s.count in omega arith) in
        subst (λ y. IsOf base y ((stepped v m e).core.worker u)) (sym at) (subst (λ y. IsOf base x ((stepped v m e).core.worker y)) (sym same) is)
    | inr ne ↦ let at : session_at (slice_set xs w x) u ≡ session_at xs u = get_or-set_other xs w u x no_session ne in
        subst (λ y. IsOf base y ((stepped v m e).core.worker u)) (sym at) (subst (λ y. IsOf base (session_at xs u) y) (sym (every_own (opening v) m e u (λ a. ne (sym a ∙ who)) part).worker) (s.each u lt))
  ];
  idle = ap (λ y. y.is_open) (every_own (opening v) m e 0 (λ a. absurd (let b = sym a ∙ who in omega arith)) part).worker ∙ s.idle;
  flushed = λ u pos lt. elim (cases_eq u w) [
    | inl same ↦ here u pos same ∙ s.flushed u pos lt
    | inr ne ↦ (every_own (opening v) m e u (λ a. ne (sym a ∙ who)) part).flushed ∙ s.flushed u pos lt
  ];
}
  where
    here : (u : ℕ) → 0 < u → u ≡ w → (stepped v m e).core.flushed u ≡ m.core.flushed u
    here zero pos same = absurd (omega arith)
    here (suc u) pos same = heard_stays v m e (suc u) 0 (subst (λ y. sets e y 0 ≡ false) (sym same) off)

-- ## All of it

-- the shape of plain rows
abbrev pub shape_of : PlainRows → Shape
shape_of r = record { sizes = sizes r.frames r.locks r.workers; alone = true; place = no_place }

pub stands_then : (s t : Sessions) → Stands s → shape_of t.rows ≡ shape_of s.rows → t.frames ≡ s.frames → t.locks ≡ s.locks → t.base ≡ s.base
    → IsPicture (plan (sizes t.rows.frames t.rows.locks t.rows.workers) t.seat.view.given) t.rows.words.items t.seat.view → t.seat.view.held ≡ [] → t.seat.view.given ≡ s.seat.view.given → t.latches ≡ s.latches
    → AreSessions s.rows.workers s.base t.sessions.items (state t.seat.view) → Stands t
stands_then s t st shape frames locks base picture held given marks sessions = record {
  picture = picture;
  held = held;
  sized = record {
    frames = ap (λ z. z.sizes.frames) shape ∙ (st.sized.frames ∙ sym frames);
    locks = ap (λ z. z.sizes.locks) shape ∙ (st.sized.locks ∙ sym locks);
    some = subst (λ n. 0 < n) (sym frames) st.sized.some;
    some_lock = subst (λ n. 0 < n) (sym locks) st.sized.some_lock;
    few = subst (λ n. n ≤ 16) (ap (λ z. z.sizes.workers) (sym shape)) st.sized.few;
    rows = ap (λ g. g.rows) given ∙ (st.sized.rows ∙ sym locks);
    given = ap (λ g. (opening g).frames) given ∙ (st.sized.given ∙ sym frames);
    workers = ap (λ g. (opening g).workers) given ∙ (st.sized.workers ∙ ap (λ z. z.sizes.workers) (sym shape));
  };
  sound = subst IsSound (sym given) st.sound;
  locks_sound = subst lock_rows.IsSound (sym given) st.locks_sound;
  unmarked = marks ∙ (st.unmarked ∙ ap (λ n. replicate n false) (sym locks));
  sessions = subst (λ n. AreSessions n t.base t.sessions.items (state t.seat.view)) (ap (λ z. z.sizes.workers) (sym shape)) (subst (λ b. AreSessions s.rows.workers b t.sessions.items (state t.seat.view)) (sym base) sessions);
}
