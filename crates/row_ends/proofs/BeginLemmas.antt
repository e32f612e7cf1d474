-- A begin.
use Rattle.std.proofs.Common.{◌≡◌, ◌≢◌, inl, inr, ◌↔◌, ◌≤◌, ◌<◌, ◌^◌, ◌+◌, ◌-◌, ℕ, zero, suc, min, Bool, true, false, cond, leb, ltb, List, [], ◌∷◌, ◌++◌, Some, None, refl, sym, ap, ◌∙◌, subst, arith, append-nil, true≢false, eq-eqb}
use Rattle.std.proofs.lemmas.Bool.{and_from, cases_lt, le-leb, leb-false, lt-ltb}
use Rattle.map_model.specs.declared.call.Call.TheVariants as call
use Rattle.map_model.specs.declared.call.Refusal.{Refusal}
use Rattle.map_model.specs.declared.call.Refusal.TheVariants as refusal
use Rattle.session_state.specs.engine_trait.declared.unserved.Unanswered.TheVariants as unanswered
use Rattle.session_state.specs.engine_trait.declared.unserved.Unserved.TheVariants as unserved
use Rattle.map_model.specs.Lists.{Has, upd}
use Rattle.rfa_model.specs.Reaches.{least}
use Rattle.rfa_model.specs.Stamps.{debt_at_begin}
use Rattle.rfa_model.proofs.ReachLemmas.{least_low}
use Rattle.session_state.specs.core_state.Openings.{Opening}
use Rattle.session_state.specs.core_state.States.{State, flushed_by_all}
use Rattle.session_state.specs.core_state.Events as happening
use Rattle.session_state.specs.core_state.Needs.{may, holds_row}
use Rattle.session_state.specs.core_state.Steps.{begun, happens}
use Rattle.session_state.specs.worker_log.Logs.{Log, used, limit}
use Rattle.session_state.specs.core_calls.LogEvents.{behind as waits}
use Rattle.session_state.specs.row_words.declared.event.Event as event
use Rattle.session_state.specs.row_words.declared.event.Event.TheVariants.{Begin}
use Rattle.session_state.specs.row_words.declared.given.Given.{Given}
use Rattle.session_state.specs.row_words.Moments.{Moment}
use Rattle.session_state.specs.row_words.Openings.{opening}
use Rattle.session_state.specs.row_words.Sealed.{heard, stepped}
use Rattle.session_state.specs.rows_trait.Views.{Shape, after_all, state}
use Rattle.session_state.specs.rows_trait.Turns.{Heard}
use Rattle.session_state.specs.rows_trait.declared.view.View.{View}
use Rattle.session_state.specs.lean_proto.Controls as controls
use Rattle.session_state.specs.engine_trait.Calls.{IsTold}
use Rattle.session_state.specs.engine_trait.Refusals.{log_refusal, refusal_in}
use Rattle.session_state.specs.engine_trait.Serving.{refused_by}
use Rattle.row_ends.specs.Begins.{Begins, MayBegin}
use Rattle.row_ends.specs.Flushed.{Looked, flushed_to}
use Rattle.session_state.proofs.ServingLemmas.{refused_none, refused_was}
use Rattle.session_state.specs.Holds.{Holds, IsOf}
use Rattle.session_state.specs.core_covers.Firsts.{first_of}
use Rattle.row_ends.specs.Tests.{begin_test}
use Rattle.row_ends.specs.Begins.{begun_session}
use Rattle.session_state.specs.Others.{Steps}
use Rattle.session_state.specs.declared.session.Session.{Session}
use Rattle.session_state.proofs.FirstLemmas.{first_begun}
use Rattle.session_state.proofs.HoldLemmas.{rows_on}
use Rattle.row_ends.proofs.FlushLemmas.{flushed_all, flushed_from, flushed_low}
use Rattle.session_state.proofs.Moments.{acts, free_same, goes_seen, goes_state, met_core}
use Rattle.session_state.proofs.OtherLemmas.{is_own, one_step}

-- ## The moment

-- the core behind a begin whose need was met
begun_core : (v : Given) (m : Moment) (own n : ℕ) → may (opening v) m.core (happening.Event.Begin own n) ≡ true → (stepped v m (Begin own n)).core ≡ happens (opening v) m.core (happening.Event.Begin own n)
begun_core v m own n met = met_core v m (Begin own n) met

-- the word of a log is the number up to which it is flushed
pub flushed_word : (m : Moment) (c : ℕ) → 0 < c → heard m c 0 ≡ m.core.flushed c
unfolding heard
flushed_word m zero some = absurd (omega arith)
flushed_word m (suc c) some = refl

-- it changes workers alone
begin_flushed : (v : Given) (m : Moment) (own n : ℕ) → (stepped v m (Begin own n)).core.flushed ≡ m.core.flushed
unfolding stepped
begin_flushed v m own n = go (may (opening v) m.core (happening.Event.Begin own n))
  where
    go : (b : Bool) → (cond b (happens (opening v) m.core (happening.Event.Begin own n)) m.core).flushed ≡ m.core.flushed
    go true = refl
    go false = refl

-- ## Tests

some_is : (r q : Refusal) → Some r ≡ Some q → r ≡ q
some_is r q e = cc

none_is : (r : Refusal) → None ≡ Some r → ⊥
none_is r e = absurd (cc)

-- sixteen blocks are kept back
block : (n m : ℕ) → n < m - 16 → n + 1 ≤ m
block n m u = omega arith

-- neither its log nor its clock refuses a call
pub free_log : (clock : ℕ) (log : Log) → log_refusal clock log None ≡ None → (clock < 2 ^ 62) × (used log < limit log)
free_log clock log e = full_case (leb (limit log) (used log)) refl e
  where
    clock_case : used log < limit log → (b : Bool) → leb (2 ^ 62) clock ≡ b → cond b (Some refusal.ClockSpent) None ≡ None → (clock < 2 ^ 62) × (used log < limit log)
    clock_case u true q r = absurd (none_is refusal.ClockSpent (sym r))
    clock_case u false q r = (leb-false (2 ^ 62) clock q, u)

    full_case : (b : Bool) → leb (limit log) (used log) ≡ b → cond b (Some (refusal.LogFull (used log) (limit log))) (cond (leb (2 ^ 62) clock) (Some refusal.ClockSpent) None) ≡ None → (clock < 2 ^ 62) × (used log < limit log)
    full_case true u r = absurd (none_is _ (sym r))
    full_case false u r = clock_case (leb-false (limit log) (used log) u) (leb (2 ^ 62) clock) refl r

pub free_of : (x : Session) (log : Log) → begin_test x log ≡ None → MayBegin x log
free_of x log e = works_case x.works refl e
  where
    open_case : x.works ≡ true → (b : Bool) → x.is_open ≡ b → cond b (Some refusal.InTransaction) (log_refusal x.clock.clock log None) ≡ None → MayBegin x log
    open_case w true q r = absurd (none_is _ (sym r))
    open_case w false q r = let f = free_log x.clock.clock log r in record { works = w; closed = q; small = f.0; room = f.1 }

    works_case : (b : Bool) → x.works ≡ b → cond b (refused_by (cond x.is_open (Some refusal.InTransaction) (log_refusal x.clock.clock log None))) (Some (unserved.Unanswered unanswered.Broken)) ≡ None → MayBegin x log
    works_case true q r = open_case q x.is_open refl (refused_none (cond x.is_open (Some refusal.InTransaction) (log_refusal x.clock.clock log None)) r)
    works_case false q r = absurd (cc)

-- where the engine works the tests are those of the worker
pub test_is : (g : Opening) (s : State) (is_half_aborted : Bool) (x : Session) (log : Log) → x.works ≡ true → IsOf x (s.worker x.own) → begin_test x log ≡ refused_by (refusal_in g s x.own is_half_aborted log call.Begin)
test_is g s is_half_aborted x log works of_s =
    (λ i. cond (works i) (refused_by (cond x.is_open (Some refusal.InTransaction) (log_refusal x.clock.clock log None))) (Some (unserved.Unanswered unanswered.Broken)))
    ∙ (λ i. refused_by (cond (sym of_s.is_open i) (Some refusal.InTransaction) (log_refusal (sym of_s.clock i) log None)))

-- a log and a clock refuse by what a script is told
pub log_told : (clock : ℕ) (log : Log) (why : Refusal) → log_refusal clock log None ≡ Some why → IsTold why
log_told clock log why e = full_case (leb (limit log) (used log)) e
  where
    clock_case : (b : Bool) → cond b (Some refusal.ClockSpent) None ≡ Some why → IsTold why
    clock_case true r = subst IsTold (some_is _ why r) tt
    clock_case false r = absurd (none_is why r)

    full_case : (b : Bool) → cond b (Some (refusal.LogFull (used log) (limit log))) (cond (leb (2 ^ 62) clock) (Some refusal.ClockSpent) None) ≡ Some why → IsTold why
    full_case true r = subst IsTold (some_is _ why r) tt
    full_case false r = clock_case (leb (2 ^ 62) clock) r

-- so does a begin, where the engine works
pub begin_told : (x : Session) (log : Log) (why : Refusal) → x.works ≡ true → begin_test x log ≡ Some (unserved.Refused why) → IsTold why
begin_told x log why works e = open_case x.is_open (refused_was (cond x.is_open (Some refusal.InTransaction) (log_refusal x.clock.clock log None)) why ((λ i. cond (sym works i) (refused_by (cond x.is_open (Some refusal.InTransaction) (log_refusal x.clock.clock log None))) (Some (unserved.Unanswered unanswered.Broken))) ∙ e))
  where
    open_case : (b : Bool) → cond b (Some refusal.InTransaction) (log_refusal x.clock.clock log None) ≡ Some why → IsTold why
    open_case true r = subst IsTold (some_is _ why r) tt
    open_case false r = log_told x.clock.clock log why r

-- ## Words that are loaded

still : (v w : View) → w.given ≡ v.given → w.seen ≡ v.seen → state w ≡ state v
still v w given seen i = after_all (given i) (seen i)

-- where nothing was seen
holds_still : (z : Shape) (v w : View) (x : Session) (log : Log) → w.given ≡ v.given → w.seen ≡ v.seen → w.held ≡ v.held → Holds z v x log → Holds z w x log
holds_still z v w x log given seen held h = record {
  alone = h.alone;
  idle = held ∙ h.idle;
  rows = rows_on z v w x.own x.workers x.frames x.held.count given h.rows;
  session = subst (λ m. IsOf x (m.core.worker x.own)) (sym same) h.session;
  first = ap (λ m. first_of m.core x.own) same ∙ h.first;
  numbers = h.numbers;
  flushed = ap (λ m. m.core.flushed x.own) same ∙ h.flushed;
  floor = subst (λ n. x.clock.floor ≤ n) (λ i. flushed_by_all (opening (sym given i)) (sym same i).core) h.floor;
  behind = ap (λ m. waits m.core x.own) same ∙ h.behind;
  held = λ i. subst (λ m. holds_row (m.core.row i) x.own ≡ true ↔ Has i x.held.rows) (sym same) (h.held i);
  within = h.within;
  fewer = h.fewer;
  none = h.none;
  free = free_same v w x.free given (ap (λ m. m.core.page) same) h.free;
  spare = h.spare;
}
  where
    same : state w ≡ state v
    same = still v w given seen

-- where nothing was seen but that words were loaded
pub looked_holds : (z : Shape) (v u : View) (x : Session) (log : Log) → Looked v u → Holds z v x log → Holds z u x log
looked_holds z v u x log l h = holds_still z v u x log l.given l.seen l.held h

-- one more flushed word was loaded behind such words
pub looked_more : (z : Shape) (v u w : View) (c n : ℕ) → z.alone ≡ true → Looked v u → Heard z c 0 (λ _. []) u n w → Looked v w
looked_more z v u w c n alone l e = record {
  given = e.goes.given ∙ l.given;
  seen = (goes_seen z u w [] alone e.goes ∙ append-nil u.seen) ∙ l.seen;
  held = e.held ∙ l.held;
}

-- it is the number of its log
pub looked_word : (z : Shape) (v u w : View) (c n : ℕ) → z.alone ≡ true → 0 < c → Looked v u → Heard z c 0 (λ _. []) u n w → n ≡ (state v).core.flushed c
looked_word z v u w c n alone some l e = sym e.word ∙ (flushed_word (state w) c some ∙ ap (λ m. m.core.flushed c) (still v w m.given m.seen))
  where
    m : Looked v w
    m = looked_more z v u w c n alone l e

-- with one more log
pub least_more : (z : Shape) (v u w : View) (log n before now : ℕ) → z.alone ≡ true → Looked v u → Heard z (log + 1) 0 (λ _. []) u n w → before ≡ flushed_to (state v).core log → now ≡ min before n → now ≡ flushed_to (state v).core (log + 1)
least_more z v u w log n before now alone l e before_is now_is =
    now_is ∙ ((λ i. min (before_is i) (looked_word z v u w (log + 1) n alone (omega arith) l e i)) ∙ at (log + 1) (omega arith))
  where
    at : (k : ℕ) → k ≡ suc log → min (flushed_to (state v).core log) ((state v).core.flushed k) ≡ flushed_to (state v).core k
    at k is = subst (λ m. min (flushed_to (state v).core log) ((state v).core.flushed m) ≡ flushed_to (state v).core m) (sym is) refl

-- the least of the first logs is what it was
pub looked_least : (v u : View) (n least : ℕ) → Looked v u → least ≡ flushed_to (state v).core n → least ≡ flushed_to (state u).core n
looked_least v u n least l e = e ∙ ap (λ m. flushed_to m.core n) (sym (still v u l.given l.seen))

-- ## The session

module _ (begins : controls.EveryBegin) (z : Shape) (v w : View) (x : Session) (log : Log) (h : Holds z v x log) (closed : x.is_open ≡ false) (small : x.clock.clock < 2 ^ 62) (free : used log < limit log)
    (rest last : ℕ) (rest_is : rest ≡ flushed_to (state v).core (x.workers - 1)) (fits : last < 2 ^ 64) (e : Heard z x.workers 0 (λ n. Begin x.own (min rest n) ∷ []) v last w) where
  abbrev all_flushed : ℕ
  all_flushed = min rest last

  abbrev core_before : State
  core_before = (state v).core

  some : 0 < x.workers
  some = let a = h.rows.low in let b = h.rows.high in omega arith

  after : state w ≡ stepped v.given (state v) (Begin x.own all_flushed)
  after = goes_state z v w (Begin x.own all_flushed ∷ []) h.alone e.goes

  last_is : last ≡ core_before.flushed x.workers
  last_is = sym e.word ∙ (flushed_word (state w) x.workers some ∙ (ap (λ m. m.core.flushed x.workers) after ∙ ap (λ k. k x.workers) (begin_flushed v.given (state v) x.own all_flushed)))

  -- with the last log it is the least of all
  pub f_all : all_flushed ≡ flushed_by_all (opening v.given) core_before
  f_all = (λ i. min (rest_is i) (last_is i)) ∙ (with_last x.workers some ∙ (ap (flushed_to core_before) (sym h.rows.workers) ∙ flushed_all (opening v.given) core_before low))
    where
      with_last : (n : ℕ) → 0 < n → min (flushed_to core_before (n - 1)) (core_before.flushed n) ≡ flushed_to core_before n
      with_last zero some = absurd (omega arith)
      with_last (suc n) some = ap (λ m. min (flushed_to core_before m) (core_before.flushed (suc n))) (omega arith)

      low : flushed_by_all (opening v.given) core_before < 2 ^ 64
      low = let a = least_low core_before.flushed (opening v.given).workers x.workers some (let q = h.rows.workers in omega arith) in let b = last_is in let c = fits in omega arith

  -- the floor is below each of them
  floor_low : (u : ℕ) → 0 < u → u ≤ x.workers → x.clock.floor ≤ core_before.flushed u
  floor_low u up high = let a = h.floor in let b = least_low core_before.flushed (opening v.given).workers u up (let q = h.rows.workers in omega arith) in omega arith

  floor_rest : x.clock.floor ≤ rest
  floor_rest = let a = flushed_from core_before (x.workers - 1) x.clock.floor floor_small (λ u up high. floor_low u up (omega arith)) in let b = rest_is in omega arith
    where
      floor_small : x.clock.floor < 2 ^ 64
      floor_small = let a = floor_low x.own h.rows.low h.rows.high in let b = h.flushed in let c = h.numbers.order in let d = h.numbers.last in let k = small in omega arith

  known : controls.IsBegin z v x.own x.workers (λ n. min rest n)
  known = record {
    actor = acts z v x.own h.alone;
    worker = and_from (ltb 0 x.own) (leb x.own (opening v.given).workers) (lt-ltb 0 x.own h.rows.low) (le-leb x.own (opening v.given).workers (let q = h.rows.workers in let p = h.rows.high in omega arith));
    closed = h.session.is_open ∙ closed;
    log = some;
    low = λ n up. let a = h.session.floor in let b = floor_rest in let c = floor_low x.workers some (omega arith) in omega arith;
    own = λ n up. omega arith;
    others = λ n u up first among ne. let a = flushed_low core_before (x.workers - 1) u first (below u among ne) in let b = rest_is in omega arith;
  }
    where
      below : (u : ℕ) → u ≤ (opening v.given).workers → u ≢ x.workers → u ≤ x.workers - 1
      below u among ne = elim (cases_lt u x.workers) [ inl lt ↦ (omega arith) | inr ge ↦ absurd (ne (let q = h.rows.workers in omega arith)) ]

  -- its need was met
  pub met : may (opening v.given) core_before (happening.Event.Begin x.own all_flushed) ≡ true
  met = subst (λ m. may (opening v.given) m.core (happening.Event.Begin x.own all_flushed) ≡ true) (quiet v.seen e.goes.between (e.goes.quiet h.alone)) ((begins z v x.own).begun x.workers (λ n. min rest n) last w known e).met
    where
      quiet : (es more : List event.Event) → more ≡ [] → after_all v.given (es ++ more) ≡ after_all v.given es
      quiet es more q = ap (λ ys. after_all v.given (es ++ ys)) q ∙ ap (after_all v.given) (append-nil es)

  -- and it is all that happened
  pub begin_steps : Steps x.own v w
  begin_steps = one_step x.own v w (Begin x.own all_flushed) e.goes.given (goes_seen z v w (Begin x.own all_flushed ∷ []) h.alone e.goes) (is_own x.own) met

  core_is : (state w).core ≡ happens (opening v.given) core_before (happening.Event.Begin x.own all_flushed)
  core_is = ap (λ m. m.core) after ∙ begun_core v.given (state v) x.own all_flushed met

  at_worker : upd core_before.worker x.own (begun (core_before.worker x.own) all_flushed) x.own ≡ begun (core_before.worker x.own) all_flushed
  at_worker = ap (λ b. cond b (begun (core_before.worker x.own) all_flushed) (core_before.worker x.own)) (eq-eqb x.own x.own refl)

  worker_is : (state w).core.worker x.own ≡ begun (core_before.worker x.own) all_flushed
  worker_is = ap (λ k. k.worker x.own) core_is ∙ at_worker

  pub after_begin : Holds z w (begun_session x all_flushed) log
  after_begin = record {
    alone = h.alone;
    idle = e.held ∙ h.idle;
    rows = rows_on z v w x.own x.workers x.frames x.held.count e.goes.given h.rows;
    session = subst (λ k. IsOf (begun_session x all_flushed) (k.worker x.own)) (sym core_is) (subst (λ a. IsOf (begun_session x all_flushed) a) (sym at_worker) (record {
      is_open = refl;
      txn = let q = h.session.txn in omega arith;
      clock = h.session.clock;
      floor = refl;
      debt = ap (λ d. debt_at_begin d all_flushed) h.session.debt;
      end = h.session.end;
      undo = refl;
    }));
    first = first_begun core_before (state w).core x.own (λ r i. (h.rows.clocked v.seen r i).1) (ap (λ a. a.is_open) worker_is) (ap (λ a. a.txn) worker_is) (ap (λ k. k.entries) core_is);
    numbers = record {
      last = h.numbers.last;
      order = h.numbers.order;
      end = h.numbers.end;
      room = λ _. block (used log) log.blocks free;
      closed_txn = λ q. absurd (true≢false q);
      txn = let q = h.numbers.closed_txn closed in omega arith;
      undo_room = λ up. absurd (omega arith);
      flush_room = λ _ up. absurd (omega arith);
      hand = h.numbers.hand;
      few = omega arith;
      behind = h.numbers.behind;
    };
    flushed = ap (λ k. k.flushed x.own) core_is ∙ h.flushed;
    floor = subst (λ n. all_flushed ≤ n) (f_all ∙ (λ i. flushed_by_all (opening (sym e.goes.given i)) (sym core_is i))) (omega arith);
    behind = ap (λ k. waits k x.own) core_is ∙ h.behind;
    held = λ i. subst (λ k. holds_row (k.row i) x.own ≡ true ↔ Has i x.held.rows) (sym core_is) (h.held i);
    within = h.within;
    fewer = h.fewer;
    none = λ q. absurd (true≢false q);
    free = free_same v w x.free e.goes.given (ap (λ k. k.page) core_is) h.free;
    spare = h.spare;
  }

-- ## As its caller sees it

-- behind flushed words that were loaded
pub begins_by : controls.EveryBegin → (z : Shape) (v u w : View) (x y : Session) (log : Log) → Holds z v x log → MayBegin x log → Looked v u → (rest last : ℕ) → rest ≡ flushed_to (state v).core (x.workers - 1) → last < 2 ^ 64
    → Heard z x.workers 0 (λ n. Begin x.own (min rest n) ∷ []) u last w → y ≡ begun_session x (min rest last) → Begins v w x y y.txn
begins_by begins z v u w x y log h free l rest last rest_is fits e session = record {
  floor = min rest last;
  floor_is = f_all begins z u w x log on free.closed free.small free.room rest last rest_at fits e ∙ (λ i. flushed_by_all (opening (l.given i)) (same i).core);
  given = e.goes.given ∙ l.given;
  seen = goes_seen z u w (Begin x.own (min rest last) ∷ []) h.alone e.goes ∙ ap (λ ys. ys ++ Begin x.own (min rest last) ∷ []) l.seen;
  met = (λ i. may (opening (sym l.given i)) (sym same i).core (happening.Event.Begin x.own (min rest last))) ∙ met begins z u w x log on free.closed free.small free.room rest last rest_at fits e;
  next = let q = h.session.txn in let k = ap (λ k. k.txn) session in omega arith;
  session = session;
}
  where
    on : Holds z u x log
    on = looked_holds z v u x log l h

    same : state u ≡ state v
    same = still v u l.given l.seen

    rest_at : rest ≡ flushed_to (state u).core (x.workers - 1)
    rest_at = looked_least v u (x.workers - 1) rest l rest_is
