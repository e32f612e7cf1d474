-- An end: what is so behind it and behind a flush, in memory.
use Rattle.std.proofs.Common.{◌≡◌, ◌≤◌, ◌<◌, ◌+◌, ◌^◌, ◌==◌, ◌&&◌, ◌||◌, ℕ, suc, Bool, true, false, cond, List, length, [], ◌∷◌, ◌++◌, refl, sym, ap, ◌∙◌, subst, arith, true≢false}
use Rattle.std.proofs.lemmas.Bool.{eq-eqb, le-leb}
use Rattle.map_model.specs.Lists.{Has, any}
use Rattle.map_model.proofs.ListLemmas.{upd_same}
use Rattle.session_state.specs.image_model.Entries.{Entry, Kind, is_commit, is_record}
use Rattle.rfa_model.proofs.ReachLemmas.{least_low}
use Rattle.rfa_model.specs.Reaches.{least}
use Rattle.session_state.specs.core_state.Openings.{Opening}
use Rattle.session_state.specs.core_state.Events as happening
use Rattle.session_state.specs.core_state.States.{Row, State, Worker, flushed_by_all}
use Rattle.session_state.specs.core_state.Needs.{holds_row, may}
use Rattle.session_state.specs.core_state.Steps.{AllMet, end_entry, ends, finished, happens, run, step}
use Rattle.session_state.specs.core_calls.LogEvents as log_events
use Rattle.session_state.specs.engine_calls.Commits.{unlocks}
use Rattle.session_state.proofs.engine_calls.UnlockLemmas.{entries_same, flushed_same, if_met}
use Rattle.session_state.specs.log_record.Spelling.{BodyFits, Fits}
use Rattle.session_state.specs.log_record.declared.record.Body.{Body}
use Rattle.session_state.specs.worker_log.Logs.{Log}
use Rattle.session_state.specs.row_words.declared.event.Event.{Event}
use Rattle.session_state.specs.row_words.declared.event.Event.TheVariants.{End, Flush}
use Rattle.session_state.specs.row_words.declared.given.Given.{Given}
use Rattle.session_state.specs.row_words.Openings.{opening}
use Rattle.session_state.specs.rows_trait.declared.view.View.{View}
use Rattle.session_state.specs.rows_trait.Views.{Shape, after_all, state}
use Rattle.session_state.specs.key_locks.Latching.{is_marked}
use Rattle.session_state.specs.lean_proto.Controls.{CanEnd}
use Rattle.row_ends.specs.Ends.{AreMine, Ended, Latched, Latching, MayEnd, MayFlush, end_of, gives, waiting_session}
use Rattle.row_ends.specs.Flushed.{Looked, flushed_to}
use Rattle.session_state.specs.Holds.{Holds, IsOf}
use Rattle.session_state.specs.Numbers.{AreClocked, HaveRoom}
use Rattle.session_state.specs.Undo.{HasHand}
use Rattle.session_state.specs.declared.session.Session.{Session}
use Rattle.session_state.proofs.FirstLemmas.{first_ended}
use Rattle.session_state.proofs.HoldLemmas.{rows_on}
use Rattle.row_ends.proofs.FlushLemmas.{behind_commit, flushed_all}
use Rattle.session_state.proofs.WaitLemmas.{behind_flush, behind_more, behind_same, floor_flush}
use Rattle.session_state.proofs.Moments.{free_same, met_core, seen_state}
use Rattle.row_ends.proofs.LatchLemmas.{sized_on}
use Rattle.session_state.proofs.UndoLemmas.{none_left}

-- ## Views that have seen the same

over : (M : Given → List Event → Type 0) (a b : Given) (xs ys : List Event) → a ≡ b → xs ≡ ys → M a xs → M b ys
over M a b xs ys p q m = subst (λ k. M k ys) p (subst (λ zs. M a zs) q m)

pub same_state : (v w : View) → w.given ≡ v.given → w.seen ≡ v.seen → state w ≡ state v
same_state v w given seen = λ i. after_all (given i) (seen i)

pub ended_as : (own most : ℕ) (commit : Bool) (b v w : View) (f : ℕ) → v.given ≡ b.given → v.seen ≡ b.seen → Ended own most v commit f w → Ended own most b commit f w
ended_as own most commit b v w f given seen e = record {
  given = e.given ∙ given;
  rows = e.rows;
  few = e.few;
  seen = e.seen ∙ ap (λ ys. ys ++ End own commit f ∷ gives own e.rows) seen;
  met = over (λ k es. AllMet (opening k) (after_all k es).core (end_of own commit f e.rows)) v.given b.given v.seen b.seen given seen e.met;
  core = e.core ∙ (λ i. run (opening (given i)) (after_all (given i) (seen i)).core (end_of own commit f e.rows));
  idle = e.idle;
  free = e.free;
}

-- words were loaded meanwhile
pub latched_on : (z y : Shape) (v w : View) (x : Session) (log : Log) (marks : List Bool) → y ≡ z → Looked v w → Latched z v x log marks → Latched y w x log marks
latched_on z y v w x log marks same s l = subst (λ k. Latched k w x log marks) (sym same) (record {
  before = l.before;
  holds = l.holds;
  room = l.room;
  latching = record {
    given = s.given ∙ l.latching.given;
    seen = s.seen ∙ l.latching.seen;
    mine = subst (λ hs. AreMine x.frames x.held.count marks hs) (sym s.held) l.latching.mine;
    among = l.latching.among;
  };
  all = l.all;
})

-- ## Which commits wait

-- one more does behind a commit, and as many as before behind an abort
behind_end : (g : Opening) (s : State) (w f : ℕ) (commit : Bool) → s.flushed w ≤ (s.worker w).clock
    → log_events.behind (happens g s (happening.Event.End w commit f)) w ≡ cond commit (suc (log_events.behind s w)) (log_events.behind s w)
behind_end g s w f true low = behind_commit g s w f low
behind_end g s w f false low = behind_more s (happens g s (happening.Event.End w false f)) w (end_entry Kind.Abort w (s.worker w) f) refl refl refl

-- ## Rows that are given back

-- what does not hang on rows
unlocks_keep : (A : Type 0) (F : State → A) (g : Opening) (own : ℕ) (rows : List ℕ) (s : State) → ((t : State) (r : ℕ → Row) → F (record t { row = r }) ≡ F t) → F (run g s (unlocks own rows)) ≡ F s
unlocks_keep A F g own [] s k = refl
unlocks_keep A F g own (i ∷ rows) s k = unlocks_keep A F g own rows (step g s (happening.Event.Unlock own i)) k ∙ go (may g s (happening.Event.Unlock own i))
  where
    go : (c : Bool) → F (cond c (happens g s (happening.Event.Unlock own i)) s) ≡ F s
    go true = k s _
    go false = refl

-- ## Before the end

same_bool : (a b : Bool) → (a ≡ true → b ≡ true) → (b ≡ true → a ≡ true) → a ≡ b
same_bool true b p q = sym (p refl)
same_bool false true p q = q refl
same_bool false false p q = refl

module _ (z : Shape) (b : View) (x : Session) (log : Log) (h : Holds z b x log) (room : HaveRoom b) where
  abbrev now : State
  now = (state b).core

  high : x.own ≤ (opening b.given).workers
  high = let a = h.rows.workers in let c = h.rows.high in omega arith

  -- the clock of an open transaction has far to go yet
  clock_low : x.is_open ≡ true → x.clock.clock < 2 ^ 63
  clock_low opened = let a = (room x.own 0 (h.session.is_open ∙ opened)).end in let e = h.session.clock in omega arith

  -- what was loaded of all logs
  pub floor_is : (v : View) → v.given ≡ b.given → v.seen ≡ b.seen → x.is_open ≡ true → (floor : ℕ) → floor ≡ flushed_to (state v).core x.workers → floor ≡ flushed_by_all (opening b.given) now
  floor_is v given seen opened floor is =
      is ∙ ((λ i. flushed_to (same_state b v given seen i).core (sym h.rows.workers i))
      ∙ flushed_all (opening b.given) now (let a = clock_low opened in let c = h.flushed in let d = h.numbers.order in let k = h.numbers.last in let q = least_low now.flushed (opening b.given).workers x.own h.rows.low high in omega arith))

  can_end : (commit : Bool) (floor : ℕ) → floor ≡ flushed_by_all (opening b.given) now → x.is_open ≡ true → (commit ≡ false → x.undo ≡ []) → CanEnd (opening b.given) now x.own commit floor
  can_end commit floor floor_at opened left = record {
    is_open = h.session.is_open ∙ opened;
    low = let c = h.session.floor in let d = h.floor in omega arith;
    flushed = λ u some among. let q = least_low now.flushed (opening b.given).workers u some among in omega arith;
    back = λ e. none_left (now.worker x.own).changes (h.session.undo ∙ left e);
  }

-- the number behind the clock of one whose rows are latched
pub next_small : (z : Shape) (v : View) (x : Session) (log : Log) (marks : List Bool) → Latched z v x log marks → x.is_open ≡ true → x.clock.clock + 1 < 2 ^ 63
next_small z v x log marks l opened = let a = clock_low z l.before x log l.holds l.room opened in let b = (l.room x.own 0 (l.holds.session.is_open ∙ opened)).end in let e = l.holds.session.clock in omega arith

pub entry_fits : (txn number : ℕ) (b : Body) → txn < 2 ^ 64 → number < 2 ^ 64 → BodyFits b → Fits (record { txn = txn; gsn = number; body = b })
entry_fits txn number b t n f = record { txn = t; gsn = n; body = f }

-- a session whose rows are latched may end, by an abort where nothing is left to put back
pub may_end : (z : Shape) (v : View) (x : Session) (log : Log) (marks : List Bool) (commit : Bool) (floor : ℕ) → (l : Latched z v x log marks) → floor ≡ flushed_by_all (opening l.before.given) (state l.before).core → x.is_open ≡ true
    → (commit ≡ false → x.undo ≡ []) → MayEnd z v x commit floor marks
may_end z v x log marks commit floor l floor_at opened left = record {
  alone = h.alone;
  locks = sized_on z z b v x.own x.frames x.held.count x.held.count refl a.given refl h.rows.locks;
  workers = h.rows.sized;
  high = h.rows.high;
  can = over (λ k es. CanEnd (opening k) (after_all k es).core x.own commit floor) b.given v.given b.seen v.seen (sym a.given) (sym a.seen) (can_end z b x log h l.room commit floor floor_at opened left);
  clock = ap (λ m. (m.core.worker x.own).clock) s ∙ h.session.clock;
  small = let q = clock_low z b x log h l.room opened in omega arith;
  mine = a.mine;
  among = a.among;
  held = λ i. ap (λ m. holds_row (m.core.row i) x.own) s ∙ same_bool (holds_row ((state b).core.row i) x.own) (is_marked marks i) (λ e. l.all i ((h.held i).0 e)) (λ e. (h.held i).1 (a.among i e));
}
  where
    b : View
    b = l.before

    h : Holds z l.before x log
    h = l.holds

    a : Latching x.frames x.held marks l.before v
    a = l.latching

    s : state v ≡ state l.before
    s = same_state l.before v l.latching.given l.latching.seen

-- ## Behind the end

and_true : (b c : Bool) → b ≡ true → c ≡ true → (b && c) ≡ true
and_true true c e q = q
and_true false c e q = e

or_true : (b c : Bool) → b ≡ true → (b || c) ≡ true
or_true true c e = refl
or_true false c e = absurd (true≢false (sym e))

module _ (z : Shape) (b : View) (x : Session) (log : Log) (h : Holds z b x log) (opened : x.is_open ≡ true) (number : ℕ) (number_is : number ≡ x.clock.clock + 1) (commit : Bool) (floor : ℕ) (w : View) (e : Ended x.own (length x.held.rows) b commit floor w) where
  abbrev s0 : State
  s0 = (state b).core

  abbrev entry : Entry
  entry = end_entry (cond commit Kind.Commit Kind.Abort) x.own (s0.worker x.own) floor

  abbrev after_end : State
  after_end = ends s0 x.own entry

  pub core_w : (state w).core ≡ run (opening b.given) after_end (unlocks x.own e.rows)
  core_w = e.core ∙ ap (λ (t : State). run (opening b.given) t (unlocks x.own e.rows)) (if_met (may (opening b.given) s0 (happening.Event.End x.own commit floor)) e.met.0 s0 after_end)

  pub entries_w : (state w).core.entries ≡ entry ∷ s0.entries
  entries_w = ap (λ t. t.entries) core_w ∙ entries_same (opening b.given) x.own e.rows after_end

  pub flushed_w : (state w).core.flushed ≡ s0.flushed
  flushed_w = ap (λ t. t.flushed) core_w ∙ flushed_same (opening b.given) x.own e.rows after_end

  pub worker_w : (state w).core.worker x.own ≡ finished (s0.worker x.own) (suc (s0.worker x.own).clock)
  worker_w = ap (λ t. t.worker x.own) core_w ∙ (ap (λ k. k x.own) (unlocks_keep (ℕ → Worker) (λ t. t.worker) (opening b.given) x.own e.rows after_end (λ t r. refl)) ∙ upd_same s0.worker x.own (finished (s0.worker x.own) (suc (s0.worker x.own).clock)) x.own refl)

  number_at : suc (s0.worker x.own).clock ≡ number
  number_at = let q = h.session.clock in omega arith

  clock_w : ((state w).core.worker x.own).clock ≡ number
  clock_w = ap (λ a. a.clock) worker_w ∙ number_at

  page_w : (state w).core.page ≡ s0.page
  page_w = ap (λ t. t.page) core_w ∙ unlocks_keep _ (λ t. t.page) (opening b.given) x.own e.rows after_end (λ t r. refl)

  place_w : (state w).core.place ≡ s0.place
  place_w = ap (λ t. t.place) core_w ∙ unlocks_keep _ (λ t. t.place) (opening b.given) x.own e.rows after_end (λ t r. refl)

  floor_w : x.clock.floor ≤ flushed_by_all (opening w.given) (state w).core
  floor_w = subst (λ k. x.clock.floor ≤ flushed_by_all (opening k) (state w).core) (sym e.given) (subst (λ (f : ℕ → ℕ). x.clock.floor ≤ least f (opening b.given).workers) (sym flushed_w) h.floor)

  behind_w : log_events.behind (state w).core x.own ≡ cond commit (suc x.unflushed) x.unflushed
  behind_w = ap (λ (t : State). log_events.behind t x.own) core_w
      ∙ (behind_same after_end (run (opening b.given) after_end (unlocks x.own e.rows)) x.own (entries_same (opening b.given) x.own e.rows after_end) (ap (λ k. k x.own) (flushed_same (opening b.given) x.own e.rows after_end))
      ∙ (behind_end (opening b.given) s0 x.own floor commit (let a = h.flushed in let c = h.session.clock in let d = h.numbers.order in let k = h.numbers.last in omega arith)
      ∙ ap (λ n. cond commit (suc n) n) h.behind))

  -- A session whose transaction has ended, where nothing but the flushed number has changed since.
  module _ (u : View) (given : u.given ≡ w.given) (held : u.held ≡ w.held) (page_u : (state u).core.page ≡ (state w).core.page) (place_u : (state u).core.place ≡ (state w).core.place) (row_u : (state u).core.row ≡ (state w).core.row)
      (worker_u : (state u).core.worker ≡ (state w).core.worker) (is : Log) (flushed_u : (state u).core.flushed x.own ≡ is.flushed) (order : is.flushed ≤ number) (last_is : is.last ≡ number) (hand : HasHand is)
      (floor_u : x.clock.floor ≤ flushed_by_all (opening u.given) (state u).core) (waiting : ℕ) (behind_u : log_events.behind (state u).core x.own ≡ waiting) (few_behind : waiting < x.group) where
    pub holds_ended : Holds z u (waiting_session x number waiting) is
    holds_ended = record {
      alone = h.alone;
      idle = held ∙ e.idle;
      rows = rows_on z b u x.own x.workers x.frames x.held.count (given ∙ e.given) h.rows;
      session = subst (λ a. IsOf (waiting_session x number waiting) a) (sym at_worker) (record {
        is_open = refl;
        txn = h.session.txn;
        clock = number_at;
        floor = h.session.floor;
        debt = h.session.debt;
        end = number_at;
        undo = refl;
      });
      first = first_ended (state u).core x.own (ap (λ a. a.is_open) at_worker);
      numbers = record {
        last = omega arith;
        order = omega arith;
        end = omega arith;
        room = λ q. absurd (true≢false (sym q));
        undo_room = λ some. absurd (omega arith);
        flush_room = λ _ some. absurd (omega arith);
        hand = hand;
        closed_txn = λ _. let q = h.numbers.txn in omega arith;
        txn = let q = h.numbers.txn in omega arith;
        few = omega arith;
        behind = few_behind;
      };
      flushed = flushed_u;
      floor = floor_u;
      behind = behind_u;
      held = λ i. ((λ q. absurd (true≢false (sym q ∙ (ap (λ k. holds_row (k i) x.own) row_u ∙ e.free i)))), (λ q. absurd q));
      within = λ i q. absurd q;
      fewer = omega arith;
      none = λ _. refl;
      free = free_same b u x.free (given ∙ e.given) (page_u ∙ page_w) h.free;
      spare = h.spare;
    }
      where
        at_worker : (state u).core.worker x.own ≡ finished (s0.worker x.own) (suc (s0.worker x.own).clock)
        at_worker = ap (λ k. k x.own) worker_u ∙ worker_w

  -- where nothing was flushed
  pub after_end_holds : (is : Log) → HasHand is → is.flushed ≡ log.flushed → is.last ≡ number → cond commit (suc x.unflushed) x.unflushed < x.group → Holds z w (waiting_session x number (cond commit (suc x.unflushed) x.unflushed)) is
  after_end_holds is hand flushed_is last_is few = holds_ended w refl refl refl refl refl refl is
      (ap (λ k. k x.own) flushed_w ∙ (h.flushed ∙ sym flushed_is))
      (let a = h.numbers.order in let k = h.numbers.last in omega arith) last_is hand floor_w (cond commit (suc x.unflushed) x.unflushed) behind_w few

  -- ## Behind the flush

  stands : any (λ r. is_record r.kind && ((r.log == x.own) && (r.number == number))) (entry ∷ s0.entries) ≡ true
  stands = or_true _ _ (and_true _ _ (an_end commit) (and_true _ _ (eq-eqb x.own x.own refl) (eq-eqb (suc (s0.worker x.own).clock) number number_at)))
    where
      an_end : (c : Bool) → is_record (cond c Kind.Commit Kind.Abort) ≡ true
      an_end true = refl
      an_end false = refl

  flushed_low : (state w).core.flushed x.own ≤ number
  flushed_low = let a = ap (λ k. k x.own) flushed_w in let c = h.flushed in let d = h.numbers.order in let k = h.numbers.last in omega arith

  pub flush_met : may (opening w.given) (state w).core (happening.Event.Flush x.own number) ≡ true
  flush_met = and_true _ _ (le-leb ((state w).core.flushed x.own) number flushed_low)
      (subst (λ es. any (λ r. is_record r.kind && ((r.log == x.own) && (r.number == number))) es ≡ true) (sym entries_w) stands)

  pub may_flush : HaveRoom b → (waiting : ℕ) (mid : Log) → mid.last ≡ number → MayFlush z w (waiting_session x number waiting) mid
  may_flush room waiting mid last = record { alone = h.alone; sized = h.rows.sized; low = h.rows.low; high = h.rows.high; last = last; small = let q = clock_low z b x log h room opened in omega arith; met = flush_met }

  -- no entry of its log is above that
  below : (r : Entry) → Has r (state w).core.entries → is_commit r.kind ≡ true → r.log ≡ x.own → r.number ≤ number
  below r i is own_is = let q = (subst (λ k. AreClocked k) (sym e.given) h.rows.clocked w.seen r i).0 in
      let c = ap (λ k. ((state w).core.worker k).clock) own_is ∙ clock_w in omega arith

  module _ (u : View) (given : u.given ≡ w.given) (seen : u.seen ≡ w.seen ++ Flush x.own number ∷ []) (held : u.held ≡ w.held) where
    core_u : (state u).core ≡ happens (opening w.given) (state w).core (happening.Event.Flush x.own number)
    core_u = ap (λ m. m.core) (seen_state w u (Flush x.own number ∷ []) given seen) ∙ met_core w.given (state w) (Flush x.own number) flush_met

    floor_u : x.clock.floor ≤ flushed_by_all (opening u.given) (state u).core
    floor_u = subst (λ k. x.clock.floor ≤ flushed_by_all (opening k) (state u).core) (sym given) (subst (λ (t : State). x.clock.floor ≤ flushed_by_all (opening w.given) t) (sym core_u)
        (floor_flush (opening w.given) (state w).core x.own number x.clock.floor flushed_low floor_w))

    pub after_flush_holds : (is : Log) → HasHand is → is.flushed ≡ number → is.last ≡ number → Holds z u (waiting_session x number 0) is
    after_flush_holds is hand flushed_is last_is = holds_ended u given held (ap (λ t. t.page) core_u) (ap (λ t. t.place) core_u) (ap (λ t. t.row) core_u) (ap (λ t. t.worker) core_u) is
        (ap (λ t. t.flushed x.own) core_u ∙ (upd_same (state w).core.flushed x.own number x.own refl ∙ sym flushed_is)) (omega arith) last_is hand floor_u 0
        (ap (λ (t : State). log_events.behind t x.own) core_u ∙ behind_flush (opening w.given) (state w).core x.own number below) (let q = h.numbers.behind in omega arith)
