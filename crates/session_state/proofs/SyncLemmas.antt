-- A flush of a session's log whole, and a sync: what is so behind them, in memory.
use Rattle.std.proofs.Common.{◌≡◌, ◌≤◌, ◌<◌, ◌+◌, ◌*◌, ◌^◌, ◌==◌, ◌&&◌, ◌++◌, ℕ, zero, suc, Bool, true, false, cond, leb, max, not, [], ◌∷◌, length, inl, inr, refl, sym, ap, ◌∙◌, subst, arith, append-nil, ◌↔◌}
use Rattle.std.proofs.lemmas.Bool.{and_from, and_parts, cases_lt, cond-false, cond-true, eq-eqb, eqb-true, le-leb, leb-true, ne_eqb, or_cases, or_left, or_right}
use Rattle.map_model.specs.Lists.{Has}
use Rattle.map_model.proofs.ListLemmas.{has_any, upd_same}
use Rattle.btree_descent.specs.image_model.Entries.{Entry, is_commit, is_record}
use Rattle.rfa_model.proofs.ReachLemmas.{least_from, least_low}
use Rattle.btree_descent.specs.core_state.Events as happening
use Rattle.btree_descent.specs.core_state.Lists.{most}
use Rattle.btree_descent.specs.core_state.Needs.{holds_row, is_behind, may}
use Rattle.btree_descent.specs.core_state.States.{State, flushed_by_all}
use Rattle.btree_descent.specs.core_state.Steps.{happens}
use Rattle.core_covers.specs.Firsts.{first_of}
use Rattle.engine_calls.proofs.core_calls.EntryLemmas.{commit_record}
use Rattle.engine_calls.specs.core_calls.LogEvents as log_events
use Rattle.lean_disk.specs.Story.{Story}
use Rattle.engine_calls.specs.log_calls.Wholes.{EndsInRecord, FlushesWhole, flush_of}
use Rattle.engine_calls.specs.worker_log.Calls.{flushed_log}
use Rattle.engine_calls.specs.worker_log.Logs.{Log}
use Rattle.btree_descent.specs.row_words.declared.event.Event.TheVariants.{Flush, Sync}
use Rattle.btree_descent.proofs.core_commit.Controls.{le_most}
use Rattle.btree_descent.specs.row_words.Moments.{events_of}
use Rattle.btree_descent.specs.row_words.Openings.{opening}
use Rattle.btree_descent.specs.rows_trait.declared.view.View.{View}
use Rattle.btree_descent.specs.rows_trait.Turns.{MayTurn, Synced, Turned}
use Rattle.btree_descent.specs.rows_trait.Layout.{count_of}
use Rattle.btree_descent.specs.rows_trait.Views.{Shape, state}
use Rattle.btree_descent.specs.lean_proto.Controls as controls
use Rattle.session_state.specs.Holds.{Holds, IsOf}
use Rattle.session_state.specs.Syncs.{EveryFlush, EverySynced, FlushesOwn, HasNoneBehind, HasSynced, MayFlush, finds_room, flushed_of, flushes_of, synced_session}
use Rattle.session_state.specs.Undo.{filled}
use Rattle.session_state.specs.declared.session.Session.{Session}
use Rattle.session_state.proofs.HoldLemmas.{rows_on}
use Rattle.session_state.proofs.WaitLemmas.{behind_flush, behind_same, floor_flush}
use Rattle.session_state.proofs.Moments.{acts, free_same, goes_seen, met_core, seen_state}
use Rattle.session_state.proofs.OtherLemmas.{is_own, no_steps, one_step}
use Rattle.session_state.proofs.UndoLemmas.{flush_again, flush_hand, flush_used, room_to_flush}

-- ## Words

-- a worker has so many words
pub has_word : (own i : ℕ) → 0 < own → i < 4 → i < count_of own
has_word zero i low few = absurd (omega arith)
has_word (suc w) i low few = few

-- ## What is to be flushed

-- nothing
none_of : (own : ℕ) (log : Log) → log.last ≡ log.flushed → flushes_of own log ≡ []
none_of own log all = cond-true (log.last == log.flushed) [] (Flush own log.last ∷ []) (eq-eqb log.last log.flushed all)

still_of : (log : Log) → log.last ≡ log.flushed → flushed_of log ≡ log
still_of log all = cond-true (log.last == log.flushed) log (flushed_log log) (eq-eqb log.last log.flushed all)

-- or up to the last number
one_of : (own : ℕ) (log : Log) → (log.last ≡ log.flushed → ⊥) → flushes_of own log ≡ Flush own log.last ∷ []
one_of own log differs = cond-false (log.last == log.flushed) [] (Flush own log.last ∷ []) (ne_eqb log.last log.flushed differs)

flushed_is : (log : Log) → (log.last ≡ log.flushed → ⊥) → flushed_of log ≡ flushed_log log
flushed_is log differs = cond-false (log.last == log.flushed) log (flushed_log log) (ne_eqb log.last log.flushed differs)

-- it is the core's event
as_core : (own : ℕ) (log : Log) → events_of (flushes_of own log) ≡ flush_of own log
as_core own log = go (log.last == log.flushed)
  where
    go : (b : Bool) → events_of (cond b [] (Flush own log.last ∷ [])) ≡ cond b [] (happening.Event.Flush own log.last ∷ [])
    go true = refl
    go false = refl

-- ## Where nothing was

pub flushes_none : (v : View) (x : Session) (was is : Log) (old new : Story) → was.last ≡ was.flushed → is ≡ was → FlushesWhole x.own was is old new → FlushesOwn v v x x was is old new
flushes_none v x was is old new all same stands = record {
  given = refl;
  seen = sym (ap (λ ys. v.seen ++ ys) (none_of x.own was all) ∙ append-nil v.seen);
  core = as_core x.own was;
  steps = no_steps x.own v v refl refl;
  session = refl;
  after = same ∙ sym (still_of was all);
  last = ap (λ (l : Log). l.last) same;
  flushed = ap (λ (l : Log). l.flushed) same ∙ (sym all ∙ ap (λ (l : Log). l.last) (sym same));
  stands = stands;
}

-- ## Where something was

module _ (z : Shape) (v : View) (x : Session) (log : Log) (h : Holds z v x log) (ends : EndsInRecord (state v).core x.own log) (last : HasNoneBehind (state v).core x.own log) (differs : log.last ≡ log.flushed → ⊥) where
  abbrev s : State
  s = (state v).core

  low : s.flushed x.own ≤ log.last
  low = let a = h.flushed in let b = h.numbers.order in omega arith

  flush_met : may (opening v.given) s (happening.Event.Flush x.own log.last) ≡ true
  flush_met =
      let d = ends differs in
      and_from _ _ (le-leb (s.flushed x.own) log.last low)
      (has_any (λ (r : Entry). is_record r.kind && ((r.log == x.own) && (r.number == log.last))) s.entries d.0 d.1
      (and_from (is_record d.0.kind) ((d.0.log == x.own) && (d.0.number == log.last)) d.2 (and_from (d.0.log == x.own) (d.0.number == log.last) (eq-eqb d.0.log x.own d.3) (eq-eqb d.0.number log.last d.4))))

  pub whole_turn : controls.EveryTurn → log.last < 2 ^ 64 → MayTurn z x.own 0 (λ _. log.last) (λ _. Flush x.own log.last ∷ []) v
  whole_turn turns small = (turns z v x.own).flush log.last (record {
    actor = acts z v x.own h.alone;
    some = h.rows.low;
    met = flush_met;
    small = small;
  })

  module _ (n : ℕ) (w : View) (t : Turned z x.own 0 (λ _. log.last) (λ _. Flush x.own log.last ∷ []) v n w) (y : Session) (session : y ≡ record x { unflushed = 0 }) (is : Log) (after : is ≡ flushed_log log) where
    given : w.given ≡ v.given
    given = t.goes.given

    seen : w.seen ≡ v.seen ++ Flush x.own log.last ∷ []
    seen = goes_seen z v w (Flush x.own log.last ∷ []) h.alone t.goes

    core_w : (state w).core ≡ happens (opening v.given) s (happening.Event.Flush x.own log.last)
    core_w = ap (λ m. m.core) (seen_state v w (Flush x.own log.last ∷ []) given seen) ∙ met_core v.given (state v) (Flush x.own log.last) flush_met

    pub flushes_some : (old new : Story) → FlushesWhole x.own log is old new → FlushesOwn v w x y log is old new
    flushes_some old new stands = record {
      given = given;
      seen = seen ∙ ap (λ ys. v.seen ++ ys) (sym (one_of x.own log differs));
      core = as_core x.own log;
      steps = one_step x.own v w (Flush x.own log.last) given seen (is_own x.own) flush_met;
      session = session ∙ (λ i. record x { unflushed = sym (ap (λ (k : Session). k.unflushed) session) i });
      after = after ∙ sym (flushed_is log differs);
      last = ap (λ (l : Log). l.last) after;
      flushed = ap (λ (l : Log). l.flushed) after ∙ ap (λ (l : Log). l.last) (sym after);
      stands = stands;
    }

    floor_w : x.clock.floor ≤ flushed_by_all (opening w.given) (state w).core
    floor_w = subst (λ k. x.clock.floor ≤ flushed_by_all (opening k) (state w).core) (sym given) (subst (λ (k : State). x.clock.floor ≤ flushed_by_all (opening v.given) k) (sym core_w)
        (floor_flush (opening v.given) s x.own log.last x.clock.floor low h.floor))

    pub holds_whole : MayFlush x log → Holds z w y is
    holds_whole may_flush = subst (λ k. Holds z w k is) (sym session) (subst (λ l. Holds z w (record x { unflushed = 0 }) l) (sym after) (record {
      alone = h.alone;
      idle = t.held ∙ h.idle;
      rows = rows_on z v w x.own x.workers x.frames x.held.count given h.rows;
      session = subst (λ (k : State). IsOf (record x { unflushed = 0 }) (k.worker x.own)) (sym core_w) (let i = h.session in record { is_open = i.is_open; txn = i.txn; clock = i.clock; floor = i.floor; debt = i.debt; end = i.end; undo = i.undo });
      first = ap (λ (k : State). first_of k x.own) core_w ∙ h.first;
      numbers = record {
        last = h.numbers.last;
        order = omega arith;
        end = h.numbers.end;
        room = λ opened. let a = h.numbers.room opened in let b = flush_used log in omega arith;
        undo_room = may_flush;
        flush_room = λ going some. let a = h.numbers.flush_room going some in let b = flush_used log in omega arith;
        hand = flush_hand log;
        closed_txn = h.numbers.closed_txn;
        txn = h.numbers.txn;
        few = h.numbers.few;
        behind = let a = h.numbers.behind in omega arith;
      };
      flushed = ap (λ k. k.flushed x.own) core_w ∙ upd_same s.flushed x.own log.last x.own refl;
      floor = floor_w;
      behind = ap (λ (k : State). log_events.behind k x.own) core_w ∙ behind_flush (opening v.given) s x.own log.last (λ e i is. last e i (commit_record e.kind is));
      held = λ i. subst (λ (k : State). holds_row (k.row i) x.own ≡ true ↔ Has i x.held.rows) (sym core_w) (h.held i);
      within = h.within;
      fewer = h.fewer;
      none = h.none;
      free = free_same v w x.free given (ap (λ k. k.page) core_w) h.free;
      spare = h.spare;
    }))

-- ## Which sessions may be flushed

-- that it does is decided
module _ (x : Session) (log : Log) where
  abbrev needed : ℕ
  needed = filled (flushed_log log) + (64 * length x.undo + 2064)

  abbrev fits : Bool
  fits = leb needed (1900 * log.blocks)

  found : finds_room x log ≡ true → MayFlush x log
  found e some = elim (or_cases (length x.undo == 0) fits e) [
    | inl none ↦ (let n = eqb-true (length x.undo) 0 none in absurd (omega arith))
    | inr k ↦ leb-true needed (1900 * log.blocks) k
  ]

  find : MayFlush x log → finds_room x log ≡ true
  find may_flush = elim (cases_lt 0 (length x.undo)) [
    | inl some ↦ or_right (length x.undo == 0) fits (le-leb needed (1900 * log.blocks) (may_flush some))
    | inr none ↦ or_left (length x.undo == 0) fits (eq-eqb (length x.undo) 0 (omega arith))
  ]

pub every_flush : EveryFlush
every_flush = record {
  decided = λ x log. (found x log, find x log);
  whole = λ z v x log h going some. let n = h.numbers in room_to_flush log (length x.undo) n.hand (n.flush_room going some) n.few;
  flushed = λ x log may_flush some. let a = may_flush some in let b = flush_again log in omega arith;
  synced = λ x log number may_flush. may_flush;
}

-- ## A sync

pub has_synced : (z : Shape) (v w : View) (number : ℕ) → z.alone ≡ true → may (opening v.given) (state v).core (happening.Event.Sync number) ≡ true → Synced z number (Sync number ∷ []) v w → HasSynced v w number
has_synced z v w number alone met e = record { given = e.goes.given; seen = goes_seen z v w (Sync number ∷ []) alone e.goes; held = e.held; met = met }

-- it is up to the greatest clock
sync_number : (v : View) (number : ℕ) → may (opening v.given) (state v).core (happening.Event.Sync number) ≡ true → number ≡ most (λ u. ((state v).core.worker u).clock) (opening v.given).workers
sync_number v number met = eqb-true number (most (λ u. ((state v).core.worker u).clock) (opening v.given).workers)
    (and_parts (number == most (λ u. ((state v).core.worker u).clock) (opening v.given).workers) (not (is_behind (state v).core)) met).0

pub every_synced : EverySynced
every_synced z v w x log number h whole e = record {
  alone = h.alone;
  idle = e.held ∙ h.idle;
  rows = rows_on z v w x.own x.workers x.frames x.held.count e.given h.rows;
  session = subst (λ (k : State). IsOf (synced_session x number) (k.worker x.own)) (sym core_w) (let i = h.session in record { is_open = i.is_open; txn = i.txn; clock = clock_is; floor = i.floor; debt = i.debt; end = i.end; undo = i.undo });
  first = ap (λ (k : State). first_of k x.own) core_w ∙ h.first;
  numbers = let n = h.numbers in record {
    last = omega arith;
    order = omega arith;
    end = let a = n.end in let b = reach in omega arith;
    room = n.room;
    undo_room = n.undo_room;
    flush_room = n.flush_room;
    hand = n.hand;
    closed_txn = λ closed. let a = n.closed_txn closed in let b = reach in omega arith;
    txn = let a = n.txn in let b = reach in omega arith;
    few = n.few;
    behind = let a = n.behind in omega arith;
  };
  flushed = ap (λ k. k.flushed x.own) core_w;
  floor = subst (λ k. x.clock.floor ≤ flushed_by_all (opening k) (state w).core) (sym e.given) (subst (λ (k : State). x.clock.floor ≤ flushed_by_all (opening v.given) k) (sym core_w)
      (least_from (λ _. number) (opening v.given).workers x.clock.floor (opening v.given).some_worker (λ u some high. floor_low)));
  behind = ap (λ (k : State). log_events.behind k x.own) core_w
      ∙ (behind_same (happens (opening v.given) (state v).core (happening.Event.Flush x.own number)) (happens (opening v.given) (state v).core (happening.Event.Sync number)) x.own refl (sym (upd_same (state v).core.flushed x.own number x.own refl))
      ∙ behind_flush (opening v.given) (state v).core x.own number below);
  held = λ i. subst (λ (k : State). holds_row (k.row i) x.own ≡ true ↔ Has i x.held.rows) (sym core_w) (h.held i);
  within = h.within;
  fewer = h.fewer;
  none = h.none;
  free = free_same v w x.free e.given (ap (λ k. k.page) core_w) h.free;
  spare = h.spare;
}
  where
    core_w : (state w).core ≡ happens (opening v.given) (state v).core (happening.Event.Sync number)
    core_w = ap (λ m. m.core) (seen_state v w (Sync number ∷ []) e.given e.seen) ∙ met_core v.given (state v) (Sync number) e.met

    number_is : number ≡ most (λ u. ((state v).core.worker u).clock) (opening v.given).workers
    number_is = sync_number v number e.met

    -- no clock is above it
    own_low : ((state v).core.worker x.own).clock ≤ number
    own_low = let a = le_most (λ u. ((state v).core.worker u).clock) (opening v.given).workers x.own (h.rows.low, let p = h.rows.high in let q = h.rows.workers in omega arith) in let b = number_is in omega arith

    reach : x.clock.clock ≤ number
    reach = let a = own_low in let b = h.session.clock in omega arith

    clock_is : max ((state v).core.worker x.own).clock number ≡ number
    clock_is = let a = own_low in omega arith

    floor_low : x.clock.floor ≤ number
    floor_low = let a = h.floor in let b = least_low (state v).core.flushed (opening v.given).workers x.own h.rows.low (let p = h.rows.high in let q = h.rows.workers in omega arith) in
        let c = h.flushed in let d = h.numbers.order in let k = h.numbers.last in let r = reach in omega arith

    below : (r : Entry) → Has r (state v).core.entries → is_commit r.kind ≡ true → r.log ≡ x.own → r.number ≤ number
    below r i is own_is = let a = (h.rows.clocked v.seen r i).0 in let b = ap (λ k. ((state v).core.worker k).clock) own_is in let c = own_low in omega arith
