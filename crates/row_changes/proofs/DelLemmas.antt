-- A del that finds no value, behind the taking of its row.
use Rattle.std.proofs.Common.{◌≡◌, ◌↔◌, ◌≤◌, ◌++◌, ◌&&◌, ℕ, true, List, [], ◌∷◌, Option, Some, None, Err, refl, sym, ap, ◌∙◌, subst, arith, append-nil, true≢false}
use Rattle.std.proofs.lemmas.Bool.{and_parts}
use Rattle.map_model.specs.Lists.{Has}
use Rattle.map_model.proofs.ListLemmas.{upd_same}
use Rattle.session_state.specs.core_state.Events as happening
use Rattle.session_state.specs.core_state.Needs.{are_hot, holds_row, is_value, may, may_read, value_in}
use Rattle.session_state.specs.core_state.States.{State, Worker, flushed_by_all}
use Rattle.session_state.specs.core_state.Steps.{at_pages, happens}
use Rattle.session_state.specs.core_calls.LogEvents as commits
use Rattle.session_state.specs.log_record.declared.record.Record.{Record}
use Rattle.session_state.specs.worker_log.Logs.{Log}
use Rattle.session_state.specs.row_words.declared.event.Event.TheVariants.{Read}
use Rattle.session_state.specs.row_words.Openings.{opening}
use Rattle.session_state.specs.rows_trait.Views.{Shape, after_all, state}
use Rattle.session_state.specs.rows_trait.declared.view.View.{View}
use Rattle.session_state.specs.btree_descent.Dels.{WasAbsent}
use Rattle.session_state.specs.flush_avoidance.Clocks.{risen}
use Rattle.session_state.specs.Holds.{AreNumbers, Holds, IsOf, IsSameSession}
use Rattle.lean_disk.specs.Story.{Story}
use Rattle.row_changes.specs.Dels.{Dels}
use Rattle.row_changes.specs.Reads.{HasRead}
use Rattle.row_changes.specs.Ways.{IsLost}
use Rattle.row_changes.specs.declared.ways.Unmade.{Unmade}
use Rattle.row_changes.specs.declared.ways.Unmade.TheVariants as unmade
use Rattle.session_state.specs.Staging.{IsButClock, IsButStaged}
use Rattle.session_state.specs.declared.session.Session.{Session}
use Rattle.session_state.specs.core_covers.Firsts.{first_of}
use Rattle.session_state.proofs.FirstLemmas.{first_read}
use Rattle.session_state.proofs.HoldLemmas.{rows_on}
use Rattle.session_state.proofs.Moments.{free_same}
use Rattle.row_changes.proofs.SeenLemmas.{seen_core}

-- ## The session

-- it stays the same by what it meets, and by what it stages
pub same_by_clock : (x y : Session) → IsButClock x y → IsSameSession x y
same_by_clock x y e = (ap (λ (k : Session). k.own) e, ap (λ (k : Session). k.workers) e, ap (λ (k : Session). k.group) e)

pub same_by_staged : (x y : Session) → IsButStaged x y → IsSameSession x y
same_by_staged x y e = (ap (λ (k : Session). k.own) e, ap (λ (k : Session). k.workers) e, ap (λ (k : Session). k.group) e)

pub same_then : (x y z : Session) → IsSameSession x y → IsSameSession y z → IsSameSession x z
same_then x y z p q = (q.0 ∙ p.0, q.1 ∙ p.1, q.2 ∙ p.2)

-- ## What it never comes to

-- a del puts nothing back, so no entry is found lost
pub none_lost_by_del : (k : Unmade) (own : ℕ) (v w : View) (key : ℕ) (was is : Log) (old new : Story) (same same_disk : Type 0) → Dels (Err k) own v w key was is old new same same_disk → IsLost k → ⊥
none_lost_by_del unmade.Lost own v w key was is old new same same_disk d lost = d
none_lost_by_del (unmade.Cold cold) own v w key was is old new same same_disk d lost = lost
none_lost_by_del (unmade.Unserved why) own v w key was is old new same same_disk d lost = lost

-- ## No value

-- no value is the same as none alone
none_value : (a : Option ℕ) → is_value None a ≡ true → None ≡ a
none_value None e = refl
none_value (Some n) e = absurd (true≢false (sym e))

module _ (z : Shape) (v w : View) (x y : Session) (log : Log) (key : ℕ) (h : Holds z v x log) (is_open : x.is_open ≡ true) (rs now : List Record) (d : WasAbsent z.alone x.own key v rs w y.clock now) (held : w.held ≡ []) (only : IsButClock x y) where
  abbrev s : State
  s = (state v).core

  abbrev page : ℕ
  page = d.answered.page

  abbrev read : happening.Event
  read = happening.Event.Read x.own page key None

  -- the worker behind it, which has touched the leaf
  abbrev touched : Worker
  touched = at_pages s x.own (s.worker x.own) (page ∷ [])

  given_is : w.given ≡ v.given
  given_is = d.answered.ran.given

  past_is : d.answered.past ≡ v.seen
  past_is = d.answered.onward.whole ∙ (ap (λ ys. v.seen ++ ys) (d.answered.onward.quiet h.alone) ∙ append-nil v.seen)

  seen_is : w.seen ≡ v.seen ++ Read x.own page key None ∷ []
  seen_is = d.answered.seen ∙ ap (λ ys. ys ++ Read x.own page key None ∷ []) past_is

  read_met : may (opening v.given) s read ≡ true
  read_met = (λ i. may (opening (sym given_is i)) (after_all (sym given_is i) (sym past_is i)).core read) ∙ d.met

  -- the leaf said so before the read
  none_told : None ≡ value_in (opening v.given).format (s.page page).node key
  none_told = none_value (value_in (opening v.given).format (s.page page).node key)
      (and_parts (may_read (opening v.given) s x.own page key) (is_value None (value_in (opening v.given).format (s.page page).node key))
      (and_parts (are_hot s (page ∷ [])) (may_read (opening v.given) s x.own page key && is_value None (value_in (opening v.given).format (s.page page).node key)) read_met).1).1

  -- the read of none was seen
  pub is_absent : HasRead x.own v w key None
  is_absent = record { page = page; given = given_is; seen = seen_is; met = read_met; told = none_told }

  core_is : (state w).core ≡ happens (opening v.given) s read
  core_is = seen_core v w (Read x.own page key None) given_is seen_is read_met

  worker_is : (happens (opening v.given) s read).worker x.own ≡ touched
  worker_is = upd_same s.worker x.own touched x.own refl

  clock_is : y.clock.clock ≡ touched.clock
  clock_is = ap (λ c. c.clock) d.clock ∙ (ap (λ k. (k.worker x.own).clock) core_is ∙ ap (λ (k : Worker). k.clock) worker_is)

  debt_is : y.clock.debt ≡ touched.debt
  debt_is = ap (λ c. c.debt) d.clock ∙ (ap (λ k. (k.worker x.own).debt) core_is ∙ ap (λ (k : Worker). k.debt) worker_is)

  -- the clock has not fallen
  clock_from : x.clock.clock ≤ y.clock.clock
  clock_from = let q = h.session.clock in let c = clock_is in omega arith

  abbrev next : Session
  next = record x { clock = risen x.clock y.clock }

  session_on : IsOf next touched
  session_on = record {
    is_open = h.session.is_open;
    txn = h.session.txn;
    clock = sym clock_is;
    floor = h.session.floor;
    debt = sym debt_is;
    end = h.session.end;
    undo = h.session.undo;
  }

  numbers_on : AreNumbers next log
  numbers_on = record {
    last = let k = h.numbers.last in let q = clock_from in omega arith;
    order = h.numbers.order;
    end = let k = h.numbers.end in let q = clock_from in omega arith;
    room = h.numbers.room;
    undo_room = h.numbers.undo_room;
    flush_room = h.numbers.flush_room;
    hand = h.numbers.hand;
    closed_txn = λ e. absurd (true≢false (sym is_open ∙ e));
    txn = let k = h.numbers.txn in let q = clock_from in omega arith;
    few = h.numbers.few;
    behind = h.numbers.behind;
  }

  after_read : Holds z w next log
  after_read = record {
    alone = h.alone;
    idle = held;
    rows = rows_on z v w x.own x.workers x.frames x.held.count given_is h.rows;
    session = subst (λ k. IsOf next (k.worker x.own)) (sym core_is) (subst (IsOf next) (sym worker_is) session_on);
    first = ap (λ k. first_of k x.own) core_is ∙ (first_read s (happens (opening v.given) s read) x.own _ (ap (λ k. k.is_open) worker_is) (ap (λ k. k.txn) worker_is) refl refl ∙ h.first);
    numbers = numbers_on;
    flushed = ap (λ k. k.flushed x.own) core_is ∙ h.flushed;
    floor = subst (λ n. x.clock.floor ≤ n) (λ i. flushed_by_all (opening (sym given_is i)) (sym core_is i)) h.floor;
    behind = ap (λ k. commits.behind k x.own) core_is ∙ h.behind;
    held = λ i. subst (λ k. holds_row (k.row i) x.own ≡ true ↔ Has i x.held.rows) (sym core_is) (h.held i);
    within = h.within;
    fewer = h.fewer;
    none = h.none;
    free = free_same v w x.free given_is (ap (λ k. k.page) core_is) h.free;
    spare = h.spare;
  }

  pub holds_absent : Holds z w y log
  holds_absent = subst (λ k. Holds z w k log) (sym only) after_read
