-- A cut: what is so behind it, in memory.
use Rattle.std.proofs.Common.{◌≡◌, ◌≤◌, ◌<◌, ◌+◌, ◌-◌, ◌*◌, ◌==◌, ◌↔◌, ℕ, Bool, true, false, cond, List, length, sym, ap, ◌∙◌, subst, arith}
use Rattle.map_model.specs.Lists.{Has}
use Rattle.btree_descent.specs.core_state.Needs.{holds_row}
use Rattle.btree_descent.specs.core_state.States.{State, flushed_by_all}
use Rattle.core_covers.specs.Firsts.{first_of}
use Rattle.engine_calls.specs.core_calls.LogEvents as log_events
use Rattle.engine_calls.specs.worker_log.Calls.{cut_log}
use Rattle.engine_calls.specs.worker_log.Logs.{Log, used}
use Rattle.btree_descent.specs.row_words.Openings.{opening}
use Rattle.btree_descent.specs.rows_trait.Views.{state}
use Rattle.row_cuts.specs.Cuts.{HasCut}
use Rattle.session_state.specs.Holds.{Holds, IsOf}
use Rattle.session_state.specs.Syncs.{EveryCut}
use Rattle.session_state.specs.Undo.{filled}
use Rattle.session_state.proofs.HoldLemmas.{rows_on}
use Rattle.session_state.proofs.Moments.{free_same}

-- a log that has passed some blocks uses no more, and is filled no further
cut_used : (k : ℕ) (log : Log) → used (cut_log k log) ≤ used log
cut_used k log = let b : ℕ = cond (log.count == 0) 0 1 in less b
  where
    less : (b : ℕ) → (log.next - (log.head + k)) + b ≤ (log.next - log.head) + b
    less b = omega arith

cut_filled : (k : ℕ) (log : Log) → filled (cut_log k log) ≤ filled log
cut_filled k log = omega arith

pub every_cut : EveryCut
every_cut z v w x log number passed heads h e = record {
  alone = h.alone;
  idle = e.held ∙ h.idle;
  rows = rows_on z v w x.own x.workers x.frames x.held.count e.given h.rows;
  session = subst (λ (k : State). IsOf x (k.worker x.own)) (sym e.core) (let i = h.session in record { is_open = i.is_open; txn = i.txn; clock = i.clock; floor = i.floor; debt = i.debt; end = i.end; undo = i.undo });
  first = ap (λ (k : State). first_of k x.own) e.core ∙ h.first;
  numbers = let n = h.numbers in record {
    last = n.last;
    order = n.order;
    end = n.end;
    room = λ opened. let a = n.room opened in let b = cut_used passed log in omega arith;
    undo_room = λ some. let a = n.undo_room some in let b = cut_filled passed log in omega arith;
    flush_room = λ going some. let a = n.flush_room going some in let b = cut_used passed log in omega arith;
    hand = n.hand;
    closed_txn = n.closed_txn;
    txn = n.txn;
    few = n.few;
    behind = n.behind;
  };
  flushed = ap (λ (k : State). k.flushed x.own) e.core ∙ h.flushed;
  floor = subst (λ k. x.clock.floor ≤ flushed_by_all (opening k) (state w).core) (sym e.given) (subst (λ (k : State). x.clock.floor ≤ flushed_by_all (opening v.given) k) (sym e.core) h.floor);
  behind = ap (λ (k : State). log_events.behind k x.own) e.core ∙ h.behind;
  held = λ i. subst (λ (k : State). holds_row (k.row i) x.own ≡ true ↔ Has i x.held.rows) (sym e.core) (h.held i);
  within = h.within;
  fewer = h.fewer;
  none = h.none;
  free = free_same v w x.free e.given (ap (λ k. k.page) e.core) h.free;
  spare = h.spare;
}
