-- Lock rows before they are latched, and latches that are given back.
use Rattle.std.proofs.Common.{◌≡◌, ◌↔◌, ◌≤◌, ◌^◌, ℕ, Bool, true, false, List, [], ◌++◌, length, replicate, refl, sym, ap, ◌∙◌, subst, arith, length-append, true≢false}
use Rattle.std.proofs.lemmas.List.{length-replicate}
use Rattle.map_model.specs.Lists.{Has}
use Rattle.session_state.specs.core_state.States.{State, flushed_by_all}
use Rattle.session_state.specs.core_state.Needs.{holds_row}
use Rattle.session_state.specs.worker_log.Logs.{Log}
use Rattle.session_state.specs.core_calls.LogEvents as log_events
use Rattle.session_state.specs.row_words.Openings.{opening}
use Rattle.session_state.specs.rows_trait.declared.view.Hold.{Hold}
use Rattle.session_state.specs.rows_trait.declared.view.View.{View}
use Rattle.session_state.specs.rows_trait.Views.{Shape, state}
use Rattle.session_state.specs.key_locks.Latching.{is_marked}
use Rattle.row_ends.specs.Ends.{AreAmong, AreMine, Missed}
use Rattle.session_state.specs.Holds.{Holds, IsOf}
use Rattle.session_state.specs.core_covers.Firsts.{first_of}
use Rattle.session_state.specs.declared.session.Session.{Session}
use Rattle.session_state.proofs.HoldLemmas.{rows_on}
use Rattle.row_ends.proofs.LatchLemmas.{replicated}
use Rattle.session_state.proofs.Moments.{free_same, seen_state}
use Rattle.row_ends.proofs.Misses.{misses_core}

-- where none is marked and none is held
pub start_mine : (frames count : ℕ) (marks : List Bool) (hs : List Hold) → marks ≡ replicate count false → hs ≡ [] → AreMine frames count marks hs
start_mine frames count marks hs m e = subst (λ ms. AreMine frames count ms hs) (sym m) (subst (λ ks. AreMine frames count (replicate count false) ks) (sym e) (record {
  many = length-replicate count false;
  latched = record { marked = λ j on. absurd (replicated count j on); others = λ j lt off. refl };
  only = λ row held. absurd (true≢false (sym held));
}))

pub start_among : (count : ℕ) (marks : List Bool) (rows : List ℕ) → marks ≡ replicate count false → AreAmong marks rows
start_among count marks rows m i on = absurd (replicated count i (subst (λ ms. is_marked ms i ≡ true) m on))

pub missed_from : (most : ℕ) (u v w : View) → v.given ≡ u.given → v.seen ≡ u.seen → Missed most v w → Missed most u w
missed_from most u v w given seen m = record { given = m.given ∙ given; misses = m.misses; are_misses = m.are_misses; few = m.few; seen = m.seen ∙ ap (λ ys. ys ++ m.misses) seen; idle = m.idle }

pub longer : (most : ℕ) (v w : View) → Missed most v w → 2 ^ 61 ≤ length v.seen → 2 ^ 61 ≤ length w.seen
longer most v w m le = let q = ap length m.seen ∙ length-append v.seen m.misses in omega arith

-- behind misses all is as it was
pub holds_missed : (z y : Shape) (v w : View) (x : Session) (log : Log) → y ≡ z → Missed (length x.held.rows) v w → Holds z v x log → Holds y w x log
holds_missed z y v w x log same m h = subst (λ k. Holds k w x log) (sym same) (record {
  alone = h.alone;
  idle = m.idle;
  rows = rows_on z v w x.own x.workers x.frames x.held.count m.given h.rows;
  session = subst (λ k. IsOf x (k.worker x.own)) (sym core_is) h.session;
  first = ap (λ k. first_of k x.own) core_is ∙ h.first;
  numbers = h.numbers;
  flushed = ap (λ k. k.flushed x.own) core_is ∙ h.flushed;
  floor = subst (λ k. x.clock.floor ≤ flushed_by_all (opening k) (state w).core) (sym m.given) (subst (λ (k : State). x.clock.floor ≤ flushed_by_all (opening v.given) k) (sym core_is) h.floor);
  behind = ap (λ (k : State). log_events.behind k x.own) core_is ∙ h.behind;
  held = λ i. subst (λ (k : State). holds_row (k.row i) x.own ≡ true ↔ Has i x.held.rows) (sym core_is) (h.held i);
  within = h.within;
  fewer = h.fewer;
  none = h.none;
  free = free_same v w x.free m.given (ap (λ k. k.page) core_is) h.free;
  spare = h.spare;
})
  where
    core_is : (state w).core ≡ (state v).core
    core_is = ap (λ k. k.core) (seen_state v w m.misses m.given m.seen) ∙ misses_core v.given (state v) m.misses m.are_misses
