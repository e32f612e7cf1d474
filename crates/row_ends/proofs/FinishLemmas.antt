-- The end of a session whose lock rows are latched, by what was loaded of all logs.
use Rattle.std.proofs.Common.{◌≡◌, ◌<◌, ◌+◌, ℕ, suc, Bool, true, false, cond, List, length, [], sym, ap, ◌∙◌, subst}
use Rattle.session_state.specs.core_state.States.{flushed_by_all}
use Rattle.lean_disk.specs.Story.{Story}
use Rattle.session_state.specs.worker_log.Logs.{Log}
use Rattle.session_state.specs.row_words.Openings.{opening}
use Rattle.session_state.specs.rows_trait.declared.view.View.{View}
use Rattle.session_state.specs.rows_trait.Views.{Shape, state}
use Rattle.row_ends.specs.Ends.{Ended, HasFlushed, Latched, MayEnd, MayFlush, waiting_session}
use Rattle.row_ends.specs.Flushed.{Looked, flushed_to}
use Rattle.session_state.specs.Holds.{Holds}
use Rattle.session_state.specs.Undo.{HasHand}
use Rattle.session_state.proofs.UndoLemmas.{flush_hand}
use Rattle.session_state.specs.declared.session.Session.{Session}
use Rattle.row_ends.proofs.CommitLemmas.{after_end_holds, after_flush_holds, ended_as, floor_is, latched_on, may_end, may_flush, same_state}

-- ## Where all flushed numbers were loaded

-- the rows are latched still, and this is the least of them
pub record Found (z : Shape) (v : View) (x : Session) (log : Log) (marks : List Bool) (floor : ℕ) : Type 0 where
  pub latched : Latched z v x log marks
  pub loaded : floor ≡ flushed_to (state v).core x.workers

pub found : (z y : Shape) (v w : View) (x : Session) (log : Log) (marks : List Bool) (floor : ℕ) → Latched z v x log marks → y ≡ z → (z.alone ≡ true → Looked v w) → (z.alone ≡ true → floor ≡ flushed_to (state v).core x.workers) → Found y w x log marks floor
found z y v w x log marks floor l same looked loaded =
    let s = looked l.holds.alone in record {
      latched = latched_on z y v w x log marks same s l;
      loaded = loaded l.holds.alone ∙ ap (λ m. flushed_to m.core x.workers) (sym (same_state v w s.given s.seen));
    }

-- ## From where its rows are latched

module _ (z : Shape) (v : View) (x : Session) (log : Log) (marks : List Bool) (opened : x.is_open ≡ true) (floor : ℕ) (f : Found z v x log marks floor) (number : ℕ) (number_is : number ≡ x.clock.clock + 1) where
  abbrev l : Latched z v x log marks
  l = f.latched

  floor_at : floor ≡ flushed_by_all (opening l.before.given) (state l.before).core
  floor_at = floor_is z l.before x log l.holds l.room v l.latching.given l.latching.seen opened floor f.loaded

  pub may_end_at : (commit : Bool) → (commit ≡ false → x.undo ≡ []) → MayEnd z v x commit floor marks
  may_end_at commit left = may_end z v x log marks commit floor l floor_at opened left

  module _ (commit : Bool) (w : View) (e : Ended x.own (length x.held.rows) v commit floor w) where
    ended : Ended x.own (length x.held.rows) l.before commit floor w
    ended = ended_as x.own (length x.held.rows) commit l.before v w floor l.latching.given l.latching.seen e

    -- where nothing was flushed
    pub holds_waiting : (is : Log) → HasHand is → is.flushed ≡ log.flushed → is.last ≡ number → cond commit (suc x.unflushed) x.unflushed < x.group → Holds z w (waiting_session x number (cond commit (suc x.unflushed) x.unflushed)) is
    holds_waiting is hand flushed_is last few = after_end_holds z l.before x log l.holds opened number number_is commit floor w ended is hand flushed_is last few

    pub may_flush_at : (waiting : ℕ) (mid : Log) → mid.last ≡ number → MayFlush z w (waiting_session x number waiting) mid
    may_flush_at waiting mid last = may_flush z l.before x log l.holds opened number number_is commit floor w ended l.room waiting mid last

    pub holds_flushed : (waiting : ℕ) (u : View) (y : Session) (mid is : Log) (now new : Story) → mid.last ≡ number → HasFlushed w u (waiting_session x number waiting) y mid is now new → Holds z u y is
    holds_flushed waiting u y mid is now new last d = subst (λ k. Holds z u k is) (sym d.session)
        (after_flush_holds z l.before x log l.holds opened number number_is commit floor w ended u d.given d.seen d.held is (subst HasHand (sym d.after) (flush_hand mid))
        (ap (λ (k : Log). k.flushed) d.after ∙ last) (ap (λ (k : Log). k.last) d.after ∙ last))

-- it says how far all logs were flushed
pub floor_found : (z : Shape) (v : View) (x : Session) (log : Log) (marks : List Bool) → Latched z v x log marks → x.is_open ≡ true → (floor : ℕ) → floor ≡ flushed_to (state v).core x.workers → floor ≡ flushed_by_all (opening v.given) (state v).core
floor_found z v x log marks l opened floor loaded =
    floor_is z l.before x log l.holds l.room v l.latching.given l.latching.seen opened floor loaded ∙ sym (λ i. flushed_by_all (opening (l.latching.given i)) (same_state l.before v l.latching.given l.latching.seen i).core)
