-- The end of a transaction, at the session's control word, and its rows behind it.
use Rattle.std.proofs.Common.{◌≡◌, ◌+◌, ℕ, Bool, true, false, List, [], ◌∷◌, ◌++◌, sym, ap, ◌∙◌, subst, arith}
use Rattle.std.proofs.lemmas.List.{append_assoc}
use Rattle.session_state.specs.core_state.Events as happening
use Rattle.session_state.specs.core_state.States.{State}
use Rattle.session_state.specs.core_state.Needs.{holds_row, may}
use Rattle.session_state.specs.core_state.Steps as core
use Rattle.session_state.specs.core_state.Steps.{AllMet, finished, happens}
use Rattle.session_state.specs.engine_calls.Commits.{unlocks}
use Rattle.session_state.proofs.engine_calls.UnlockLemmas.{if_met}
use Rattle.session_state.specs.row_words.declared.event.Event.TheVariants.{End, Flush}
use Rattle.session_state.specs.row_words.Openings.{opening}
use Rattle.lean_disk.specs.Story.{Story}
use Rattle.session_state.specs.log_calls.Calls.{FlushesOn}
use Rattle.session_state.specs.worker_log.Calls.{flushed_log}
use Rattle.session_state.specs.worker_log.Logs.{Log}
use Rattle.session_state.specs.rows_trait.declared.view.View.{View}
use Rattle.session_state.specs.rows_trait.Views.{Shape, state}
use Rattle.session_state.specs.rows_trait.Turns.{MayTurn, Turned}
use Rattle.session_state.specs.lean_proto.Controls as controls
use Rattle.row_ends.specs.Ends.{AreHeld, AreMine, Ended, Gave, HasFlushed, MayEnd, MayFlush, gives}
use Rattle.session_state.specs.declared.session.Session.{Session}
use Rattle.session_state.proofs.Moments.{acts, goes_seen, goes_state, met_core}

module _ (turns : controls.EveryTurn) (z : Shape) (v : View) (x : Session) (commit : Bool) (floor number : ℕ) (marks : List Bool) (m : MayEnd z v x commit floor marks) (number_is : number ≡ x.clock.clock + 1) where
  met : may (opening v.given) (state v).core (happening.Event.End x.own commit floor) ≡ true
  met = (turns z v x.own).need commit floor m.can

  known : controls.IsEnd z v x.own commit floor number
  known = record { actor = acts z v x.own m.alone; some = m.locks.works.one; met = met; number_is = let q = m.clock in omega arith; small = let q = m.small in omega arith }

  pub may_turn : MayTurn z x.own 1 (λ _. number) (λ _. End x.own commit floor ∷ []) v
  may_turn = (turns z v x.own).end commit floor number known

  module _ (n : ℕ) (w : View) (t : Turned z x.own 1 (λ _. number) (λ _. End x.own commit floor ∷ []) v n w) where
    core_is : (state w).core ≡ happens (opening v.given) (state v).core (happening.Event.End x.own commit floor)
    core_is = ap (λ k. k.core) (goes_state z v w (End x.own commit floor ∷ []) m.alone t.goes) ∙ met_core v.given (state v) (End x.own commit floor) met

    worker : (state w).core.worker x.own ≡ finished ((state v).core.worker x.own) number
    worker = ((turns z v x.own).ended commit floor number n w known t).worker

    pub closed : ((state w).core.worker x.own).is_open ≡ false
    closed = ap (λ k. k.is_open) worker

    pub end_is : number ≡ ((state w).core.worker x.own).end
    end_is = sym (ap (λ k. k.end) worker)

    pub mine : AreMine x.frames x.held.count marks w.held
    mine = subst (λ hs. AreMine x.frames x.held.count marks hs) (sym t.held) m.mine

    pub held : AreHeld x.own w marks
    held i = ap (λ s. holds_row (s.row i) x.own) core_is ∙ m.held i

    module _ (most : ℕ) (u : View) (g : Gave x.own most w u) where
      stepped : (state w).core ≡ core.step (opening v.given) (state v).core (happening.Event.End x.own commit floor)
      stepped = core_is ∙ sym (if_met (may (opening v.given) (state v).core (happening.Event.End x.own commit floor)) met (state v).core (happens (opening v.given) (state v).core (happening.Event.End x.own commit floor)))

      pub ended : Ended x.own most v commit floor u
      ended = record {
        given = g.gives.given ∙ t.goes.given;
        rows = g.rows;
        few = g.few;
        seen = g.gives.seen ∙ (ap (λ ys. ys ++ gives x.own g.rows) (goes_seen z v w (End x.own commit floor ∷ []) m.alone t.goes) ∙ append_assoc v.seen (End x.own commit floor ∷ []) (gives x.own g.rows));
        met = (met, subst (λ (s : State). AllMet (opening v.given) s (unlocks x.own g.rows)) stepped (subst (λ k. AllMet (opening k) (state w).core (unlocks x.own g.rows)) t.goes.given g.gives.met));
        core = g.gives.core ∙ (λ i. core.run (opening (t.goes.given i)) (stepped i) (unlocks x.own g.rows));
        idle = g.idle;
        free = g.free;
      }

-- ## A flush

module _ (turns : controls.EveryTurn) (z : Shape) (v : View) (x : Session) (log : Log) (m : MayFlush z v x log) where
  pub flush_turn : MayTurn z x.own 0 (λ _. x.clock.clock) (λ _. Flush x.own x.clock.clock ∷ []) v
  flush_turn = (turns z v x.own).flush x.clock.clock (record { actor = acts z v x.own m.alone; some = m.low; met = m.met; small = m.small })

  pub has_flushed : (n : ℕ) (w : View) → Turned z x.own 0 (λ _. x.clock.clock) (λ _. Flush x.own x.clock.clock ∷ []) v n w → (y : Session) → y ≡ record x { unflushed = 0 } → (is : Log) → is ≡ flushed_log log → (old new : Story) → FlushesOn x.own log is old new
      → HasFlushed v w x y log is old new
  has_flushed n w t y session is after old new stands = record {
    given = t.goes.given;
    seen = goes_seen z v w (Flush x.own x.clock.clock ∷ []) m.alone t.goes;
    met = m.met;
    held = t.held;
    session = session;
    after = after;
    stands = stands;
  }
