use Rattle.std.proofs.Common.{◌≡◌, ◌<◌, ◌^◌, ◌∙◌, [], ◌∷◌, arith, refl, subst, sym}
use Rattle.btree_descent.specs.row_words.declared.event.Event.TheVariants.{Flush}
use Rattle.btree_descent.specs.rows_trait.Turns.{MayTurn, Turned}
use Rattle.session_state.proofs.SyncLemmas.{flushes_none, flushes_some, has_word, holds_whole, whole_turn}
use Rattle.session_state.proofs.Frames.{frame_of}
use Rattle.session_state.proofs.HoldLemmas.{holds_as}
use Rattle.session_state.specs.Holds.{Holds}
use Rattle.session_state.proofs.syncs.flush_own.Goals as goal

pub returns-in-Err-clause-keeps : goal.returns-in-Err-clause-keeps
returns-in-Err-clause-keeps g c =
    let e = c.in-Err.ensures in
    record { on = record { moments = e.any_moment; told = e.told; notes = e.same_notes }; frame = frame_of _ _ _ e.frame; within = e.within }

pub returns-then-number-flushed-clause-holds : goal.returns-then-number-flushed-clause-holds
returns-then-number-flushed-clause-holds g c =
    let all = sym c.last-number.ensures.answer ∙ (c.if-number-flushed.true ∙ c.flushed-flushed.ensures) in
    subst (λ l. Holds (g.R.Rows.shape c.args.rows.now) (g.R.Rows.view c.args.seat.now) c.args.work.now.session l) (sym (c.in_default.ensures.same_log all)) c.requires.holds

pub returns-then-number-flushed-clause-flushes : goal.returns-then-number-flushed-clause-flushes
returns-then-number-flushed-clause-flushes g c =
    let all = sym c.last-number.ensures.answer ∙ (c.if-number-flushed.true ∙ c.flushed-flushed.ensures) in
    flushes_none (g.R.Rows.view c.args.seat.now) c.args.work.now.session c.args.work.now.log c.flush_whole.new.log _ _ all (c.in_default.ensures.same_log all) c.in_default.ensures.stands

pub returns-then-number-flushed-clause-keeps : goal.returns-then-number-flushed-clause-keeps
returns-then-number-flushed-clause-keeps g c =
    let e = c.in_default.ensures in
    record { on = record { moments = e.any_moment; told = e.told; notes = e.same_notes }; frame = frame_of _ _ _ e.frame; within = e.within }

pub store_control-requires-clause-event : goal.store_control-requires-clause-event
store_control-requires-clause-event g c =
    let differs : c.args.work.now.log.last ≡ c.args.work.now.log.flushed → ⊥ = λ e. c.if-number-flushed.false (c.last-number.ensures.answer ∙ (e ∙ sym c.flushed-flushed.ensures)) in
    let z = g.R.Rows.shape c.args.rows.now in
    let v = g.R.Rows.view c.args.seat.now in
    let own = c.args.work.now.session.own in
    subst (λ k. MayTurn z own 0 (λ _. k) (λ _. Flush own k ∷ []) v) (sym c.last-number.ensures.answer)
    (whole_turn z v c.args.work.now.session c.args.work.now.log c.requires.holds c.requires.ends c.requires.last differs c.every_turn.ensures (subst (λ k. k < 2 ^ 64) c.last-number.ensures.answer c.last-number.type_inv))

pub store_control-requires-clause-place : goal.store_control-requires-clause-place
store_control-requires-clause-place g c = let r = c.requires.holds.rows in (let q = r.sized in let k = r.high in omega arith, has_word c.args.work.now.session.own 0 r.low (omega arith))

pub returns-clause-holds : goal.returns-clause-holds
returns-clause-holds g c =
    let differs : c.args.work.now.log.last ≡ c.args.work.now.log.flushed → ⊥ = λ e. c.if-number-flushed.false (c.last-number.ensures.answer ∙ (e ∙ sym c.flushed-flushed.ensures)) in
    let w = g.R.Rows.view c.store_control.new.seat in
    let z = g.R.Rows.shape c.args.rows.now in
    let v = g.R.Rows.view c.args.seat.now in
    let own = c.args.work.now.session.own in
    let n = c.store_control.ensures.step.0 in
    let turned = subst (λ k. Turned z own 0 (λ _. k) (λ _. Flush own k ∷ []) v n w) c.last-number.ensures.answer c.store_control.ensures.step.1 in
    holds_as (g.R.Rows.shape c.args.rows.now) (g.R.Rows.shape c.store_control.new.self) w c.settle.new.session c.settle.new.session c.flush_whole.new.log c.store_control.ensures.shape refl
    (holds_whole (g.R.Rows.shape c.args.rows.now) (g.R.Rows.view c.args.seat.now) c.args.work.now.session c.args.work.now.log c.requires.holds c.requires.ends c.requires.last differs n w turned
    c.settle.new.session c.settle.ensures c.flush_whole.new.log (c.in_default.ensures.after differs) c.requires.room)

pub returns-clause-flushes : goal.returns-clause-flushes
returns-clause-flushes g c =
    let differs : c.args.work.now.log.last ≡ c.args.work.now.log.flushed → ⊥ = λ e. c.if-number-flushed.false (c.last-number.ensures.answer ∙ (e ∙ sym c.flushed-flushed.ensures)) in
    let w = g.R.Rows.view c.store_control.new.seat in
    let z = g.R.Rows.shape c.args.rows.now in
    let v = g.R.Rows.view c.args.seat.now in
    let own = c.args.work.now.session.own in
    let n = c.store_control.ensures.step.0 in
    let turned = subst (λ k. Turned z own 0 (λ _. k) (λ _. Flush own k ∷ []) v n w) c.last-number.ensures.answer c.store_control.ensures.step.1 in
    flushes_some (g.R.Rows.shape c.args.rows.now) (g.R.Rows.view c.args.seat.now) c.args.work.now.session c.args.work.now.log c.requires.holds c.requires.ends c.requires.last differs n w turned
    c.settle.new.session c.settle.ensures c.flush_whole.new.log (c.in_default.ensures.after differs) _ _ c.in_default.ensures.stands

pub returns-clause-keeps : goal.returns-clause-keeps
returns-clause-keeps g c =
    let e = c.in_default.ensures in
    record { on = record { moments = e.any_moment; told = e.told; notes = e.same_notes }; frame = frame_of _ _ _ e.frame; within = e.within }
