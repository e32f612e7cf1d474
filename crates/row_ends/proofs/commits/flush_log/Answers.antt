use Rattle.std.proofs.Common.{arith}
use Rattle.row_ends.proofs.EndLemmas.{flush_turn, has_flushed}
use Rattle.session_state.proofs.SyncLemmas.{has_word}
use Rattle.session_state.proofs.Frames.{frame_of}
use Rattle.row_ends.proofs.commits.flush_log.Goals as goal

pub returns-in-Err-clause-keeps : goal.returns-in-Err-clause-keeps
returns-in-Err-clause-keeps g c =
    let e = c.in-Err.ensures in
    record { on = record { moments = e.any_moment; told = e.told; notes = e.same_notes }; frame = frame_of _ _ _ e.frame; within = e.within }

pub store_control-requires-clause-event : goal.store_control-requires-clause-event
store_control-requires-clause-event g c = flush_turn c.every_turn.ensures (g.R.Rows.shape c.args.rows.now) (g.R.Rows.view c.args.seat.now) c.args.work.now.session c.args.work.now.log c.requires.may

pub store_control-requires-clause-place : goal.store_control-requires-clause-place
store_control-requires-clause-place g c = let m = c.requires.may in (let q = m.sized in let k = m.high in omega arith, has_word c.args.work.now.session.own 0 m.low (omega arith))

pub returns-clause-flushed : goal.returns-clause-flushed
returns-clause-flushed g c =
    let e = c.in_default.ensures in
    has_flushed c.every_turn.ensures (g.R.Rows.shape c.args.rows.now) (g.R.Rows.view c.args.seat.now) c.args.work.now.session c.args.work.now.log c.requires.may c.store_control.ensures.step.0 (g.R.Rows.view c.store_control.new.seat) c.store_control.ensures.step.1 _ c.settle.ensures c.flush.new.log e.after _ _ e.stands

pub returns-clause-keeps : goal.returns-clause-keeps
returns-clause-keeps g c =
    let e = c.in_default.ensures in
    record { on = record { moments = e.any_moment; told = e.told; notes = e.same_notes }; frame = frame_of _ _ _ e.frame; within = e.within }
