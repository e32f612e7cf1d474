use Rattle.std.proofs.Common.{◌∙◌, ◌+◌, false, refl, ap, sym, arith}
use Rattle.session_state.specs.log_record.declared.record.Body.TheVariants as body
use Rattle.session_state.proofs.StageLemmas.{staged_flushed}
use Rattle.session_state.proofs.UndoLemmas.{hand_after}
use Rattle.session_state.proofs.Frames.{frame_of}
use Rattle.session_state.proofs.HoldLemmas.{holds_as}
use Rattle.session_state.specs.Staging.{KeepsLog}
use Rattle.session_state.specs.declared.session.Session.{Session}
use Rattle.row_ends.specs.Ends.{ended_session}
use Rattle.row_ends.proofs.CommitLemmas.{entry_fits, next_small}
use Rattle.row_ends.proofs.FinishLemmas.{floor_found, found, holds_waiting, may_end_at}
use Rattle.row_ends.proofs.OutcomeLemmas.{has_ended, next}
use Rattle.row_ends.proofs.ReceiptLemmas.{receipt}
use Rattle.row_ends.proofs.aborts.finish.Goals as goal

pub overflow_add-number : goal.overflow_add-number
overflow_add-number g c = let n = (next_small (g.R.Rows.shape c.args.rows.now) (g.R.Rows.view c.args.seat.now) c.args.work.now.session c.args.work.now.log c.args.latches.now c.requires.latched c.requires.is_open) in omega arith

pub stage_end-requires-clause-fits : goal.stage_end-requires-clause-fits
stage_end-requires-clause-fits g c _ _ =
    let n = (next_small (g.R.Rows.shape c.args.rows.now) (g.R.Rows.view c.args.seat.now) c.args.work.now.session c.args.work.now.log c.args.latches.now c.requires.latched c.requires.is_open) in
    entry_fits c.args.work.now.session.txn (c.args.work.now.session.clock.clock + 1) (body.Abort c.need-need.result) (let t = c.requires.latched.holds.numbers.txn in omega arith) (omega arith) c.need-need.type_inv

pub returns-in-Err-clause-aborts : goal.returns-in-Err-clause-aborts
returns-in-Err-clause-aborts g c =
    let e = c.in-Err.ensures in
    record { on = record { moments = e.any_moment; told = e.told; notes = e.same_notes }; frame = frame_of c.args.work.now.session.own _ _ e.frame; within = e.within }

pub end_rows-requires-clause-may_end : goal.end_rows-requires-clause-may_end
end_rows-requires-clause-may_end g c =
    let z0 = g.R.Rows.shape c.args.rows.now in
    let z = g.R.Rows.shape c.least_flushed-floor.new.rows in
    let v0 = g.R.Rows.view c.args.seat.now in
    let v = g.R.Rows.view c.least_flushed-floor.new.seat in
    let x = c.args.work.now.session in
    let log = c.args.work.now.log in
    let l = c.least_flushed-floor.ensures in
    let f = found z0 z v0 v x log c.args.latches.now c.least_flushed-floor.result c.requires.latched l.fits.1 l.seen l.least in
    may_end_at z v x log c.args.latches.now c.requires.is_open c.least_flushed-floor.result f _ refl false (λ _. c.requires.left)

pub returns-clause-holds : goal.returns-clause-holds
returns-clause-holds g c works =
    let z0 = g.R.Rows.shape c.args.rows.now in
    let z = g.R.Rows.shape c.least_flushed-floor.new.rows in
    let v0 = g.R.Rows.view c.args.seat.now in
    let v = g.R.Rows.view c.least_flushed-floor.new.seat in
    let x = c.args.work.now.session in
    let log = c.args.work.now.log in
    let l = c.least_flushed-floor.ensures in
    let f = found z0 z v0 v x log c.args.latches.now c.least_flushed-floor.result c.requires.latched l.fits.1 l.seen l.least in
    let is = c.stage_end.new.log in
    let w = g.R.Rows.view c.end_rows.new.seat in
    holds_as z (g.R.Rows.shape c.end_rows.new.rows) w (ended_session x (x.clock.clock + 1)) c.close.new.session is c.end_rows.ensures.fits.1 c.close.ensures
    (holds_waiting z v x log c.args.latches.now c.requires.is_open c.least_flushed-floor.result f _ refl false w c.end_rows.ensures.ended is (hand_after _ log is c.in_default.ensures.after) (staged_flushed _ log is c.in_default.ensures.after) c.in_default.ensures.last c.requires.latched.holds.numbers.behind)

pub returns-clause-aborts : goal.returns-clause-aborts
returns-clause-aborts g c =
    let z0 = g.R.Rows.shape c.args.rows.now in
    let z = g.R.Rows.shape c.least_flushed-floor.new.rows in
    let v0 = g.R.Rows.view c.args.seat.now in
    let v = g.R.Rows.view c.least_flushed-floor.new.seat in
    let x = c.args.work.now.session in
    let log = c.args.work.now.log in
    let l = c.least_flushed-floor.ensures in
    let f = found z0 z v0 v x log c.args.latches.now c.least_flushed-floor.result c.requires.latched l.fits.1 l.seen l.least in
    let e = c.in_default.ensures in
    let keeps : KeepsLog x.own log (g.D.Disk.story c.args.work.now.disk) (g.D.Disk.story c.stage_end.new.disk) = record { on = record { moments = e.any_moment; told = e.told; notes = e.same_notes }; frame = frame_of x.own _ _ e.frame; within = e.within } in
    let s = l.seen c.requires.latched.holds.alone in
    let w = g.R.Rows.view c.end_rows.new.seat in (
      has_ended false v0 v w x c.need-need.result c.least_flushed-floor.result c.need-need.ensures (floor_found z0 v0 x log c.args.latches.now c.requires.latched c.requires.is_open c.least_flushed-floor.result (l.least c.requires.latched.holds.alone)) s.given s.seen c.end_rows.ensures.ended
          log c.stage_end.new.log (g.D.Disk.story c.args.work.now.disk) (g.D.Disk.story c.stage_end.new.disk) e.after e.last e.stands keeps,
      c.close.ensures ∙ ap (ended_session x) (sym (next x.clock.clock)),
    )

pub returns-clause-receipt : goal.returns-clause-receipt
returns-clause-receipt g c =
    let x = c.args.work.now.session in
    let y = c.close.new.session in
    let l = c.least_flushed-floor.ensures in
    let same = c.close.ensures in
    receipt (g.R.Rows.shape c.args.rows.now) (g.R.Rows.view c.args.seat.now) x y c.args.work.now.log c.args.latches.now c.requires.latched c.requires.is_open c.least_flushed-floor.result c.need-need.result (l.least c.requires.latched.holds.alone) c.need-need.ensures
    (ap (λ (k : Session). k.txn) same) (ap (λ (k : Session). k.end) same) (ap (λ (k : Session). k.clock.debt) same)
