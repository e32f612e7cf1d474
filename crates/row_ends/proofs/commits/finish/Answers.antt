use Rattle.std.proofs.Common.{◌∙◌, ◌+◌, suc, true, refl, ap, subst, sym, arith, true≢false}
use Rattle.session_state.specs.log_record.declared.record.Body.TheVariants as body
use Rattle.session_state.proofs.StageLemmas.{staged_flushed}
use Rattle.session_state.proofs.UndoLemmas.{hand_after}
use Rattle.session_state.proofs.Frames.{frame_of}
use Rattle.session_state.proofs.HoldLemmas.{holds_as}
use Rattle.session_state.specs.Staging.{KeepsLog}
use Rattle.session_state.specs.declared.session.Session.{Session}
use Rattle.row_ends.specs.Ends.{HasFlushed, MayFlush, waiting_session}
use Rattle.row_ends.specs.Outcomes.{FailsToCommit, IsGrouped}
use Rattle.row_ends.proofs.CommitLemmas.{entry_fits, next_small}
use Rattle.row_ends.proofs.FinishLemmas.{floor_found, found, holds_flushed, holds_waiting, may_end_at, may_flush_at}
use Rattle.row_ends.proofs.OutcomeLemmas.{full_is, has_ended, next, waiting_suc, waits_is}
use Rattle.row_ends.proofs.ReceiptLemmas.{receipt}
use Rattle.row_ends.proofs.commits.finish.Goals as goal

pub overflow_add-number : goal.overflow_add-number
overflow_add-number g c = let n = (next_small (g.R.Rows.shape c.args.rows.now) (g.R.Rows.view c.args.seat.now) c.args.work.now.session c.args.work.now.log c.args.latches.now c.requires.latched c.requires.is_open) in omega arith

pub stage_end-requires-clause-fits : goal.stage_end-requires-clause-fits
stage_end-requires-clause-fits g c _ _ =
    let n = (next_small (g.R.Rows.shape c.args.rows.now) (g.R.Rows.view c.args.seat.now) c.args.work.now.session c.args.work.now.log c.args.latches.now c.requires.latched c.requires.is_open) in
    entry_fits c.args.work.now.session.txn (c.args.work.now.session.clock.clock + 1) (body.Commit c.need-need.result) (let t = c.requires.latched.holds.numbers.txn in omega arith) (omega arith) c.need-need.type_inv

pub returns-in-Err-clause-commits : goal.returns-in-Err-clause-commits
returns-in-Err-clause-commits g c =
    let e = c.in-Err.ensures in
    FailsToCommit.Unstaged (record { on = record { moments = e.any_moment; told = e.told; notes = e.same_notes }; frame = frame_of c.args.work.now.session.own _ _ e.frame; within = e.within })

pub end_rows-requires-clause-may_end : goal.end_rows-requires-clause-may_end
end_rows-requires-clause-may_end g c =
    let z0 = g.R.Rows.shape c.args.rows.now in
    let z = g.R.Rows.shape c.least_flushed-floor.new.rows in
    let v0 = g.R.Rows.view c.args.seat.now in
    let v = g.R.Rows.view c.least_flushed-floor.new.seat in
    let x = c.args.work.now.session in
    let log = c.args.work.now.log in
    let l = c.least_flushed-floor.ensures in
    let f = found z0 z v0 v x log c.args.latches.now c.least_flushed-floor.result c.requires.latched l.fits.1 l.seen l.least in
    may_end_at z v x log c.args.latches.now c.requires.is_open c.least_flushed-floor.result f _ refl true (λ e. absurd (true≢false e))

pub returns-then-work-clause-holds : goal.returns-then-work-clause-holds
returns-then-work-clause-holds g c works =
    let z0 = g.R.Rows.shape c.args.rows.now in
    let z = g.R.Rows.shape c.least_flushed-floor.new.rows in
    let v0 = g.R.Rows.view c.args.seat.now in
    let v = g.R.Rows.view c.least_flushed-floor.new.seat in
    let x = c.args.work.now.session in
    let log = c.args.work.now.log in
    let l = c.least_flushed-floor.ensures in
    let f = found z0 z v0 v x log c.args.latches.now c.least_flushed-floor.result c.requires.latched l.fits.1 l.seen l.least in
    let w = g.R.Rows.view c.end_rows.new.seat in
    let same = waiting_suc x c.close_by_commit.new.session c.close_by_commit.ensures in
    holds_as z (g.R.Rows.shape c.end_rows.new.rows) w (waiting_session x (suc x.clock.clock) (suc x.unflushed)) _ c.stage_end.new.log c.end_rows.ensures.fits.1 same
    (holds_waiting z v x log c.args.latches.now c.requires.is_open c.least_flushed-floor.result f (suc x.clock.clock) (next x.clock.clock) true w c.end_rows.ensures.ended c.stage_end.new.log (hand_after _ log c.stage_end.new.log c.in_default.ensures.after) (staged_flushed _ log c.stage_end.new.log c.in_default.ensures.after) (c.in_default.ensures.last ∙ sym (next x.clock.clock)) (waits_is x _ same c.if-work.true))

pub returns-then-work-clause-commits : goal.returns-then-work-clause-commits
returns-then-work-clause-commits g c =
    let z0 = g.R.Rows.shape c.args.rows.now in
    let z = g.R.Rows.shape c.least_flushed-floor.new.rows in
    let v0 = g.R.Rows.view c.args.seat.now in
    let v = g.R.Rows.view c.least_flushed-floor.new.seat in
    let x = c.args.work.now.session in
    let log = c.args.work.now.log in
    let l = c.least_flushed-floor.ensures in
    let f = found z0 z v0 v x log c.args.latches.now c.least_flushed-floor.result c.requires.latched l.fits.1 l.seen l.least in
    let e = c.in_default.ensures in
    let keeps : KeepsLog x.own log (g.D.Disk.story c.args.work.now.disk) (g.D.Disk.story c.stage_end.new.disk) = record { on = record { moments = e.any_moment; told = e.told; notes = e.same_notes }; frame = frame_of x.own _ _ e.frame; within = e.within } in
    let s = l.seen c.requires.latched.holds.alone in
    let w = g.R.Rows.view c.end_rows.new.seat in
    let same = waiting_suc x c.close_by_commit.new.session c.close_by_commit.ensures in
    record {
      view = w;
      log = c.stage_end.new.log;
      disk = c.stage_end.new.disk;
      ended = has_ended true v0 v w x c.need-need.result c.least_flushed-floor.result c.need-need.ensures (floor_found z0 v0 x log c.args.latches.now c.requires.latched c.requires.is_open c.least_flushed-floor.result (l.least c.requires.latched.holds.alone)) s.given s.seen c.end_rows.ensures.ended
          log c.stage_end.new.log (g.D.Disk.story c.args.work.now.disk) (g.D.Disk.story c.stage_end.new.disk) e.after e.last e.stands keeps;
      grouped = IsGrouped.Waits (waits_is x _ same c.if-work.true) refl same refl refl;
    }

pub returns-then-work-clause-session : goal.returns-then-work-clause-session
returns-then-work-clause-session g c =
    let x = c.args.work.now.session in
    let same = waiting_suc x c.close_by_commit.new.session c.close_by_commit.ensures in
    (ap (λ (k : Session). k.own) same, ap (λ (k : Session). k.workers) same, ap (λ (k : Session). k.group) same)

pub flush_log-requires-clause-may : goal.flush_log-requires-clause-may
flush_log-requires-clause-may g c _ _ =
    let z0 = g.R.Rows.shape c.args.rows.now in
    let z = g.R.Rows.shape c.least_flushed-floor.new.rows in
    let v0 = g.R.Rows.view c.args.seat.now in
    let v = g.R.Rows.view c.least_flushed-floor.new.seat in
    let x = c.args.work.now.session in
    let log = c.args.work.now.log in
    let l = c.least_flushed-floor.ensures in
    let f = found z0 z v0 v x log c.args.latches.now c.least_flushed-floor.result c.requires.latched l.fits.1 l.seen l.least in
    let w = g.R.Rows.view c.end_rows.new.seat in
    let same = waiting_suc x c.close_by_commit.new.session c.close_by_commit.ensures in
    subst (λ k. MayFlush k w c.close_by_commit.new.session c.stage_end.new.log) (sym c.end_rows.ensures.fits.1) (subst (λ y. MayFlush z w y c.stage_end.new.log) (sym same)
    (may_flush_at z v x log c.args.latches.now c.requires.is_open c.least_flushed-floor.result f (suc x.clock.clock) (next x.clock.clock) true w c.end_rows.ensures.ended (suc x.unflushed) c.stage_end.new.log (c.in_default.ensures.last ∙ sym (next x.clock.clock))))

pub returns-in-Err-flush_log-clause-commits : goal.returns-in-Err-flush_log-clause-commits
returns-in-Err-flush_log-clause-commits g c =
    let z0 = g.R.Rows.shape c.args.rows.now in
    let z = g.R.Rows.shape c.least_flushed-floor.new.rows in
    let v0 = g.R.Rows.view c.args.seat.now in
    let v = g.R.Rows.view c.least_flushed-floor.new.seat in
    let x = c.args.work.now.session in
    let log = c.args.work.now.log in
    let l = c.least_flushed-floor.ensures in
    let f = found z0 z v0 v x log c.args.latches.now c.least_flushed-floor.result c.requires.latched l.fits.1 l.seen l.least in
    let e = c.in_default.ensures in
    let keeps : KeepsLog x.own log (g.D.Disk.story c.args.work.now.disk) (g.D.Disk.story c.stage_end.new.disk) = record { on = record { moments = e.any_moment; told = e.told; notes = e.same_notes }; frame = frame_of x.own _ _ e.frame; within = e.within } in
    let s = l.seen c.requires.latched.holds.alone in
    let w = g.R.Rows.view c.end_rows.new.seat in
    let same = waiting_suc x c.close_by_commit.new.session c.close_by_commit.ensures in
    let mid = g.D.Disk.story c.stage_end.new.disk in
    let new = g.D.Disk.story c.flush_log.new.work.disk in
    let r : FailsToCommit g.D.Disk.story v0 x log c.args.work.now.disk c.flush_log.new.work.disk = FailsToCommit.Unflushed _ w c.stage_end.new.log c.stage_end.new.disk (has_ended true v0 v w x c.need-need.result c.least_flushed-floor.result c.need-need.ensures (floor_found z0 v0 x log c.args.latches.now c.requires.latched c.requires.is_open c.least_flushed-floor.result (l.least c.requires.latched.holds.alone)) s.given s.seen c.end_rows.ensures.ended
    log c.stage_end.new.log (g.D.Disk.story c.args.work.now.disk) (g.D.Disk.story c.stage_end.new.disk) e.after e.last e.stands keeps) (full_is x _ same c.if-work.false)
    (subst (λ k. KeepsLog k c.stage_end.new.log mid new) (ap (λ k. k.own) same) c.in-Err-flush_log.ensures.keeps) in
    r

pub returns-clause-holds : goal.returns-clause-holds
returns-clause-holds g c works =
    let z0 = g.R.Rows.shape c.args.rows.now in
    let z = g.R.Rows.shape c.least_flushed-floor.new.rows in
    let v0 = g.R.Rows.view c.args.seat.now in
    let v = g.R.Rows.view c.least_flushed-floor.new.seat in
    let x = c.args.work.now.session in
    let log = c.args.work.now.log in
    let l = c.least_flushed-floor.ensures in
    let f = found z0 z v0 v x log c.args.latches.now c.least_flushed-floor.result c.requires.latched l.fits.1 l.seen l.least in
    let w = g.R.Rows.view c.end_rows.new.seat in
    let same = waiting_suc x c.close_by_commit.new.session c.close_by_commit.ensures in
    let u = g.R.Rows.view c.flush_log.new.seat in
    let y = c.flush_log.new.work.session in
    let is = c.flush_log.new.work.log in
    let mid = g.D.Disk.story c.stage_end.new.disk in
    let new = g.D.Disk.story c.flush_log.new.work.disk in
    let d : HasFlushed w u (waiting_session x (suc x.clock.clock) (suc x.unflushed)) y c.stage_end.new.log is mid new = subst (λ k. HasFlushed w u k y c.stage_end.new.log is mid new) same c.in_default-flush_log.ensures.flushed in
    holds_as z (g.R.Rows.shape c.flush_log.new.rows) u y y is (c.in_default-flush_log.ensures.fits.1 ∙ c.end_rows.ensures.fits.1) refl
    (holds_flushed z v x log c.args.latches.now c.requires.is_open c.least_flushed-floor.result f (suc x.clock.clock) (next x.clock.clock) true w c.end_rows.ensures.ended (suc x.unflushed) u y c.stage_end.new.log is mid new (c.in_default.ensures.last ∙ sym (next x.clock.clock)) d)

pub returns-clause-session : goal.returns-clause-session
returns-clause-session g c =
    let same = c.close_by_commit.ensures in
    let last = c.in_default-flush_log.ensures.flushed.session in
    (ap (λ (k : Session). k.own) last ∙ ap (λ (k : Session). k.own) same, ap (λ (k : Session). k.workers) last ∙ ap (λ (k : Session). k.workers) same, ap (λ (k : Session). k.group) last ∙ ap (λ (k : Session). k.group) same)

pub returns-clause-commits : goal.returns-clause-commits
returns-clause-commits g c =
    let z0 = g.R.Rows.shape c.args.rows.now in
    let z = g.R.Rows.shape c.least_flushed-floor.new.rows in
    let v0 = g.R.Rows.view c.args.seat.now in
    let v = g.R.Rows.view c.least_flushed-floor.new.seat in
    let x = c.args.work.now.session in
    let log = c.args.work.now.log in
    let l = c.least_flushed-floor.ensures in
    let f = found z0 z v0 v x log c.args.latches.now c.least_flushed-floor.result c.requires.latched l.fits.1 l.seen l.least in
    let e = c.in_default.ensures in
    let keeps : KeepsLog x.own log (g.D.Disk.story c.args.work.now.disk) (g.D.Disk.story c.stage_end.new.disk) = record { on = record { moments = e.any_moment; told = e.told; notes = e.same_notes }; frame = frame_of x.own _ _ e.frame; within = e.within } in
    let s = l.seen c.requires.latched.holds.alone in
    let w = g.R.Rows.view c.end_rows.new.seat in
    let same = waiting_suc x c.close_by_commit.new.session c.close_by_commit.ensures in
    let u = g.R.Rows.view c.flush_log.new.seat in
    let y = c.flush_log.new.work.session in
    let is = c.flush_log.new.work.log in
    let mid = g.D.Disk.story c.stage_end.new.disk in
    let new = g.D.Disk.story c.flush_log.new.work.disk in
    record {
      view = w;
      log = c.stage_end.new.log;
      disk = c.stage_end.new.disk;
      ended = has_ended true v0 v w x c.need-need.result c.least_flushed-floor.result c.need-need.ensures (floor_found z0 v0 x log c.args.latches.now c.requires.latched c.requires.is_open c.least_flushed-floor.result (l.least c.requires.latched.holds.alone)) s.given s.seen c.end_rows.ensures.ended
          log c.stage_end.new.log (g.D.Disk.story c.args.work.now.disk) (g.D.Disk.story c.stage_end.new.disk) e.after e.last e.stands keeps;
      grouped = IsGrouped.Flushed (full_is x _ same c.if-work.false) (subst (λ k. HasFlushed w u k y c.stage_end.new.log is mid new) same c.in_default-flush_log.ensures.flushed) (subst (λ k. KeepsLog k c.stage_end.new.log mid new) (ap (λ k. k.own) same) c.in_default-flush_log.ensures.keeps);
    }

pub returns-then-work-clause-receipt : goal.returns-then-work-clause-receipt
returns-then-work-clause-receipt g c =
    let x = c.args.work.now.session in
    let y = c.close_by_commit.new.session in
    let l = c.least_flushed-floor.ensures in
    let same = c.close_by_commit.ensures in
    receipt (g.R.Rows.shape c.args.rows.now) (g.R.Rows.view c.args.seat.now) x y c.args.work.now.log c.args.latches.now c.requires.latched c.requires.is_open c.least_flushed-floor.result c.need-need.result (l.least c.requires.latched.holds.alone) c.need-need.ensures
    (ap (λ (k : Session). k.txn) same) (ap (λ (k : Session). k.end) same) (ap (λ (k : Session). k.clock.debt) same)

pub returns-clause-receipt : goal.returns-clause-receipt
returns-clause-receipt g c =
    let x = c.args.work.now.session in
    let y = c.flush_log.new.work.session in
    let l = c.least_flushed-floor.ensures in
    let same = c.close_by_commit.ensures in
    let last = c.in_default-flush_log.ensures.flushed.session in
    receipt (g.R.Rows.shape c.args.rows.now) (g.R.Rows.view c.args.seat.now) x y c.args.work.now.log c.args.latches.now c.requires.latched c.requires.is_open c.least_flushed-floor.result c.need-need.result (l.least c.requires.latched.holds.alone) c.need-need.ensures
    (ap (λ (k : Session). k.txn) last ∙ ap (λ (k : Session). k.txn) same) (ap (λ (k : Session). k.end) last ∙ ap (λ (k : Session). k.end) same) (ap (λ (k : Session). k.clock.debt) last ∙ ap (λ (k : Session). k.clock.debt) same)
