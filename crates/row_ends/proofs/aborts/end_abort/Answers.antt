use Rattle.std.proofs.Common.{Ok, sym, true≢false}
use Rattle.session_state.specs.engine_trait.declared.unserved.Unanswered.TheVariants as unanswered
use Rattle.session_state.specs.engine_trait.declared.unserved.Unserved.TheVariants as unserved
use Rattle.row_ends.proofs.EndSteps.{latch_steps}
use Rattle.row_ends.proofs.MissLemmas.{holds_missed}
use Rattle.row_ends.proofs.OutcomeLemmas.{aborts_ok, aborts_steps, cause_as, ok_err}
use Rattle.row_ends.proofs.aborts.end_abort.Goals as goal

pub returns-then-not-latch_held-clause-holds : goal.returns-then-not-latch_held-clause-holds
returns-then-not-latch_held-clause-holds g c _ =
    let m = c.latch_held.ensures.missed c.if-not-latch_held.true in
    holds_missed (g.R.Rows.shape c.args.rows.now) (g.R.Rows.shape c.latch_held.new.rows) (g.R.Rows.view c.args.seat.now) (g.R.Rows.view c.latch_held.new.seat) c.args.work.now.session c.args.work.now.log c.latch_held.ensures.fits.1 m.0 c.requires.holds

pub returns-then-not-latch_held-clause-steps : goal.returns-then-not-latch_held-clause-steps
returns-then-not-latch_held-clause-steps g c _ =
    latch_steps c.args.work.now.session.own _ (g.R.Rows.view c.args.seat.now) (g.R.Rows.view c.latch_held.new.seat) (c.latch_held.ensures.missed c.if-not-latch_held.true).0

pub returns-in-Ok-clause-aborts : goal.returns-in-Ok-clause-aborts
returns-in-Ok-clause-aborts g c =
    let l = c.latch_held.ensures.latched c.if-not-latch_held.false in
    aborts_ok g.D.Disk.story (g.R.Rows.view c.args.seat.now) (g.R.Rows.view c.latch_held.new.seat) (g.R.Rows.view c.finish.new.seat) c.args.work.now.session c.finish.new.work.session c.args.work.now.log c.finish.new.work.log c.args.work.now.disk c.finish.new.work.disk l.given l.seen c.in-Ok.ended c.in-Ok.ensures.aborts

pub returns-in-Ok-clause-steps : goal.returns-in-Ok-clause-steps
returns-in-Ok-clause-steps g c _ =
    let l = c.latch_held.ensures.latched c.if-not-latch_held.false in
    aborts_steps g.D.Disk.story (Ok c.in-Ok.ended) (g.R.Rows.view c.args.seat.now) (g.R.Rows.view c.finish.new.seat) c.args.work.now.session c.finish.new.work.session c.args.work.now.log c.finish.new.work.log c.args.work.now.disk c.finish.new.work.disk
    (aborts_ok g.D.Disk.story (g.R.Rows.view c.args.seat.now) (g.R.Rows.view c.latch_held.new.seat) (g.R.Rows.view c.finish.new.seat) c.args.work.now.session c.finish.new.work.session c.args.work.now.log c.finish.new.work.log c.args.work.now.disk c.finish.new.work.disk l.given l.seen c.in-Ok.ended c.in-Ok.ensures.aborts) (ok_err c.in-Ok.ended (unserved.Unanswered unanswered.DiskFault))

pub returns-in-Ok-clause-cause_disk_fault : goal.returns-in-Ok-clause-cause_disk_fault
returns-in-Ok-clause-cause_disk_fault g c = cause_as _ _ _ _ (λ i. absurd (true≢false (sym i))) (λ q. absurd (ok_err c.in-Ok.ended (unserved.Unanswered unanswered.DiskFault) q)) c.in-Ok.ensures.cause_disk_fault
