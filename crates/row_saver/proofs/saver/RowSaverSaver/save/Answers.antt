use Rattle.std.proofs.Common.{subst, arith}
use Rattle.row_saver.specs.Savers.{IsSpent}
use Rattle.row_saver.proofs.SaverLemmas.{gone_either, gone_then, may_save_in, opens_same, ready_gone, ready_in, ready_with, refilled}
use Rattle.row_saver.proofs.saver.RowSaverSaver.save.Goals as goal

pub save_in-requires-clause-ready : goal.save_in-requires-clause-ready
save_in-requires-clause-ready g c = (c.args.self.now.stage.now.queue, ready_with c.deref_mut.ensures.value (ready_in c.frames-frames.ensures c.requires.ready.1))

pub save_in-requires-clause-may : goal.save_in-requires-clause-may
save_in-requires-clause-may g c = may_save_in c.every_reached.ensures c.requires.ready.1 c.requires.dirty

pub returns-clause-ready : goal.returns-clause-ready
returns-clause-ready g c = λ _. let e = c.save_in.ensures in (e.fits.0, ready_gone (gone_either c.args.frame c.save_in.result e.fits.1 e.ok e.err e.size (refilled c.args.self.now.buffer.now c.save_in.new.buffer)) c.requires.ready.1)

pub returns-clause-opens : goal.returns-clause-opens
returns-clause-opens g c = λ o. let e = c.save_in.ensures in opens_same (gone_either c.args.frame c.save_in.result e.fits.1 e.ok e.err e.size (refilled c.args.self.now.buffer.now c.save_in.new.buffer)).ran.given o

pub returns-clause-stopped : goal.returns-clause-stopped
returns-clause-stopped g c = λ spent. ((c.save_in.ensures.spent spent).0, λ o opens. c.save_in.ensures.stopped spent o)

pub returns-clause-since : goal.returns-clause-since
returns-clause-since g c = λ b n h.
    let e = c.save_in.ensures in (h.0, h.1, h.2, h.3, h.4, h.5, gone_then (omega arith) h.6 (gone_either c.args.frame c.save_in.result e.fits.1 e.ok e.err e.size (refilled c.args.self.now.buffer.now c.save_in.new.buffer)))

pub returns-clause-cause_row_spent : goal.returns-clause-cause_row_spent
returns-clause-cause_row_spent g c = λ spent. subst (λ n. IsSpent n (g.R.Rows.view c.save_in.new.seat)) c.frames-frames.ensures (c.save_in.ensures.spent spent).2
