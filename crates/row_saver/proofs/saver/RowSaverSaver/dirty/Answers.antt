use Rattle.std.proofs.Common.{arith}
use Rattle.row_saver.proofs.SaverLemmas.{found_for, gone_looks, gone_then, looked, ready_gone, seated_in}
use Rattle.row_saver.proofs.saver.RowSaverSaver.dirty.Goals as goal

pub dirty_in-requires-clause-seated : goal.dirty_in-requires-clause-seated
dirty_in-requires-clause-seated g c = seated_in c.frames-frames.ensures c.requires.ready.1.seated

pub returns-clause-ready : goal.returns-clause-ready
returns-clause-ready g c = let e = c.dirty_in.ensures in (e.fits.0, ready_gone (gone_looks e.fits.1 e.looks) c.requires.ready.1)

pub returns-clause-found : goal.returns-clause-found
returns-clause-found g c = λ o opens. found_for c.every_reached.ensures (g.R.Rows.view c.args.self.now.seat.now) c.args.frame c.dirty_in.result c.dirty_in.ensures.found o opens

pub returns-clause-looked : goal.returns-clause-looked
returns-clause-looked g c = looked c.args.self.now.slots.now c.args.self.now.generation c.dirty_in.ensures.looks

pub returns-clause-since : goal.returns-clause-since
returns-clause-since g c = λ b n h. let e = c.dirty_in.ensures in (h.0, h.1, h.2, h.3, h.4, h.5, gone_then (omega arith) h.6 (gone_looks e.fits.1 e.looks))
