use Rattle.std.proofs.Common.{refl, arith}
use Rattle.page_provider.specs.Disks.{told}
use Rattle.row_saver.proofs.SaverLemmas.{gone_still, gone_then, opens_same, ready_gone}
use Rattle.row_saver.proofs.saver.RowSaverSaver.settle.Goals as goal

pub returns-in-Done-clause-ready : goal.returns-in-Done-clause-ready
returns-in-Done-clause-ready g c = let r = c.requires.ready in (r.0, ready_gone (gone_still r.1.seated.held c.settle_all.ensures.size) r.1)

pub returns-in-Done-clause-opens : goal.returns-in-Done-clause-opens
returns-in-Done-clause-opens g c = λ o. opens_same refl o

pub returns-in-Failed-clause-opens : goal.returns-in-Failed-clause-opens
returns-in-Failed-clause-opens g c = λ o. opens_same refl o

pub returns-in-Done-clause-settled : goal.returns-in-Done-clause-settled
returns-in-Done-clause-settled g c = λ o opens. let s = c.args.self.now in c.settle_all.ensures.settled c.in-Done.is o (told (g.R.Rows.view s.seat.now)) s.generation

pub returns-in-Done-clause-keeps : goal.returns-in-Done-clause-keeps
returns-in-Done-clause-keeps g c = λ o opens. let s = c.args.self.now in c.settle_all.ensures.keeps o (told (g.R.Rows.view s.seat.now)) s.generation

pub returns-in-Failed-clause-keeps : goal.returns-in-Failed-clause-keeps
returns-in-Failed-clause-keeps g c = λ o opens. let s = c.args.self.now in c.settle_all.ensures.keeps o (told (g.R.Rows.view s.seat.now)) s.generation

pub returns-in-Done-clause-since : goal.returns-in-Done-clause-since
returns-in-Done-clause-since g c = λ b n h. (h.0, h.1, h.2, h.3, h.4, h.5, gone_then (omega arith) h.6 (gone_still c.requires.ready.1.seated.held c.settle_all.ensures.size))

pub returns-in-Failed-clause-since : goal.returns-in-Failed-clause-since
returns-in-Failed-clause-since g c = λ b n h. (h.0, h.1, h.2, h.3, h.4, h.5, gone_then (omega arith) h.6 (gone_still c.requires.ready.1.seated.held c.settle_all.ensures.size))
