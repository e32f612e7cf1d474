use Rattle.row_cuts.proofs.CutLemmas.{cut_aside, cut_tame, has_cut}
use Rattle.row_cuts.proofs.cuts.note_cut.Goals as goal

pub load_control-requires-clause-event : goal.load_control-requires-clause-event
load_control-requires-clause-event g c n = cut_aside (g.R.Rows.shape c.args.rows.now) (g.R.Rows.view c.args.seat.now) c.requires.alone g.K.WhichCut.number g.K.WhichCut.heads

pub load_control-requires-clause-tame : goal.load_control-requires-clause-tame
load_control-requires-clause-tame g c n = cut_tame (g.R.Rows.shape c.args.rows.now) (g.R.Rows.view c.args.seat.now) c.requires.alone g.K.WhichCut.number g.K.WhichCut.heads

pub returns-clause-cut : goal.returns-clause-cut
returns-clause-cut g c = has_cut (g.R.Rows.shape c.args.rows.now) (g.R.Rows.view c.args.seat.now) c.requires.alone g.K.WhichCut.number g.K.WhichCut.heads c.requires.met c.load_control.result (g.R.Rows.view c.load_control.new.seat) c.load_control.ensures.step
