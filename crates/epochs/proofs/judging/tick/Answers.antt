use Rattle.epochs.proofs.Entering.{has_ticked}
use Rattle.epochs.proofs.judging.tick.Goals as goal

pub tick-requires-clause-event : goal.tick-requires-clause-event
tick-requires-clause-event g c = (c.every_epoch.ensures (g.R.Rows.shape c.args.rows.now) (g.R.Rows.view c.args.seat.now) 0).tick c.requires.tick

pub returns-clause-after : goal.returns-clause-after
returns-clause-after g c = has_ticked (g.R.Rows.shape c.args.rows.now) (g.R.Rows.view c.args.seat.now) c.tick.result (g.R.Rows.view c.tick.new.seat) c.requires.tick c.tick.ensures.step
