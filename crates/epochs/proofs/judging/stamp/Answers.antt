use Rattle.epochs.proofs.Waits.{is_stamp}
use Rattle.epochs.proofs.judging.stamp.Goals as goal

pub returns-clause-answer : goal.returns-clause-answer
returns-clause-answer g c = is_stamp c.every_epoch.ensures (g.R.Rows.shape c.args.rows.now) c.load_control.result (g.R.Rows.view c.args.seat.now) (g.R.Rows.view c.load_control.new.seat) c.load_control.ensures.step
