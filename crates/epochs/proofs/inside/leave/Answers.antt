use Rattle.epochs.proofs.Entering.{leave_ready, has_left}
use Rattle.epochs.proofs.inside.leave.Goals as goal

pub store_control-requires-clause-event : goal.store_control-requires-clause-event
store_control-requires-clause-event g c =
    let z = g.R.Rows.shape c.args.rows.now in
    let v = g.R.Rows.view c.args.seat.now in
    (c.every_epoch.ensures z v c.args.worker).leave (leave_ready c.every_epoch.ensures z v c.args.worker c.requires.inside)

pub returns-clause-after : goal.returns-clause-after
returns-clause-after g c =
    let s = c.store_control.ensures.step in
    has_left c.every_epoch.ensures (g.R.Rows.shape c.args.rows.now) (g.R.Rows.view c.args.seat.now) c.args.worker c.requires.inside s.0 (g.R.Rows.view c.store_control.new.seat) s.1
