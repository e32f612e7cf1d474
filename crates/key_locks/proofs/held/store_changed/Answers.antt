use Rattle.key_locks.proofs.Holding.{stayed_none, stayed_store, held_store}
use Rattle.key_locks.proofs.held.store_changed.Goals as goal

pub returns-then-now-was-clause-stayed : goal.returns-then-now-was-clause-stayed
returns-then-now-was-clause-stayed g c = stayed_none (g.R.Rows.shape c.args.rows.now).alone c.args.hold.now.row (g.R.Rows.view c.args.seat.now) c.requires.held.0

pub returns-clause-stayed : goal.returns-clause-stayed
returns-clause-stayed g c = stayed_store (g.R.Rows.shape c.args.rows.now) c.args.hold.now.row c.args.word c.args.now (g.R.Rows.view c.args.seat.now) (g.R.Rows.view c.set.new.seat) c.requires.held.0 c.set.ensures.step

pub returns-clause-stored : goal.returns-clause-stored
returns-clause-stored g c words h = held_store (g.R.Rows.shape c.args.rows.now) c.args.hold.now.row c.args.word c.args.now (g.R.Rows.view c.args.seat.now) (g.R.Rows.view c.set.new.seat) words c.set.ensures.step h
