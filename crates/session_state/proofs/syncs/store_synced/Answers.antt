use Rattle.btree_descent.proofs.rows_trait.Syncs.{may_sync}
use Rattle.session_state.proofs.SyncLemmas.{has_synced}
use Rattle.session_state.proofs.syncs.store_synced.Goals as goal

pub store_flushed-requires-clause-event : goal.store_flushed-requires-clause-event
store_flushed-requires-clause-event g c = may_sync (g.R.Rows.shape c.args.rows.now) (g.R.Rows.view c.args.seat.now) c.args.number c.requires.met

pub returns-clause-synced : goal.returns-clause-synced
returns-clause-synced g c = has_synced (g.R.Rows.shape c.args.rows.now) (g.R.Rows.view c.args.seat.now) (g.R.Rows.view c.store_flushed.new.seat) c.args.number c.requires.alone c.requires.met c.store_flushed.ensures.step
