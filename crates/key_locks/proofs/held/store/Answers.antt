use Rattle.key_locks.proofs.Holding.{stores_none, stores_then, stores_free, stores_word}
use Rattle.key_locks.proofs.held.store.Goals as goal

pub store_changed-requires-2-clause-held : goal.store_changed-requires-2-clause-held
store_changed-requires-2-clause-held g c =
    let k0 = stores_none (g.R.Rows.shape c.args.rows.now) c.args.hold.now.row (g.R.Rows.view c.args.seat.now) c.requires.held in
    let k1 = stores_then 0 c.args.now.now.readers k0 c.store_changed.ensures.fits.1 c.store_changed.ensures.fits.2 c.store_changed.ensures.stayed c.store_changed.ensures.stored in
    stores_free k1

pub store_changed-requires-2-clause-was : goal.store_changed-requires-2-clause-was
store_changed-requires-2-clause-was g c =
    let k0 = stores_none (g.R.Rows.shape c.args.rows.now) c.args.hold.now.row (g.R.Rows.view c.args.seat.now) c.requires.held in
    let k1 = stores_then 0 c.args.now.now.readers k0 c.store_changed.ensures.fits.1 c.store_changed.ensures.fits.2 c.store_changed.ensures.stayed c.store_changed.ensures.stored in
    stores_word 1 k1

pub store_changed-requires-3-clause-held : goal.store_changed-requires-3-clause-held
store_changed-requires-3-clause-held g c =
    let k0 = stores_none (g.R.Rows.shape c.args.rows.now) c.args.hold.now.row (g.R.Rows.view c.args.seat.now) c.requires.held in
    let k1 = stores_then 0 c.args.now.now.readers k0 c.store_changed.ensures.fits.1 c.store_changed.ensures.fits.2 c.store_changed.ensures.stayed c.store_changed.ensures.stored in
    let k2 = stores_then 1 c.args.now.now.holder k1 c.store_changed-2.ensures.fits.1 c.store_changed-2.ensures.fits.2 c.store_changed-2.ensures.stayed c.store_changed-2.ensures.stored in
    stores_free k2

pub store_changed-requires-3-clause-was : goal.store_changed-requires-3-clause-was
store_changed-requires-3-clause-was g c =
    let k0 = stores_none (g.R.Rows.shape c.args.rows.now) c.args.hold.now.row (g.R.Rows.view c.args.seat.now) c.requires.held in
    let k1 = stores_then 0 c.args.now.now.readers k0 c.store_changed.ensures.fits.1 c.store_changed.ensures.fits.2 c.store_changed.ensures.stayed c.store_changed.ensures.stored in
    let k2 = stores_then 1 c.args.now.now.holder k1 c.store_changed-2.ensures.fits.1 c.store_changed-2.ensures.fits.2 c.store_changed-2.ensures.stayed c.store_changed-2.ensures.stored in
    stores_word 2 k2

pub store_changed-requires-4-clause-held : goal.store_changed-requires-4-clause-held
store_changed-requires-4-clause-held g c =
    let k0 = stores_none (g.R.Rows.shape c.args.rows.now) c.args.hold.now.row (g.R.Rows.view c.args.seat.now) c.requires.held in
    let k1 = stores_then 0 c.args.now.now.readers k0 c.store_changed.ensures.fits.1 c.store_changed.ensures.fits.2 c.store_changed.ensures.stayed c.store_changed.ensures.stored in
    let k2 = stores_then 1 c.args.now.now.holder k1 c.store_changed-2.ensures.fits.1 c.store_changed-2.ensures.fits.2 c.store_changed-2.ensures.stayed c.store_changed-2.ensures.stored in
    let k3 = stores_then 2 c.args.now.now.number k2 c.store_changed-3.ensures.fits.1 c.store_changed-3.ensures.fits.2 c.store_changed-3.ensures.stayed c.store_changed-3.ensures.stored in
    stores_free k3

pub store_changed-requires-4-clause-was : goal.store_changed-requires-4-clause-was
store_changed-requires-4-clause-was g c =
    let k0 = stores_none (g.R.Rows.shape c.args.rows.now) c.args.hold.now.row (g.R.Rows.view c.args.seat.now) c.requires.held in
    let k1 = stores_then 0 c.args.now.now.readers k0 c.store_changed.ensures.fits.1 c.store_changed.ensures.fits.2 c.store_changed.ensures.stayed c.store_changed.ensures.stored in
    let k2 = stores_then 1 c.args.now.now.holder k1 c.store_changed-2.ensures.fits.1 c.store_changed-2.ensures.fits.2 c.store_changed-2.ensures.stayed c.store_changed-2.ensures.stored in
    let k3 = stores_then 2 c.args.now.now.number k2 c.store_changed-3.ensures.fits.1 c.store_changed-3.ensures.fits.2 c.store_changed-3.ensures.stayed c.store_changed-3.ensures.stored in
    stores_word 3 k3

pub store_changed-requires-5-clause-held : goal.store_changed-requires-5-clause-held
store_changed-requires-5-clause-held g c =
    let k0 = stores_none (g.R.Rows.shape c.args.rows.now) c.args.hold.now.row (g.R.Rows.view c.args.seat.now) c.requires.held in
    let k1 = stores_then 0 c.args.now.now.readers k0 c.store_changed.ensures.fits.1 c.store_changed.ensures.fits.2 c.store_changed.ensures.stayed c.store_changed.ensures.stored in
    let k2 = stores_then 1 c.args.now.now.holder k1 c.store_changed-2.ensures.fits.1 c.store_changed-2.ensures.fits.2 c.store_changed-2.ensures.stayed c.store_changed-2.ensures.stored in
    let k3 = stores_then 2 c.args.now.now.number k2 c.store_changed-3.ensures.fits.1 c.store_changed-3.ensures.fits.2 c.store_changed-3.ensures.stayed c.store_changed-3.ensures.stored in
    let k4 = stores_then 3 c.args.now.now.log k3 c.store_changed-4.ensures.fits.1 c.store_changed-4.ensures.fits.2 c.store_changed-4.ensures.stayed c.store_changed-4.ensures.stored in
    stores_free k4

pub store_changed-requires-5-clause-was : goal.store_changed-requires-5-clause-was
store_changed-requires-5-clause-was g c =
    let k0 = stores_none (g.R.Rows.shape c.args.rows.now) c.args.hold.now.row (g.R.Rows.view c.args.seat.now) c.requires.held in
    let k1 = stores_then 0 c.args.now.now.readers k0 c.store_changed.ensures.fits.1 c.store_changed.ensures.fits.2 c.store_changed.ensures.stayed c.store_changed.ensures.stored in
    let k2 = stores_then 1 c.args.now.now.holder k1 c.store_changed-2.ensures.fits.1 c.store_changed-2.ensures.fits.2 c.store_changed-2.ensures.stayed c.store_changed-2.ensures.stored in
    let k3 = stores_then 2 c.args.now.now.number k2 c.store_changed-3.ensures.fits.1 c.store_changed-3.ensures.fits.2 c.store_changed-3.ensures.stayed c.store_changed-3.ensures.stored in
    let k4 = stores_then 3 c.args.now.now.log k3 c.store_changed-4.ensures.fits.1 c.store_changed-4.ensures.fits.2 c.store_changed-4.ensures.stayed c.store_changed-4.ensures.stored in
    stores_word 4 k4

pub returns-clause-stored : goal.returns-clause-stored
returns-clause-stored g c =
    let k0 = stores_none (g.R.Rows.shape c.args.rows.now) c.args.hold.now.row (g.R.Rows.view c.args.seat.now) c.requires.held in
    let k1 = stores_then 0 c.args.now.now.readers k0 c.store_changed.ensures.fits.1 c.store_changed.ensures.fits.2 c.store_changed.ensures.stayed c.store_changed.ensures.stored in
    let k2 = stores_then 1 c.args.now.now.holder k1 c.store_changed-2.ensures.fits.1 c.store_changed-2.ensures.fits.2 c.store_changed-2.ensures.stayed c.store_changed-2.ensures.stored in
    let k3 = stores_then 2 c.args.now.now.number k2 c.store_changed-3.ensures.fits.1 c.store_changed-3.ensures.fits.2 c.store_changed-3.ensures.stayed c.store_changed-3.ensures.stored in
    let k4 = stores_then 3 c.args.now.now.log k3 c.store_changed-4.ensures.fits.1 c.store_changed-4.ensures.fits.2 c.store_changed-4.ensures.stayed c.store_changed-4.ensures.stored in
    let k5 = stores_then 4 c.args.now.now.ends k4 c.store_changed-5.ensures.fits.1 c.store_changed-5.ensures.fits.2 c.store_changed-5.ensures.stayed c.store_changed-5.ensures.stored in
    k5.held

pub returns-clause-stayed : goal.returns-clause-stayed
returns-clause-stayed g c =
    let k0 = stores_none (g.R.Rows.shape c.args.rows.now) c.args.hold.now.row (g.R.Rows.view c.args.seat.now) c.requires.held in
    let k1 = stores_then 0 c.args.now.now.readers k0 c.store_changed.ensures.fits.1 c.store_changed.ensures.fits.2 c.store_changed.ensures.stayed c.store_changed.ensures.stored in
    let k2 = stores_then 1 c.args.now.now.holder k1 c.store_changed-2.ensures.fits.1 c.store_changed-2.ensures.fits.2 c.store_changed-2.ensures.stayed c.store_changed-2.ensures.stored in
    let k3 = stores_then 2 c.args.now.now.number k2 c.store_changed-3.ensures.fits.1 c.store_changed-3.ensures.fits.2 c.store_changed-3.ensures.stayed c.store_changed-3.ensures.stored in
    let k4 = stores_then 3 c.args.now.now.log k3 c.store_changed-4.ensures.fits.1 c.store_changed-4.ensures.fits.2 c.store_changed-4.ensures.stayed c.store_changed-4.ensures.stored in
    let k5 = stores_then 4 c.args.now.now.ends k4 c.store_changed-5.ensures.fits.1 c.store_changed-5.ensures.fits.2 c.store_changed-5.ensures.stayed c.store_changed-5.ensures.stored in
    k5.stayed
