use Rattle.std.proofs.Common.{◌≡◌, refl}
use Rattle.row_changes.proofs.SpotLemmas.{dels_from, may_there, spot_as, warm_there}
use Rattle.row_changes.proofs.dels.del_held.Goals as goal

pub del_at_spot-requires-clause-may : goal.del_at_spot-requires-clause-may
del_at_spot-requires-clause-may g c κs within =
    let s = c.in-Ok.ensures.spot in
    may_there (g.R.Rows.view c.args.seat.now) (g.R.Rows.view c.find_spot.new.seat) s.given s.seen c.args.work.now.session c.args.work.now.log c.args.key c.requires.may

pub del_at_spot-requires-clause-spot : goal.del_at_spot-requires-clause-spot
del_at_spot-requires-clause-spot g c κs within =
    spot_as (g.R.Rows.shape c.args.rows.now) (g.R.Rows.shape c.find_spot.new.rows) (g.R.Rows.view c.args.seat.now) (g.R.Rows.view c.find_spot.new.seat) c.args.work.now.session c.args.key c.in-Ok.spot c.in-Ok.ensures.fits.1 c.in-Ok.ensures.spot

pub returns-in-Ok-clause-dels : goal.returns-in-Ok-clause-dels
returns-in-Ok-clause-dels g c =
    let s = c.in-Ok.ensures.spot in
    dels_from (g.R.Rows.view c.args.seat.now) (g.R.Rows.view c.find_spot.new.seat) s.given s.seen c.del_at_spot.result c.args.work.now.session.own (g.R.Rows.view c.del_at_spot.new.seat) c.args.key c.args.work.now.log c.del_at_spot.new.work.log (g.D.Disk.story c.args.work.now.disk) (g.D.Disk.story c.del_at_spot.new.work.disk)
    (c.del_at_spot.new.work ≡ c.args.work.now) (c.del_at_spot.new.work.disk ≡ c.args.work.now.disk) c.del_at_spot.ensures.dels

pub returns-in-Ok-clause-cause_cold : goal.returns-in-Ok-clause-cause_cold
returns-in-Ok-clause-cause_cold g c warm =
    let s = c.in-Ok.ensures.spot in
    c.del_at_spot.ensures.cause_cold (warm_there (g.R.Rows.view c.args.seat.now) (g.R.Rows.view c.find_spot.new.seat) s.given s.seen c.args.key warm)

pub returns-in-Err-clause-dels : goal.returns-in-Err-clause-dels
returns-in-Err-clause-dels g c = (c.in-Err.ensures.cold, refl)

pub returns-in-Err-clause-cause_cold : goal.returns-in-Err-clause-cause_cold
returns-in-Err-clause-cause_cold g c warm cut = c.in-Err.ensures.cause_cold warm refl
