use Rattle.row_tidying.proofs.FloorLemmas.{can_purge_on, clears_from}
use Rattle.row_tidying.proofs.purges.purge_leaf.Goals as goal

pub purge_up_to-requires-clause-can : goal.purge_up_to-requires-clause-can
purge_up_to-requires-clause-can g c κs lives =
    let l = c.floor_of-floor.ensures.looked in
    can_purge_on (g.R.Rows.view c.args.seat.now) (g.R.Rows.view c.floor_of-floor.new.seat) l.given l.seen c.args.frame c.requires.can

pub returns-clause-clears : goal.returns-clause-clears
returns-clause-clears g c =
    let l = c.floor_of-floor.ensures.looked in
    let x = c.args.work.now in
    let y = c.purge_up_to.new.work in
    clears_from (g.R.Rows.view c.args.seat.now) (g.R.Rows.view c.floor_of-floor.new.seat) l.given l.seen c.args.frame c.args.most (g.R.Rows.view c.purge_up_to.new.seat) x.session y.session x.log y.log
    (g.D.Disk.story x.disk) (g.D.Disk.story y.disk) _ _ c.purge_up_to.result c.purge_up_to.ensures.clears
