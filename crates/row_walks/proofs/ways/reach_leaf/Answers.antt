use Rattle.std.proofs.Common.{refl}
use Rattle.row_changes.proofs.session_state.Moments.{acts}
use Rattle.row_changes.proofs.WayLemmas.{met_cold, warm_met}
use Rattle.row_walks.proofs.SeeLemmas.{holds_looked, reaches}
use Rattle.row_walks.proofs.ways.reach_leaf.Goals as goal

pub reach-requires-clause-actor : goal.reach-requires-clause-actor
reach-requires-clause-actor g c = acts (g.R.Rows.shape c.args.rows.now) (g.R.Rows.view c.args.seat.now) c.args.session.now.own c.requires.holds.alone

pub returns-in-Leaf-clause-holds : goal.returns-in-Leaf-clause-holds
returns-in-Leaf-clause-holds g c =
    holds_looked (g.R.Rows.shape c.args.rows.now) (g.R.Rows.view c.args.seat.now) (g.R.Rows.view c.reach.new.seat) c.args.session.now c.args.log.now c.requires.holds c.in-Leaf.ensures.went.ran c.in-Leaf.ensures.fits.2
    (g.R.Rows.shape c.reach.new.rows) c.in-Leaf.ensures.fits.1

pub returns-in-Leaf-clause-reaches : goal.returns-in-Leaf-clause-reaches
returns-in-Leaf-clause-reaches g c =
    reaches (g.R.Rows.shape c.args.rows.now) (g.R.Rows.view c.args.seat.now) (g.R.Rows.view c.reach.new.seat) c.args.session.now c.args.log.now c.requires.holds c.in-Leaf.ensures.went.ran c.in-Leaf.ensures.fits.2
    c.args.key _ c.reach.new.path c.in-Leaf.ensures.went c.in-Leaf.ensures.came

pub returns-in-Cold-clause-holds : goal.returns-in-Cold-clause-holds
returns-in-Cold-clause-holds g c =
    holds_looked (g.R.Rows.shape c.args.rows.now) (g.R.Rows.view c.args.seat.now) (g.R.Rows.view c.reach.new.seat) c.args.session.now c.args.log.now c.requires.holds c.in-Cold.ensures.went.ran c.in-Cold.ensures.fits.2
    (g.R.Rows.shape c.reach.new.rows) c.in-Cold.ensures.fits.1

pub returns-in-Cold-clause-cold : goal.returns-in-Cold-clause-cold
returns-in-Cold-clause-cold g c = met_cold (g.R.Rows.shape c.args.rows.now) (g.R.Rows.view c.args.seat.now) (g.R.Rows.view c.reach.new.seat) c.args.key c.in-Cold.page c.requires.holds.alone c.in-Cold.ensures.went

pub returns-in-Cold-clause-cause_cold : goal.returns-in-Cold-clause-cause_cold
returns-in-Cold-clause-cause_cold g c warm _ =
    let m = met_cold (g.R.Rows.shape c.args.rows.now) (g.R.Rows.view c.args.seat.now) (g.R.Rows.view c.reach.new.seat) c.args.key c.in-Cold.page c.requires.holds.alone c.in-Cold.ensures.went in
    warm_met (g.R.Rows.shape c.args.rows.now) (g.R.Rows.view c.args.seat.now) (g.R.Rows.view c.reach.new.seat) c.args.session.now c.args.log.now c.args.key c.in-Cold.page c.requires.holds warm m
