use Rattle.std.proofs.Common.{◌∙◌}
use Rattle.row_walks.specs.declared.levels.Level.TheVariants as level
use Rattle.row_walks.proofs.LookLemmas.{core_looked, looked_then, root_back, way_on}
use Rattle.row_walks.proofs.NextLemmas.{next_joins, next_needs, next_root, no_single, stop_as}
use Rattle.row_walks.proofs.nexts.look_up.Goals as goal

pub look_root-requires-clause-way : goal.look_root-requires-clause-way
look_root-requires-clause-way g c =
    (c.args.key, way_on (g.R.Rows.view c.args.seat.now) (g.R.Rows.view c.climb-stop.new.seat) c.climb-stop.ensures.looked.given (core_looked (g.R.Rows.view c.args.seat.now) (g.R.Rows.view c.climb-stop.new.seat) c.climb-stop.ensures.looked) c.args.key c.args.path.now c.requires.way)

pub returns-in-Thick-clause-fits : goal.returns-in-Thick-clause-fits
returns-in-Thick-clause-fits g c = (c.look_root.ensures.fits.0, c.look_root.ensures.fits.1 ∙ c.climb-stop.ensures.fits.1)

pub returns-in-Thick-clause-looked : goal.returns-in-Thick-clause-looked
returns-in-Thick-clause-looked g c =
    looked_then (g.R.Rows.view c.args.seat.now) (g.R.Rows.view c.climb-stop.new.seat) (g.R.Rows.view c.look_root.new.seat) c.climb-stop.ensures.looked c.look_root.ensures.looked

pub returns-in-Thick-clause-next : goal.returns-in-Thick-clause-next
returns-in-Thick-clause-next g c =
    next_root c.args.session.now.own (g.R.Rows.view c.args.seat.now) c.args.key c.args.from c.climb-stop.result.level (stop_as c.args.session.now.own (g.R.Rows.view c.args.seat.now) c.args.key c.args.from c.climb-stop.result.level c.climb-stop.result.found level.Thick c.in-Thick.is c.climb-stop.ensures.stops) c.look_root.result (root_back (g.R.Rows.view c.args.seat.now) (g.R.Rows.view c.climb-stop.new.seat) c.climb-stop.ensures.looked.given (core_looked (g.R.Rows.view c.args.seat.now) (g.R.Rows.view c.climb-stop.new.seat) c.climb-stop.ensures.looked) c.look_root.result c.look_root.ensures.drops)

pub returns-in-Needs-clause-next : goal.returns-in-Needs-clause-next
returns-in-Needs-clause-next g c =
    next_needs c.args.session.now.own (g.R.Rows.view c.args.seat.now) c.args.key c.args.from c.climb-stop.result.level c.in-Needs.page (stop_as c.args.session.now.own (g.R.Rows.view c.args.seat.now) c.args.key c.args.from c.climb-stop.result.level c.climb-stop.result.found (level.Needs c.in-Needs.page) c.in-Needs.is c.climb-stop.ensures.stops)

pub returns-in-Joins-clause-next : goal.returns-in-Joins-clause-next
returns-in-Joins-clause-next g c =
    next_joins c.args.session.now.own (g.R.Rows.view c.args.seat.now) c.args.key c.args.from c.climb-stop.result.level c.in-Joins.left c.in-Joins.right c.in-Joins.parent c.in-Joins.page (stop_as c.args.session.now.own (g.R.Rows.view c.args.seat.now) c.args.key c.args.from c.climb-stop.result.level c.climb-stop.result.found (level.Joins c.in-Joins.left c.in-Joins.right c.in-Joins.parent c.in-Joins.page) c.in-Joins.is c.climb-stop.ensures.stops)

pub unreachable-requires : goal.unreachable-requires
unreachable-requires g c =
    no_single c.args.session.now.own (g.R.Rows.view c.args.seat.now) c.args.key c.args.from c.climb-stop.result.level (stop_as c.args.session.now.own (g.R.Rows.view c.args.seat.now) c.args.key c.args.from c.climb-stop.result.level c.climb-stop.result.found level.Single c.in-Single.is c.climb-stop.ensures.stops)
