use Rattle.std.proofs.Common.{◌∙◌, sym}
use Rattle.std.proofs.lemmas.Bool.{eqb-true}
use Rattle.row_changes.proofs.session_state.btree_descent.Ways.{on_after}
use Rattle.row_walks.proofs.ValueLemmas.{look_entry, look_holds, look_many, look_root, look_spot, no_value}
use Rattle.row_walks.proofs.at_once.is_thick.Goals.{then-many, else-many}
use Rattle.row_walks.proofs.at_once.is_thick.Goals as goal

pub again-requires-clause-on : goal.again-requires-clause-on
again-requires-clause-on g c =
    on_after (g.R.Rows.shape c.has_many-many.new.rows) (g.R.Rows.shape c.args.rows.now) (g.R.Rows.view c.args.seat.now) (g.R.Rows.view c.has_many-many.new.seat) c.args.session.now.own c.args.session.now.frames c.args.key c.args.spot.now.leaf.glimpse
    c.has_many-many.ensures.fits.1 c.has_many-many.ensures.kept c.requires.spot.at.leaf.on

pub returns-then-spot-eq0-clause-holds : goal.returns-then-spot-eq0-clause-holds
returns-then-spot-eq0-clause-holds g c =
    look_holds (g.R.Rows.shape c.args.rows.now) (g.R.Rows.shape c.has_many-many.new.rows) c.has_many-many.ensures.fits.1 (g.R.Rows.view c.args.seat.now) (g.R.Rows.view c.has_many-many.new.seat) (g.R.Rows.view c.again.new.seat) c.args.session.now c.args.log.now c.requires.holds c.args.key c.args.spot.now c.requires.spot c.has_many-many.ensures.kept
    c.in-Ok.ensures.ok (g.R.Rows.shape c.again.new.rows) c.in-Ok.ensures.fits.1

pub returns-then-spot-eq0-clause-spot : goal.returns-then-spot-eq0-clause-spot
returns-then-spot-eq0-clause-spot g c =
    look_spot (g.R.Rows.shape c.args.rows.now) (g.R.Rows.shape c.has_many-many.new.rows) c.has_many-many.ensures.fits.1 (g.R.Rows.view c.args.seat.now) (g.R.Rows.view c.has_many-many.new.seat) (g.R.Rows.view c.again.new.seat) c.args.session.now c.args.log.now c.requires.holds c.args.key c.args.spot.now c.requires.spot c.has_many-many.ensures.kept
    c.in-Ok.ensures.ok

pub returns-else-spot-eq0-clause-holds : goal.returns-else-spot-eq0-clause-holds
returns-else-spot-eq0-clause-holds g c =
    look_holds (g.R.Rows.shape c.args.rows.now) (g.R.Rows.shape c.has_many-many.new.rows) c.has_many-many.ensures.fits.1 (g.R.Rows.view c.args.seat.now) (g.R.Rows.view c.has_many-many.new.seat) (g.R.Rows.view c.again.new.seat) c.args.session.now c.args.log.now c.requires.holds c.args.key c.args.spot.now c.requires.spot c.has_many-many.ensures.kept
    c.in-Ok.ensures.ok (g.R.Rows.shape c.again.new.rows) c.in-Ok.ensures.fits.1

pub returns-else-spot-eq0-clause-spot : goal.returns-else-spot-eq0-clause-spot
returns-else-spot-eq0-clause-spot g c =
    look_spot (g.R.Rows.shape c.args.rows.now) (g.R.Rows.shape c.has_many-many.new.rows) c.has_many-many.ensures.fits.1 (g.R.Rows.view c.args.seat.now) (g.R.Rows.view c.has_many-many.new.seat) (g.R.Rows.view c.again.new.seat) c.args.session.now c.args.log.now c.requires.holds c.args.key c.args.spot.now c.requires.spot c.has_many-many.ensures.kept
    c.in-Ok.ensures.ok

pub returns-then-spot-eq0-clause-thick : goal.returns-then-spot-eq0-clause-thick
returns-then-spot-eq0-clause-thick g c is =
    elim c.if-many.branch [
      | then-many b ↦ look_many (g.R.Rows.shape c.args.rows.now) (g.R.Rows.shape c.has_many-many.new.rows) c.has_many-many.ensures.fits.1 (g.R.Rows.view c.args.seat.now) (g.R.Rows.view c.has_many-many.new.seat) (g.R.Rows.view c.again.new.seat) c.args.session.now c.args.log.now c.requires.holds c.args.key c.args.spot.now c.requires.spot c.has_many-many.ensures.kept
          c.in-Ok.ensures.ok c.every_room.ensures (c.has_many-many.ensures.many b.if-many.true)
      | else-many b ↦ look_root (g.R.Rows.shape c.args.rows.now) (g.R.Rows.shape c.has_many-many.new.rows) c.has_many-many.ensures.fits.1 (g.R.Rows.view c.args.seat.now) (g.R.Rows.view c.has_many-many.new.seat) (g.R.Rows.view c.again.new.seat) c.args.session.now c.args.log.now c.requires.holds c.args.key c.args.spot.now c.requires.spot c.has_many-many.ensures.kept
          c.in-Ok.ensures.ok c.every_room.ensures (eqb-true c.args.spot.now.leaf.head.page 0 (sym b.value-is ∙ is))
    ]

pub returns-else-spot-eq0-clause-thick : goal.returns-else-spot-eq0-clause-thick
returns-else-spot-eq0-clause-thick g c is =
    look_entry (g.R.Rows.shape c.args.rows.now) (g.R.Rows.shape c.has_many-many.new.rows) c.has_many-many.ensures.fits.1 (g.R.Rows.view c.args.seat.now) (g.R.Rows.view c.has_many-many.new.seat) (g.R.Rows.view c.again.new.seat) c.args.session.now c.args.log.now c.requires.holds c.args.key c.args.spot.now c.requires.spot c.has_many-many.ensures.kept
    c.in-Ok.ensures.ok c.every_room.ensures (sym c.is_value.ensures ∙ no_value c.is_value.result is)
