use Rattle.row_changes.proofs.PutLemmas.{holds_as, holds_still}
use Rattle.row_changes.proofs.SpotLemmas.{spot_for}
use Rattle.row_changes.proofs.WayLemmas.{met_cold}
use Rattle.session_state.proofs.Moments.{acts}
use Rattle.std.proofs.Common.{◌∙◌, refl, subst}
use Rattle.row_changes.proofs.SeenLemmas.{none_seen}
use Rattle.session_state.specs.btree_descent.declared.descent.Stop.{Stop}
use Rattle.session_state.specs.btree_descent.Descents.{Went}
use Rattle.session_state.specs.btree_descent.Inside.{answer_of}
use Rattle.row_changes.proofs.dels.find_spot.Goals as goal

pub locate-requires-clause-actor : goal.locate-requires-clause-actor
locate-requires-clause-actor g c = acts (g.R.Rows.shape c.args.rows.now) (g.R.Rows.view c.args.seat.now) c.args.session.now.own c.requires.holds.alone

pub returns-in-Ok-clause-spot : goal.returns-in-Ok-clause-spot
returns-in-Ok-clause-spot g c = spot_for (g.R.Rows.shape c.args.rows.now) (g.R.Rows.view c.args.seat.now) (g.R.Rows.view c.locate.new.seat) c.args.session.now c.args.log.now c.args.key c.in-Ok.spot c.requires.holds c.in-Ok.ensures.spot

pub returns-in-Ok-clause-holds : goal.returns-in-Ok-clause-holds
returns-in-Ok-clause-holds g c =
    let z = g.R.Rows.shape c.args.rows.now in
    let v = g.R.Rows.view c.args.seat.now in
    let w = g.R.Rows.view c.locate.new.seat in
    let x = c.args.session.now in
    let log = c.args.log.now in
    let s = c.in-Ok.ensures.spot in
    holds_as z (g.R.Rows.shape c.locate.new.rows) w x x log log c.in-Ok.ensures.fits.1 refl refl (holds_still z v w x log s.ran.given (none_seen z.alone v w c.requires.holds.alone s.ran) (s.held ∙ c.requires.holds.idle) c.requires.holds)

pub returns-in-Err-Cold-clause-holds : goal.returns-in-Err-Cold-clause-holds
returns-in-Err-Cold-clause-holds g c =
    let z = g.R.Rows.shape c.args.rows.now in
    let v = g.R.Rows.view c.args.seat.now in
    let w = g.R.Rows.view c.locate.new.seat in
    let x = c.args.session.now in
    let log = c.args.log.now in
    let e = c.in-Err-Cold.ensures in
    let m = met_cold z v w c.args.key c.in-Err-Cold.page c.requires.holds.alone (subst (λ (k : Stop). Went z.alone x.own c.args.key v (answer_of k) w) c.in-Err-Cold.field-0-is e.stop.went) in
    holds_as z (g.R.Rows.shape c.locate.new.rows) w x x log log e.fits.1 refl refl (holds_still z v w x log m.given m.seen (e.stop.held ∙ c.requires.holds.idle) c.requires.holds)
