use Rattle.std.proofs.Common.{Option, ℕ, sym, subst, refl}
use Rattle.session_state.proofs.HoldLemmas.{holds_as}
use Rattle.session_state.proofs.StageLemmas.{clock_set}
use Rattle.row_changes.specs.Reads.{HasRead}
use Rattle.row_changes.proofs.ReadLemmas.{after_read, has_read}
use Rattle.row_changes.proofs.TakeLemmas.{holds_still}
use Rattle.row_changes.proofs.WayLemmas.{met_cold, warm_met}
use Rattle.row_changes.proofs.reads.read_held.Goals as goal

pub returns-in-Found-clause-holds : goal.returns-in-Found-clause-holds
returns-in-Found-clause-holds g c =
    let z = g.R.Rows.shape c.args.rows.now in
    let v = g.R.Rows.view c.args.seat.now in
    let w = g.R.Rows.view c.find.new.seat in
    let x = c.args.session.now in
    holds_as z (g.R.Rows.shape c.find.new.rows) w _ _ c.args.log.now c.in-Found.ensures.fits.1 (clock_set x _ _ _ c.touch.ensures)
    (after_read z v w x c.args.log.now c.requires.holds c.requires.open_is c.args.key c.in-Found.found c.in-Found.ensures.went c.in-Found.ensures.fits.2 c.requires.row)

pub returns-in-Found-clause-reads : goal.returns-in-Found-clause-reads
returns-in-Found-clause-reads g c =
    let z = g.R.Rows.shape c.args.rows.now in
    let v = g.R.Rows.view c.args.seat.now in
    let w = g.R.Rows.view c.find.new.seat in
    let x = c.args.session.now in
    subst (λ (a : Option ℕ). HasRead x.own v w c.args.key a) (sym c.value_of.ensures)
    (has_read z v w x c.args.log.now c.requires.holds c.requires.open_is c.args.key c.in-Found.found c.in-Found.ensures.went c.in-Found.ensures.fits.2 c.requires.row)

pub returns-in-Cold-clause-holds : goal.returns-in-Cold-clause-holds
returns-in-Cold-clause-holds g c =
    let z = g.R.Rows.shape c.args.rows.now in
    let v = g.R.Rows.view c.args.seat.now in
    let w = g.R.Rows.view c.find.new.seat in
    let m = met_cold z v w c.args.key c.in-Cold.page c.requires.holds.alone c.in-Cold.ensures.went in
    holds_as z (g.R.Rows.shape c.find.new.rows) w c.args.session.now _ c.args.log.now c.in-Cold.ensures.fits.1 refl
    (holds_still z v w c.args.session.now c.args.log.now m.given m.seen c.in-Cold.ensures.fits.2 c.requires.holds)

pub returns-in-Cold-clause-reads : goal.returns-in-Cold-clause-reads
returns-in-Cold-clause-reads g c =
    (met_cold (g.R.Rows.shape c.args.rows.now) (g.R.Rows.view c.args.seat.now) (g.R.Rows.view c.find.new.seat) c.args.key c.in-Cold.page c.requires.holds.alone c.in-Cold.ensures.went, refl)

pub returns-in-Cold-clause-cause_cold : goal.returns-in-Cold-clause-cause_cold
returns-in-Cold-clause-cause_cold g c warm is_err =
    let z = g.R.Rows.shape c.args.rows.now in
    let v = g.R.Rows.view c.args.seat.now in
    let w = g.R.Rows.view c.find.new.seat in
    warm_met z v w c.args.session.now c.args.log.now c.args.key c.in-Cold.page c.requires.holds warm (met_cold z v w c.args.key c.in-Cold.page c.requires.holds.alone c.in-Cold.ensures.went)
