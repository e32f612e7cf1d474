use Rattle.std.proofs.Common.{refl}
use Rattle.row_changes.proofs.session_state.HoldLemmas.{holds_as}
use Rattle.row_changes.proofs.session_state.StageLemmas.{but_clock, clock_set}
use Rattle.row_changes.proofs.TakeLemmas.{holds_still}
use Rattle.row_scans.specs.declared.meets.Met.TheVariants as met
use Rattle.row_scans.proofs.LookLemmas.{after_walk, has_walked, may_walk, met_cold_first, next_entry, pair_in, still_next}
use Rattle.row_scans.proofs.looks.look.Goals as goal

pub next-requires-clause-may : goal.next-requires-clause-may
next-requires-clause-may g c = may_walk (g.R.Rows.shape c.args.rows.now) (g.R.Rows.view c.args.seat.now) c.args.session.now c.args.log.now c.requires.holds c.args.taken.now c.requires.open_is c.requires.held

pub returns-in-Pair-clause-holds : goal.returns-in-Pair-clause-holds
returns-in-Pair-clause-holds g c =
    let z = g.R.Rows.shape c.args.rows.now in
    let v = g.R.Rows.view c.args.seat.now in
    let w = g.R.Rows.view c.next.new.seat in
    let x = c.args.session.now in
    holds_as z (g.R.Rows.shape c.next.new.rows) w _ _ c.args.log.now c.in-Pair.ensures.fits.1 (clock_set x _ _ _ c.touch.ensures)
    (after_walk c.every_tree.ensures z v w x c.args.log.now c.requires.holds c.args.key c.args.taken.now c.requires.first _ c.in-Pair.stamp c.in-Pair.ensures.walked c.in-Pair.ensures.fits.2)

pub returns-in-Pair-clause-session : goal.returns-in-Pair-clause-session
returns-in-Pair-clause-session g c = but_clock c.args.session.now _ _ _ (clock_set c.args.session.now _ _ _ c.touch.ensures)

pub returns-in-Pair-clause-looks : goal.returns-in-Pair-clause-looks
returns-in-Pair-clause-looks g c =
    let z = g.R.Rows.shape c.args.rows.now in
    let v = g.R.Rows.view c.args.seat.now in
    let w = g.R.Rows.view c.next.new.seat in
    let x = c.args.session.now in
    has_walked c.every_tree.ensures z v w x c.args.log.now c.requires.holds c.args.key c.args.taken.now c.requires.first _ c.in-Pair.stamp c.in-Pair.ensures.walked (met.Pair c.in-Pair.at c.in-Pair.value) refl
    (pair_in c.every_tree.ensures z v w x c.args.log.now c.requires.holds c.args.key c.args.taken.now c.requires.first _ c.in-Pair.stamp c.in-Pair.ensures.walked c.in-Pair.at c.in-Pair.value refl)

pub returns-in-Gap-clause-holds : goal.returns-in-Gap-clause-holds
returns-in-Gap-clause-holds g c =
    let z = g.R.Rows.shape c.args.rows.now in
    let v = g.R.Rows.view c.args.seat.now in
    let w = g.R.Rows.view c.next.new.seat in
    let x = c.args.session.now in
    holds_as z (g.R.Rows.shape c.next.new.rows) w _ _ c.args.log.now c.in-Gap.ensures.fits.1 (clock_set x _ _ _ c.touch-in-Gap.ensures)
    (after_walk c.every_tree.ensures z v w x c.args.log.now c.requires.holds c.args.key c.args.taken.now c.requires.first _ c.in-Gap.stamp c.in-Gap.ensures.walked.0 c.in-Gap.ensures.fits.2)

pub returns-in-Gap-clause-session : goal.returns-in-Gap-clause-session
returns-in-Gap-clause-session g c = but_clock c.args.session.now _ _ _ (clock_set c.args.session.now _ _ _ c.touch-in-Gap.ensures)

pub returns-in-Gap-clause-looks : goal.returns-in-Gap-clause-looks
returns-in-Gap-clause-looks g c =
    let z = g.R.Rows.shape c.args.rows.now in
    let v = g.R.Rows.view c.args.seat.now in
    let w = g.R.Rows.view c.next.new.seat in
    let x = c.args.session.now in
    has_walked c.every_tree.ensures z v w x c.args.log.now c.requires.holds c.args.key c.args.taken.now c.requires.first _ c.in-Gap.stamp c.in-Gap.ensures.walked.0 (met.Gap c.in-Gap.high) refl c.in-Gap.ensures.walked.1

pub returns-in-Unlocked-clause-holds : goal.returns-in-Unlocked-clause-holds
returns-in-Unlocked-clause-holds g c =
    let z = g.R.Rows.shape c.args.rows.now in
    let v = g.R.Rows.view c.args.seat.now in
    let w = g.R.Rows.view c.next.new.seat in
    let x = c.args.session.now in
    holds_as z (g.R.Rows.shape c.next.new.rows) w x x c.args.log.now c.in-Unlocked.ensures.fits.1 refl
    (still_next c.every_tree.ensures z v w x c.args.log.now c.requires.holds c.args.key c.args.taken.now c.requires.first c.in-Unlocked.at c.in-Unlocked.ensures.walked c.in-Unlocked.ensures.fits.2)

pub returns-in-Unlocked-clause-looks : goal.returns-in-Unlocked-clause-looks
returns-in-Unlocked-clause-looks g c =
    let z = g.R.Rows.shape c.args.rows.now in
    let v = g.R.Rows.view c.args.seat.now in
    let w = g.R.Rows.view c.next.new.seat in
    (next_entry c.every_tree.ensures z v w c.args.session.now c.args.log.now c.requires.holds c.args.key c.args.taken.now c.requires.first c.in-Unlocked.at c.in-Unlocked.ensures.walked, refl)

pub returns-in-Cold-clause-holds : goal.returns-in-Cold-clause-holds
returns-in-Cold-clause-holds g c =
    let z = g.R.Rows.shape c.args.rows.now in
    let v = g.R.Rows.view c.args.seat.now in
    let w = g.R.Rows.view c.next.new.seat in
    let x = c.args.session.now in
    let m = (met_cold_first c.every_tree.ensures z v w x c.args.log.now c.requires.holds c.args.key c.args.taken.now c.requires.first c.every_warm.ensures c.in-Cold.page c.in-Cold.ensures.walked).0 in
    holds_as z (g.R.Rows.shape c.next.new.rows) w x x c.args.log.now c.in-Cold.ensures.fits.1 refl
    (holds_still z v w x c.args.log.now m.given m.seen c.in-Cold.ensures.fits.2 c.requires.holds)

pub returns-in-Cold-clause-looks : goal.returns-in-Cold-clause-looks
returns-in-Cold-clause-looks g c =
    let z = g.R.Rows.shape c.args.rows.now in
    let v = g.R.Rows.view c.args.seat.now in
    let w = g.R.Rows.view c.next.new.seat in
    let m = met_cold_first c.every_tree.ensures z v w c.args.session.now c.args.log.now c.requires.holds c.args.key c.args.taken.now c.requires.first c.every_warm.ensures c.in-Cold.page c.in-Cold.ensures.walked in
    (m.0, m.1, refl)
