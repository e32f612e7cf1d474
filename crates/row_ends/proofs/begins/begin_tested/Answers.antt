use Rattle.std.proofs.Common.{arith, ◌∙◌, [], ◌∷◌, min, refl, ap, subst}
use Rattle.session_state.specs.row_words.declared.event.Event.TheVariants.{Begin}
use Rattle.session_state.specs.rows_trait.Turns.{Heard}
use Rattle.row_ends.specs.Begins.{begun_session}
use Rattle.session_state.proofs.HoldLemmas.{holds_as}
use Rattle.session_state.proofs.Moments.{acts}
use Rattle.session_state.proofs.OtherLemmas.{every_steps, no_steps}
use Rattle.row_ends.proofs.BeginLemmas.{after_begin, begin_steps, begins_by, looked_holds, looked_least}
use Rattle.row_ends.proofs.begins.begin_tested.Goals as goal

pub load_control-last-requires-clause-event : goal.load_control-last-requires-clause-event
load_control-last-requires-clause-event g c n =
    let x = c.args.session.now in
    let z = g.R.Rows.shape c.least_flushed-least.new.rows in
    let u = g.R.Rows.view c.least_flushed-least.new.seat in
    (c.every_begin.ensures z u x.own).silent (acts z u x.own (ap (λ z. z.alone) c.least_flushed-least.ensures.fits.1 ∙ c.requires.holds.alone)) (min c.least_flushed-least.result n)

pub load_control-last-requires-clause-tame : goal.load_control-last-requires-clause-tame
load_control-last-requires-clause-tame g c n =
    let x = c.args.session.now in
    let log = c.args.log.now in
    let z = g.R.Rows.shape c.least_flushed-least.new.rows in
    let y = g.R.Rows.shape c.args.rows.now in
    let v = g.R.Rows.view c.args.seat.now in
    let u = g.R.Rows.view c.least_flushed-least.new.seat in
    let h = c.requires.holds in
    let e = (looked_holds y v u x log (c.least_flushed-least.ensures.seen h.alone) h).session.clock in
    let s = c.requires.may.small in
    (c.every_begin.ensures z u x.own).tame (omega arith) (min c.least_flushed-least.result n)

pub returns-clause-holds : goal.returns-clause-holds
returns-clause-holds g c =
    let x = c.args.session.now in
    let log = c.args.log.now in
    let may = c.requires.may in
    let z = g.R.Rows.shape c.args.rows.now in
    let y = g.R.Rows.shape c.least_flushed-least.new.rows in
    let v = g.R.Rows.view c.args.seat.now in
    let u = g.R.Rows.view c.least_flushed-least.new.seat in
    let w = g.R.Rows.view c.load_control-last.new.seat in
    let h = c.requires.holds in
    let l = c.least_flushed-least.ensures.seen h.alone in
    holds_as y (g.R.Rows.shape c.load_control-last.new.self) w (begun_session x (min c.least_flushed-least.result c.load_control-last.result)) c.begun.new.session log c.load_control-last.ensures.shape (c.begun.ensures ∙ ap (begun_session x) c.lesser.ensures)
    (after_begin c.every_begin.ensures y u w x log (holds_as z y u x x log c.least_flushed-least.ensures.fits.1 refl (looked_holds z v u x log l h)) may.closed may.small may.room
    c.least_flushed-least.result c.load_control-last.result (looked_least v u _ c.least_flushed-least.result l (c.least_flushed-least.ensures.least h.alone)) c.load_control-last.type_inv c.load_control-last.ensures.step)

pub returns-clause-begins : goal.returns-clause-begins
returns-clause-begins g c =
    let x = c.args.session.now in
    let log = c.args.log.now in
    let z = g.R.Rows.shape c.args.rows.now in
    let v = g.R.Rows.view c.args.seat.now in
    let u = g.R.Rows.view c.least_flushed-least.new.seat in
    let w = g.R.Rows.view c.load_control-last.new.seat in
    let h = c.requires.holds in
    begins_by c.every_begin.ensures z v u w x c.begun.new.session log h c.requires.may (c.least_flushed-least.ensures.seen h.alone) c.least_flushed-least.result c.load_control-last.result (c.least_flushed-least.ensures.least h.alone) c.load_control-last.type_inv
    (subst (λ y. Heard y x.workers 0 (λ n. Begin x.own (min c.least_flushed-least.result n) ∷ []) u c.load_control-last.result w) c.least_flushed-least.ensures.fits.1 c.load_control-last.ensures.step) (c.begun.ensures ∙ ap (begun_session x) c.lesser.ensures)

pub returns-clause-steps : goal.returns-clause-steps
returns-clause-steps g c =
    let x = c.args.session.now in
    let log = c.args.log.now in
    let may = c.requires.may in
    let z = g.R.Rows.shape c.args.rows.now in
    let y = g.R.Rows.shape c.least_flushed-least.new.rows in
    let v = g.R.Rows.view c.args.seat.now in
    let u = g.R.Rows.view c.least_flushed-least.new.seat in
    let w = g.R.Rows.view c.load_control-last.new.seat in
    let h = c.requires.holds in
    let l = c.least_flushed-least.ensures.seen h.alone in
    every_steps x.own v u w (no_steps x.own v u l.given l.seen)
    (begin_steps c.every_begin.ensures y u w x log (holds_as z y u x x log c.least_flushed-least.ensures.fits.1 refl (looked_holds z v u x log l h)) may.closed may.small may.room
    c.least_flushed-least.result c.load_control-last.result (looked_least v u _ c.least_flushed-least.result l (c.least_flushed-least.ensures.least h.alone)) c.load_control-last.type_inv c.load_control-last.ensures.step)
