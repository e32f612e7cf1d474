use Rattle.std.proofs.Common.{◌≤◌, ◌+◌, length, refl, subst}
use Rattle.session_state.specs.key_locks.Locking.{Refuses}
use Rattle.row_changes.proofs.TakeLemmas.{hindered, holds_still, holds_taken, session_taken, spent, takes}
use Rattle.session_state.proofs.HoldLemmas.{holds_as}
use Rattle.row_changes.proofs.taking.take_first.Goals as goal

pub returns-in-Ok-clause-holds : goal.returns-in-Ok-clause-holds
returns-in-Ok-clause-holds g c =
    let z = g.R.Rows.shape c.args.rows.now in
    let w = g.R.Rows.view c.lock_row.new.seat in
    let x = c.args.session.now in
    let row = c.args.row in
    let stamp = c.in-Ok.stamp in
    holds_as z (g.R.Rows.shape c.lock_row.new.rows) w _ _ c.args.log.now c.in-Ok.ensures.fits.1
    (session_taken x c.touch.new.self c.raise.new.self c.take.new.self stamp.number stamp.log stamp.readers row c.touch.ensures c.raise.ensures c.take.ensures _)
    (holds_taken z (g.R.Rows.view c.args.seat.now) w x c.args.log.now c.requires.holds c.requires.open_is row c.requires.row c.args.mode stamp c.in-Ok.ensures.ok c.in-Ok.ensures.fits.2
    (subst (λ k. length k.rows ≤ k.count) c.take.ensures c.few.ensures))

pub returns-in-Ok-clause-taken : goal.returns-in-Ok-clause-taken
returns-in-Ok-clause-taken g c =
    let z = g.R.Rows.shape c.args.rows.now in
    let v = g.R.Rows.view c.args.seat.now in
    let w = g.R.Rows.view c.lock_row.new.seat in
    let x = c.args.session.now in
    let row = c.args.row in
    let stamp = c.in-Ok.stamp in
    takes z v w x c.args.log.now c.requires.holds c.requires.open_is row c.requires.row c.args.mode stamp c.in-Ok.ensures.ok c.in-Ok.ensures.fits.2 _
    (session_taken x c.touch.new.self c.raise.new.self c.take.new.self stamp.number stamp.log stamp.readers row c.touch.ensures c.raise.ensures c.take.ensures _)

pub returns-in-Err-RowSpent-clause-holds : goal.returns-in-Err-RowSpent-clause-holds
returns-in-Err-RowSpent-clause-holds g c =
    let z = g.R.Rows.shape c.args.rows.now in
    let v = g.R.Rows.view c.args.seat.now in
    let w = g.R.Rows.view c.lock_row.new.seat in
    let x = c.args.session.now in
    let r = subst (λ r. Refuses z.alone x.own (x.frames + c.args.row) c.args.row c.args.mode v r w) c.in-Err-RowSpent.field-0-is c.in-Err-RowSpent.ensures.err in
    let s = spent z v w c.requires.holds.alone c.every_low.ensures c.versions.ensures.low _ _ r in
    holds_as z (g.R.Rows.shape c.lock_row.new.rows) w x x c.args.log.now c.in-Err-RowSpent.ensures.fits.1 refl (holds_still z v w x c.args.log.now s.given s.seen c.in-Err-RowSpent.ensures.fits.2 c.requires.holds)

pub returns-in-Err-RowSpent-clause-not_taken : goal.returns-in-Err-RowSpent-clause-not_taken
returns-in-Err-RowSpent-clause-not_taken g c =
    let z = g.R.Rows.shape c.args.rows.now in
    let v = g.R.Rows.view c.args.seat.now in
    let w = g.R.Rows.view c.lock_row.new.seat in
    let x = c.args.session.now in
    let r = subst (λ r. Refuses z.alone x.own (x.frames + c.args.row) c.args.row c.args.mode v r w) c.in-Err-RowSpent.field-0-is c.in-Err-RowSpent.ensures.err in
    (spent z v w c.requires.holds.alone c.every_low.ensures c.versions.ensures.low _ _ r, refl)

pub returns-in-Err-Conflict-clause-holds : goal.returns-in-Err-Conflict-clause-holds
returns-in-Err-Conflict-clause-holds g c =
    let z = g.R.Rows.shape c.args.rows.now in
    let v = g.R.Rows.view c.args.seat.now in
    let w = g.R.Rows.view c.lock_row.new.seat in
    let x = c.args.session.now in
    let row = c.args.row in
    let s = hindered z v w x row c.args.mode c.in-Err-Conflict.holder c.requires.holds.alone (subst (λ r. Refuses z.alone x.own (x.frames + row) row c.args.mode v r w) c.in-Err-Conflict.field-0-is c.in-Err-Conflict.ensures.err) in
    holds_as z (g.R.Rows.shape c.lock_row.new.rows) w x x c.args.log.now c.in-Err-Conflict.ensures.fits.1 refl (holds_still z v w x c.args.log.now s.given s.seen c.in-Err-Conflict.ensures.fits.2 c.requires.holds)

pub returns-in-Err-Conflict-clause-not_taken : goal.returns-in-Err-Conflict-clause-not_taken
returns-in-Err-Conflict-clause-not_taken g c =
    let z = g.R.Rows.shape c.args.rows.now in
    let v = g.R.Rows.view c.args.seat.now in
    let w = g.R.Rows.view c.lock_row.new.seat in
    let x = c.args.session.now in
    let row = c.args.row in
    let r = subst (λ r. Refuses z.alone x.own (x.frames + row) row c.args.mode v r w) c.in-Err-Conflict.field-0-is c.in-Err-Conflict.ensures.err in
    (hindered z v w x row c.args.mode c.in-Err-Conflict.holder c.requires.holds.alone r, refl)
