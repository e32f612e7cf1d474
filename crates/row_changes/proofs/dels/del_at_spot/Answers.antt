use Rattle.std.proofs.Common.{◌≡◌, ℕ, ◌∷◌, Option, Some, Err, ap, refl, subst, arith}
use Rattle.session_state.specs.btree_descent.declared.descent.TheConstants.{TOMBSTONE}
use Rattle.row_changes.specs.Puts.{IsChanged}
use Rattle.row_changes.proofs.DelLemmas.{holds_absent, is_absent, same_by_clock, same_by_staged}
use Rattle.row_changes.proofs.PutLemmas.{holds_as, holds_changed, holds_still, is_changed, may_put, not_last, value_said}
use Rattle.row_changes.proofs.SeenLemmas.{none_seen}
use Rattle.row_changes.proofs.SpotLemmas.{spent_since}
use Rattle.row_changes.proofs.WayLemmas.{met_cold, warm_met}
use Rattle.session_state.proofs.StageLemmas.{undo_set}
use Rattle.row_changes.proofs.StepLemmas.{cause_from, ok_calm}
use Rattle.row_changes.proofs.dels.del_at_spot.Goals as goal

pub del_at-requires-clause-may : goal.del_at-requires-clause-may
del_at-requires-clause-may g c = may_put (g.R.Rows.shape c.args.rows.now) (g.R.Rows.view c.args.seat.now) c.args.work.now.session c.args.work.now.log c.args.key TOMBSTONE c.requires.holds c.requires.may (omega arith)

pub returns-in-Done-clause-dels : goal.returns-in-Done-clause-dels
returns-in-Done-clause-dels g c =
    let z = g.R.Rows.shape c.args.rows.now in
    let v = g.R.Rows.view c.args.seat.now in
    let w = g.R.Rows.view c.del_at.new.seat in
    let old = g.D.Disk.story c.args.work.now.disk in
    let new = g.D.Disk.story c.del_at.new.draw.disk in
    subst (λ (b : Option ℕ). IsChanged c.args.work.now.session.own v w c.args.key TOMBSTONE b c.args.work.now.log c.del_at.new.draw.log old new) (value_said c.in-Done.was c.in-Done.ensures.del.value)
    (is_changed z v w c.args.work.now.session c.args.work.now.log c.args.key TOMBSTONE (Some c.in-Done.was) c.args.work.now.staged.list c.del_at.new.draw.staged.list c.del_at.new.draw.session c.del_at.new.draw.log
    old new (c.del_at.new.draw.disk ≡ c.args.work.now.disk) (g.D.Disk.faults c.args.work.now.disk) (g.D.Disk.faults c.del_at.new.draw.disk) c.requires.holds.alone c.in-Done.ensures.del.changed c.in-Done.ensures.drew)

pub returns-in-Done-clause-holds : goal.returns-in-Done-clause-holds
returns-in-Done-clause-holds g c works =
    let z = g.R.Rows.shape c.args.rows.now in
    let v = g.R.Rows.view c.args.seat.now in
    let w = g.R.Rows.view c.del_at.new.seat in
    let y = c.del_at.new.draw.session in
    holds_as z (g.R.Rows.shape c.del_at.new.rows) w (record y { undo = record { key = c.args.key; word = c.in-Done.was } ∷ y.undo }) _ c.del_at.new.draw.log c.del_at.new.draw.log c.in-Done.ensures.fits.1 (undo_set y c.push.new.self (record { key = c.args.key; word = c.in-Done.was } ∷ y.undo) _ c.push.ensures) refl
    (holds_changed c.every_room.ensures z v w c.args.work.now.session c.args.work.now.log c.requires.holds c.args.key TOMBSTONE c.requires.may (Some c.in-Done.was) c.args.work.now.staged.list c.del_at.new.draw.staged.list y c.del_at.new.draw.log c.in-Done.ensures.del.changed
    (g.D.Disk.story c.args.work.now.disk) (g.D.Disk.story c.del_at.new.draw.disk) (c.del_at.new.draw.disk ≡ c.args.work.now.disk) (g.D.Disk.faults c.args.work.now.disk) (g.D.Disk.faults c.del_at.new.draw.disk) c.in-Done.ensures.fits.2 c.in-Done.ensures.drew c.in-Done.ensures.last)

pub returns-in-Absent-clause-holds : goal.returns-in-Absent-clause-holds
returns-in-Absent-clause-holds g c works =
    let z = g.R.Rows.shape c.args.rows.now in
    let v = g.R.Rows.view c.args.seat.now in
    let w = g.R.Rows.view c.del_at.new.seat in
    let x = c.args.work.now.session in
    let y = c.del_at.new.draw.session in
    let e = c.in-Absent.ensures in
    holds_as z (g.R.Rows.shape c.del_at.new.rows) w y y c.args.work.now.log c.del_at.new.draw.log e.fits.1 refl (ap (λ k. k.log) e.drew)
    (holds_absent z v w x y c.args.work.now.log c.args.key c.requires.holds c.requires.may.is_open c.args.work.now.staged.list c.del_at.new.draw.staged.list e.del e.fits.2 (ap (λ k. k.session) e.drew))

pub returns-in-Absent-clause-dels : goal.returns-in-Absent-clause-dels
returns-in-Absent-clause-dels g c =
    let z = g.R.Rows.shape c.args.rows.now in
    let v = g.R.Rows.view c.args.seat.now in
    let w = g.R.Rows.view c.del_at.new.seat in
    let x = c.args.work.now.session in
    let y = c.del_at.new.draw.session in
    let e = c.in-Absent.ensures in
    (is_absent z v w x y c.args.work.now.log c.args.key c.requires.holds c.requires.may.is_open c.args.work.now.staged.list c.del_at.new.draw.staged.list e.del e.fits.2 (ap (λ k. k.session) e.drew), ap (λ k. k.log) e.drew, ap (λ k. k.disk) e.drew)

pub returns-in-RowSpent-clause-holds : goal.returns-in-RowSpent-clause-holds
returns-in-RowSpent-clause-holds g c works =
    let z = g.R.Rows.shape c.args.rows.now in
    let v = g.R.Rows.view c.args.seat.now in
    let w = g.R.Rows.view c.del_at.new.seat in
    let e = c.in-RowSpent.ensures.del in
    holds_as z (g.R.Rows.shape c.del_at.new.rows) w c.args.work.now.session c.del_at.new.draw.session c.args.work.now.log c.del_at.new.draw.log c.in-RowSpent.ensures.fits.1 (ap (λ k. k.session) c.in-RowSpent.ensures.drew) (ap (λ k. k.log) c.in-RowSpent.ensures.drew)
    (holds_still z v w c.args.work.now.session c.args.work.now.log e.given (none_seen z.alone v w c.requires.holds.alone e) c.in-RowSpent.ensures.fits.2 c.requires.holds)

pub returns-in-RowSpent-clause-dels : goal.returns-in-RowSpent-clause-dels
returns-in-RowSpent-clause-dels g c =
    let z = g.R.Rows.shape c.args.rows.now in
    let v = g.R.Rows.view c.args.seat.now in
    let w = g.R.Rows.view c.del_at.new.seat in
    (spent_since c.every_low.ensures z c.in-RowSpent.row c.requires.spot.start v w c.requires.holds.alone c.in-RowSpent.ensures.del c.versions.ensures.low (c.in-RowSpent.ensures.cause c.requires.spot.start c.requires.spot.found), c.in-RowSpent.ensures.drew)

pub returns-in-Done-clause-cause_disk_fault : goal.returns-in-Done-clause-cause_disk_fault
returns-in-Done-clause-cause_disk_fault g c =
    cause_from (g.D.Disk.faults c.args.work.now.disk) (g.D.Disk.faults c.args.work.now.disk) (g.D.Disk.faults c.del_at.new.draw.disk) _ _ refl c.in-Done.ensures.drew.cause (λ q. absurd (ok_calm _ _ q)) (λ p. absurd (cc))

pub returns-in-Done-clause-session : goal.returns-in-Done-clause-session
returns-in-Done-clause-session g c = same_by_staged c.args.work.now.session c.del_at.new.draw.session c.in-Done.ensures.drew.session

pub returns-in-Absent-clause-session : goal.returns-in-Absent-clause-session
returns-in-Absent-clause-session g c = same_by_clock c.args.work.now.session c.del_at.new.draw.session (ap (λ k. k.session) c.in-Absent.ensures.drew)

pub returns-in-Unstaged-DiskFault-clause-session : goal.returns-in-Unstaged-DiskFault-clause-session
returns-in-Unstaged-DiskFault-clause-session g c = same_by_staged c.args.work.now.session c.del_at.new.draw.session c.in-Unstaged-DiskFault.ensures.drew.session

pub unreachable-requires-in-ClockSpent : goal.unreachable-requires-in-ClockSpent
unreachable-requires-in-ClockSpent g c =
    not_last (g.R.Rows.shape c.args.rows.now) (g.R.Rows.view c.args.seat.now) (g.R.Rows.view c.del_at.new.seat) c.args.work.now.session c.args.work.now.log c.args.key c.requires.holds c.next_fits.ensures c.requires.may.is_open c.in-ClockSpent.ensures.del

pub returns-in-Unstaged-DiskFault-clause-cause_disk_fault : goal.returns-in-Unstaged-DiskFault-clause-cause_disk_fault
returns-in-Unstaged-DiskFault-clause-cause_disk_fault g c =
    cause_from (g.D.Disk.faults c.args.work.now.disk) (g.D.Disk.faults c.args.work.now.disk) (g.D.Disk.faults c.del_at.new.draw.disk) _ _ refl c.in-Unstaged-DiskFault.ensures.drew.cause (λ q. ap Err c.in-Unstaged-DiskFault.field-0-is) (λ p. refl)

pub returns-in-Cold-clause-holds : goal.returns-in-Cold-clause-holds
returns-in-Cold-clause-holds g c works =
    let z = g.R.Rows.shape c.args.rows.now in
    let v = g.R.Rows.view c.args.seat.now in
    let w = g.R.Rows.view c.del_at.new.seat in
    let m = met_cold z v w c.args.key c.in-Cold.page c.requires.holds.alone c.in-Cold.ensures.del in
    holds_as z (g.R.Rows.shape c.del_at.new.rows) w c.args.work.now.session c.del_at.new.draw.session c.args.work.now.log c.del_at.new.draw.log c.in-Cold.ensures.fits.1 (ap (λ k. k.session) c.in-Cold.ensures.drew) (ap (λ k. k.log) c.in-Cold.ensures.drew)
    (holds_still z v w c.args.work.now.session c.args.work.now.log m.given m.seen c.in-Cold.ensures.fits.2 c.requires.holds)

pub returns-in-Cold-clause-dels : goal.returns-in-Cold-clause-dels
returns-in-Cold-clause-dels g c =
    (met_cold (g.R.Rows.shape c.args.rows.now) (g.R.Rows.view c.args.seat.now) (g.R.Rows.view c.del_at.new.seat) c.args.key c.in-Cold.page c.requires.holds.alone c.in-Cold.ensures.del, c.in-Cold.ensures.drew)

pub returns-in-Cold-clause-cause_cold : goal.returns-in-Cold-clause-cause_cold
returns-in-Cold-clause-cause_cold g c warm cut =
    let z = g.R.Rows.shape c.args.rows.now in
    let v = g.R.Rows.view c.args.seat.now in
    let w = g.R.Rows.view c.del_at.new.seat in
    warm_met z v w c.args.work.now.session c.args.work.now.log c.args.key c.in-Cold.page c.requires.holds warm (met_cold z v w c.args.key c.in-Cold.page c.requires.holds.alone c.in-Cold.ensures.del)

pub del_at-requires-clause-spot : goal.del_at-requires-clause-spot
del_at-requires-clause-spot g c = c.requires.spot.at
