use Rattle.std.proofs.Common.{◌≡◌, ◌^◌, ◌∙◌, ℕ, ◌∷◌, Option, Err, ap, refl, sym, subst, arith}
use Rattle.page_model.specs.Tree.{word_or}
use Rattle.row_changes.specs.Puts.{IsChanged}
use Rattle.row_changes.proofs.DelLemmas.{same_by_staged}
use Rattle.row_changes.proofs.PutLemmas.{holds_as, holds_changed, holds_still, is_changed, is_spent, may_put, no_room, not_last}
use Rattle.row_changes.proofs.SeenLemmas.{none_seen}
use Rattle.row_changes.proofs.WayLemmas.{met_cold, warm_met}
use Rattle.session_state.proofs.StageLemmas.{undo_set}
use Rattle.row_changes.proofs.StepLemmas.{cause_from, ok_calm}
use Rattle.row_changes.proofs.puts.put_in_leaf.Goals as goal

pub unreachable-requires-in-ClockSpent : goal.unreachable-requires-in-ClockSpent
unreachable-requires-in-ClockSpent g c =
    not_last (g.R.Rows.shape c.args.rows.now) (g.R.Rows.view c.args.seat.now) (g.R.Rows.view c.leaf_put.new.seat) c.args.work.now.session c.args.work.now.log c.args.key c.requires.holds c.next_fits.ensures c.requires.may.is_open c.in-ClockSpent.ensures.put

pub leaf_put-requires-clause-may : goal.leaf_put-requires-clause-may
leaf_put-requires-clause-may g c = may_put (g.R.Rows.shape c.args.rows.now) (g.R.Rows.view c.args.seat.now) c.args.work.now.session c.args.work.now.log c.args.key c.args.value c.requires.holds c.requires.may (let low = c.requires.value in omega arith)

pub returns-in-Done-clause-tries : goal.returns-in-Done-clause-tries
returns-in-Done-clause-tries g c =
    let z = g.R.Rows.shape c.args.rows.now in
    let v = g.R.Rows.view c.args.seat.now in
    let w = g.R.Rows.view c.leaf_put.new.seat in
    let old = g.D.Disk.story c.args.work.now.disk in
    let new = g.D.Disk.story c.leaf_put.new.draw.disk in
    subst (λ (b : Option ℕ). IsChanged c.args.work.now.session.own v w c.args.key c.args.value b c.args.work.now.log c.leaf_put.new.draw.log old new) (sym c.value_of.ensures)
    (is_changed z v w c.args.work.now.session c.args.work.now.log c.args.key c.args.value c.in-Done.before c.args.work.now.staged.list c.leaf_put.new.draw.staged.list c.leaf_put.new.draw.session c.leaf_put.new.draw.log
    old new (c.leaf_put.new.draw.disk ≡ c.args.work.now.disk) (g.D.Disk.faults c.args.work.now.disk) (g.D.Disk.faults c.leaf_put.new.draw.disk) c.requires.holds.alone c.in-Done.ensures.put c.in-Done.ensures.drew)

pub returns-in-Done-clause-holds : goal.returns-in-Done-clause-holds
returns-in-Done-clause-holds g c works =
    let z = g.R.Rows.shape c.args.rows.now in
    let v = g.R.Rows.view c.args.seat.now in
    let w = g.R.Rows.view c.leaf_put.new.seat in
    let y = c.leaf_put.new.draw.session in
    holds_as z (g.R.Rows.shape c.leaf_put.new.rows) w (record y { undo = record { key = c.args.key; word = word_or (2 ^ 63) c.in-Done.before } ∷ y.undo }) _ c.leaf_put.new.draw.log c.leaf_put.new.draw.log c.in-Done.ensures.fits.1
    (undo_set y c.push.new.self (record { key = c.args.key; word = word_or (2 ^ 63) c.in-Done.before } ∷ y.undo) _ (c.push.ensures ∙ ap (λ (n : ℕ). record { key = c.args.key; word = n } ∷ y.undo) c.word_of.ensures)) refl
    (holds_changed c.every_room.ensures z v w c.args.work.now.session c.args.work.now.log c.requires.holds c.args.key c.args.value c.requires.may c.in-Done.before c.args.work.now.staged.list c.leaf_put.new.draw.staged.list y c.leaf_put.new.draw.log c.in-Done.ensures.put
    (g.D.Disk.story c.args.work.now.disk) (g.D.Disk.story c.leaf_put.new.draw.disk) (c.leaf_put.new.draw.disk ≡ c.args.work.now.disk) (g.D.Disk.faults c.args.work.now.disk) (g.D.Disk.faults c.leaf_put.new.draw.disk) c.in-Done.ensures.fits.2 c.in-Done.ensures.drew c.in-Done.ensures.last)

pub returns-in-Full-clause-holds : goal.returns-in-Full-clause-holds
returns-in-Full-clause-holds g c works =
    let z = g.R.Rows.shape c.args.rows.now in
    let v = g.R.Rows.view c.args.seat.now in
    let w = g.R.Rows.view c.leaf_put.new.seat in
    let e = c.in-Full.ensures.put in
    holds_as z (g.R.Rows.shape c.leaf_put.new.rows) w c.args.work.now.session c.leaf_put.new.draw.session c.args.work.now.log c.leaf_put.new.draw.log c.in-Full.ensures.fits.1 (ap (λ k. k.session) c.in-Full.ensures.drew) (ap (λ k. k.log) c.in-Full.ensures.drew)
    (holds_still z v w c.args.work.now.session c.args.work.now.log e.ran.given (none_seen z.alone v w c.requires.holds.alone e.ran) c.in-Full.ensures.fits.2 c.requires.holds)

pub returns-in-RowSpent-clause-holds : goal.returns-in-RowSpent-clause-holds
returns-in-RowSpent-clause-holds g c works =
    let z = g.R.Rows.shape c.args.rows.now in
    let v = g.R.Rows.view c.args.seat.now in
    let w = g.R.Rows.view c.leaf_put.new.seat in
    let e = c.in-RowSpent.ensures.put in
    holds_as z (g.R.Rows.shape c.leaf_put.new.rows) w c.args.work.now.session c.leaf_put.new.draw.session c.args.work.now.log c.leaf_put.new.draw.log c.in-RowSpent.ensures.fits.1 (ap (λ k. k.session) c.in-RowSpent.ensures.drew) (ap (λ k. k.log) c.in-RowSpent.ensures.drew)
    (holds_still z v w c.args.work.now.session c.args.work.now.log e.given (none_seen z.alone v w c.requires.holds.alone e) c.in-RowSpent.ensures.fits.2 c.requires.holds)

pub returns-in-RowSpent-clause-tries : goal.returns-in-RowSpent-clause-tries
returns-in-RowSpent-clause-tries g c =
    let z = g.R.Rows.shape c.args.rows.now in
    let v = g.R.Rows.view c.args.seat.now in
    let w = g.R.Rows.view c.leaf_put.new.seat in
    (is_spent c.every_low.ensures z c.in-RowSpent.row v w c.requires.holds.alone c.in-RowSpent.ensures.put c.versions.ensures.low c.in-RowSpent.ensures.cause, c.in-RowSpent.ensures.drew)

pub returns-in-Full-clause-tries : goal.returns-in-Full-clause-tries
returns-in-Full-clause-tries g c =
    (no_room (g.R.Rows.shape c.args.rows.now) (g.R.Rows.view c.args.seat.now) (g.R.Rows.view c.leaf_put.new.seat) c.args.work.now.session c.args.work.now.log c.args.key c.in-Full.row c.leaf_put.new.path c.requires.holds c.in-Full.ensures.put c.in-Full.ensures.trail, c.in-Full.ensures.drew)

pub returns-in-Done-clause-cause_disk_fault : goal.returns-in-Done-clause-cause_disk_fault
returns-in-Done-clause-cause_disk_fault g c =
    cause_from (g.D.Disk.faults c.args.work.now.disk) (g.D.Disk.faults c.args.work.now.disk) (g.D.Disk.faults c.leaf_put.new.draw.disk) _ _ refl c.in-Done.ensures.drew.cause (λ q. absurd (ok_calm _ _ q)) (λ p. absurd (cc))

pub returns-in-Unstaged-DiskFault-clause-session : goal.returns-in-Unstaged-DiskFault-clause-session
returns-in-Unstaged-DiskFault-clause-session g c = same_by_staged c.args.work.now.session c.leaf_put.new.draw.session c.in-Unstaged-DiskFault.ensures.drew.session

pub returns-in-Unstaged-DiskFault-clause-cause_disk_fault : goal.returns-in-Unstaged-DiskFault-clause-cause_disk_fault
returns-in-Unstaged-DiskFault-clause-cause_disk_fault g c =
    cause_from (g.D.Disk.faults c.args.work.now.disk) (g.D.Disk.faults c.args.work.now.disk) (g.D.Disk.faults c.leaf_put.new.draw.disk) _ _ refl c.in-Unstaged-DiskFault.ensures.drew.cause (λ q. ap Err c.in-Unstaged-DiskFault.field-0-is) (λ p. refl)

pub returns-in-Cold-clause-holds : goal.returns-in-Cold-clause-holds
returns-in-Cold-clause-holds g c works =
    let z = g.R.Rows.shape c.args.rows.now in
    let v = g.R.Rows.view c.args.seat.now in
    let w = g.R.Rows.view c.leaf_put.new.seat in
    let m = met_cold z v w c.args.key c.in-Cold.page c.requires.holds.alone c.in-Cold.ensures.put in
    holds_as z (g.R.Rows.shape c.leaf_put.new.rows) w c.args.work.now.session c.leaf_put.new.draw.session c.args.work.now.log c.leaf_put.new.draw.log c.in-Cold.ensures.fits.1 (ap (λ k. k.session) c.in-Cold.ensures.drew) (ap (λ k. k.log) c.in-Cold.ensures.drew)
    (holds_still z v w c.args.work.now.session c.args.work.now.log m.given m.seen c.in-Cold.ensures.fits.2 c.requires.holds)

pub returns-in-Cold-clause-tries : goal.returns-in-Cold-clause-tries
returns-in-Cold-clause-tries g c =
    (met_cold (g.R.Rows.shape c.args.rows.now) (g.R.Rows.view c.args.seat.now) (g.R.Rows.view c.leaf_put.new.seat) c.args.key c.in-Cold.page c.requires.holds.alone c.in-Cold.ensures.put, c.in-Cold.ensures.drew)

pub returns-in-Cold-clause-cause_cold : goal.returns-in-Cold-clause-cause_cold
returns-in-Cold-clause-cause_cold g c warm cut =
    let z = g.R.Rows.shape c.args.rows.now in
    let v = g.R.Rows.view c.args.seat.now in
    let w = g.R.Rows.view c.leaf_put.new.seat in
    warm_met z v w c.args.work.now.session c.args.work.now.log c.args.key c.in-Cold.page c.requires.holds warm (met_cold z v w c.args.key c.in-Cold.page c.requires.holds.alone c.in-Cold.ensures.put)
