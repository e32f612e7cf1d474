use Rattle.std.proofs.Common.{◌≡◌, ◌∙◌, Err, ap, refl, sym, subst, true≢false}
use Rattle.row_changes.specs.Backs.{IsPutBack}
use Rattle.session_state.specs.Undo.{without_newest}
use Rattle.session_state.specs.declared.session.Session.{Session}
use Rattle.row_changes.proofs.BackLemmas.{draws_back, half_back, holds_back, is_put_back, lost_back}
use Rattle.row_changes.proofs.PutLemmas.{holds_as, holds_still, is_spent, not_last}
use Rattle.row_changes.proofs.SeenLemmas.{none_seen}
use Rattle.row_changes.proofs.WayLemmas.{met_cold, warm_met}
use Rattle.session_state.proofs.StageLemmas.{undo_set}
use Rattle.row_changes.proofs.StepLemmas.{cause_from}
use Rattle.row_changes.proofs.backs.put_back.Goals as goal

pub leaf_put_back-requires-clause-draws : goal.leaf_put_back-requires-clause-draws
leaf_put_back-requires-clause-draws g c =
    draws_back (g.R.Rows.shape c.args.rows.now) (g.R.Rows.view c.args.seat.now) c.args.work.now.session c.args.work.now.log c.requires.holds c.next_fits.ensures c.requires.is_open

pub returns-in-Done-clause-holds : goal.returns-in-Done-clause-holds
returns-in-Done-clause-holds g c works =
    let z = g.R.Rows.shape c.args.rows.now in
    let v = g.R.Rows.view c.args.seat.now in
    let w = g.R.Rows.view c.leaf_put_back.new.seat in
    let x = c.args.work.now.session in
    let y = c.leaf_put_back.new.draw.session in
    let e = c.in-Done.ensures in
    holds_as z (g.R.Rows.shape c.leaf_put_back.new.rows) w (record y { undo = without_newest y.undo }) _ c.leaf_put_back.new.draw.log c.leaf_put_back.new.draw.log e.fits.1 (undo_set y c.pop.new.self (without_newest y.undo) _ c.pop.ensures) refl
    (holds_back c.every_room.ensures z v w x c.args.work.now.log c.requires.holds c.newest_left-undone.result c.requires.is_open c.newest_left-undone.ensures.newest c.in-Done.field-0 _ c.args.work.now.staged.list c.leaf_put_back.new.draw.staged.list y c.leaf_put_back.new.draw.log e.put
    (g.D.Disk.story c.args.work.now.disk) (g.D.Disk.story c.leaf_put_back.new.draw.disk) (c.leaf_put_back.new.draw.disk ≡ c.args.work.now.disk) (g.D.Disk.faults c.args.work.now.disk) (g.D.Disk.faults c.leaf_put_back.new.draw.disk) e.fits.2 e.drew e.last)

pub returns-in-Done-clause-backs : goal.returns-in-Done-clause-backs
returns-in-Done-clause-backs g c =
    let z = g.R.Rows.shape c.args.rows.now in
    let v = g.R.Rows.view c.args.seat.now in
    let w = g.R.Rows.view c.leaf_put_back.new.seat in
    let x = c.args.work.now.session in
    let y = c.leaf_put_back.new.draw.session in
    let e = c.in-Done.ensures in
    subst (λ k. IsPutBack v w x k c.args.work.now.log c.leaf_put_back.new.draw.log (g.D.Disk.story c.args.work.now.disk) (g.D.Disk.story c.leaf_put_back.new.draw.disk)) (sym (undo_set y c.pop.new.self (without_newest y.undo) _ c.pop.ensures))
    (is_put_back c.every_room.ensures z v w x c.args.work.now.log c.requires.holds c.newest_left-undone.result c.requires.is_open c.newest_left-undone.ensures.newest c.in-Done.field-0 _ c.args.work.now.staged.list c.leaf_put_back.new.draw.staged.list y c.leaf_put_back.new.draw.log e.put
    (g.D.Disk.story c.args.work.now.disk) (g.D.Disk.story c.leaf_put_back.new.draw.disk) (c.leaf_put_back.new.draw.disk ≡ c.args.work.now.disk) (g.D.Disk.faults c.args.work.now.disk) (g.D.Disk.faults c.leaf_put_back.new.draw.disk) e.fits.2 e.drew e.last)

pub returns-in-RowSpent-clause-holds : goal.returns-in-RowSpent-clause-holds
returns-in-RowSpent-clause-holds g c works =
    let z = g.R.Rows.shape c.args.rows.now in
    let v = g.R.Rows.view c.args.seat.now in
    let w = g.R.Rows.view c.leaf_put_back.new.seat in
    let x = c.args.work.now.session in
    let e = c.in-RowSpent.ensures in
    let y = c.leaf_put_back.new.draw.session in
    holds_as z (g.R.Rows.shape c.leaf_put_back.new.rows) w x _ c.args.work.now.log c.leaf_put_back.new.draw.log e.fits.1 (half_back x y _ _ (ap (λ k. k.session) e.drew)) (ap (λ k. k.log) e.drew)
    (holds_still z v w x c.args.work.now.log e.put.given (none_seen z.alone v w c.requires.holds.alone e.put) e.fits.2 c.requires.holds)

pub returns-in-RowSpent-clause-backs : goal.returns-in-RowSpent-clause-backs
returns-in-RowSpent-clause-backs g c =
    let z = g.R.Rows.shape c.args.rows.now in
    let v = g.R.Rows.view c.args.seat.now in
    let w = g.R.Rows.view c.leaf_put_back.new.seat in
    let x = c.args.work.now.session in (
      is_spent c.every_low.ensures z c.in-RowSpent.row v w c.requires.holds.alone c.in-RowSpent.ensures.put c.versions.ensures.low c.in-RowSpent.ensures.cause,
      ap (λ (k : Session). record c.leaf_put_back.new.draw { session = k }) (half_back x c.leaf_put_back.new.draw.session _ _ (ap (λ k. k.session) c.in-RowSpent.ensures.drew)) ∙ (λ i. record (c.in-RowSpent.ensures.drew i) { session = x }),
    )

pub returns-in-Done-clause-session : goal.returns-in-Done-clause-session
returns-in-Done-clause-session g c = let e = c.in-Done.ensures.drew.session in (ap (λ (k : Session). k.own) e, ap (λ (k : Session). k.workers) e, ap (λ (k : Session). k.group) e)

pub returns-in-Unstaged-DiskFault-clause-session : goal.returns-in-Unstaged-DiskFault-clause-session
returns-in-Unstaged-DiskFault-clause-session g c = let e = c.in-Unstaged-DiskFault.ensures.drew.session in (ap (λ (k : Session). k.own) e, ap (λ (k : Session). k.workers) e, ap (λ (k : Session). k.group) e)

pub returns-in-RowSpent-clause-session : goal.returns-in-RowSpent-clause-session
returns-in-RowSpent-clause-session g c = let e = c.in-RowSpent.ensures.drew in (ap (λ k. k.session.own) e, ap (λ k. k.session.workers) e, ap (λ k. k.session.group) e)

pub unreachable-requires-in-ClockSpent : goal.unreachable-requires-in-ClockSpent
unreachable-requires-in-ClockSpent g c =
    not_last (g.R.Rows.shape c.args.rows.now) (g.R.Rows.view c.args.seat.now) (g.R.Rows.view c.leaf_put_back.new.seat) c.args.work.now.session c.args.work.now.log c.newest_left-undone.result.key c.requires.holds c.next_fits.ensures c.requires.is_open c.in-ClockSpent.ensures.put

-- ## Where the key has no entry

pub returns-in-Full-clause-holds : goal.returns-in-Full-clause-holds
returns-in-Full-clause-holds g c works =
    let z = g.R.Rows.shape c.args.rows.now in
    let v = g.R.Rows.view c.args.seat.now in
    let w = g.R.Rows.view c.leaf_put_back.new.seat in
    let x = c.args.work.now.session in
    let e = c.in-Full.ensures in
    holds_as z (g.R.Rows.shape c.leaf_put_back.new.rows) w x _ c.args.work.now.log c.leaf_put_back.new.draw.log e.fits.1 (half_back x c.leaf_put_back.new.draw.session _ _ (ap (λ k. k.session) e.drew)) (ap (λ k. k.log) e.drew)
    (holds_still z v w x c.args.work.now.log e.put.0.ran.given (none_seen z.alone v w c.requires.holds.alone e.put.0.ran) e.fits.2 c.requires.holds)

pub returns-in-Full-clause-backs : goal.returns-in-Full-clause-backs
returns-in-Full-clause-backs g c =
    let z = g.R.Rows.shape c.args.rows.now in
    let v = g.R.Rows.view c.args.seat.now in
    let w = g.R.Rows.view c.leaf_put_back.new.seat in
    let x = c.args.work.now.session in (
      lost_back z v w x c.newest_left-undone.result c.in-Full.row c.requires.holds.alone c.newest_left-undone.ensures.newest c.in-Full.ensures.put.0,
      ap (λ (k : Session). record c.leaf_put_back.new.draw { session = k }) (half_back x c.leaf_put_back.new.draw.session _ _ (ap (λ k. k.session) c.in-Full.ensures.drew)) ∙ (λ i. record (c.in-Full.ensures.drew i) { session = x }),
    )

pub returns-in-Full-clause-session : goal.returns-in-Full-clause-session
returns-in-Full-clause-session g c = let e = c.in-Full.ensures.drew in (ap (λ k. k.session.own) e, ap (λ k. k.session.workers) e, ap (λ k. k.session.group) e)

pub returns-in-Full-clause-cause_lost : goal.returns-in-Full-clause-cause_lost
returns-in-Full-clause-cause_lost g c faithful lost =
    let p = c.in-Full.ensures.put in
    true≢false (sym faithful ∙ (sym (ap (λ k. k.faithful) p.0.ran.given) ∙ p.1))

pub returns-in-Unstaged-DiskFault-clause-cause_disk_fault : goal.returns-in-Unstaged-DiskFault-clause-cause_disk_fault
returns-in-Unstaged-DiskFault-clause-cause_disk_fault g c =
    cause_from (g.D.Disk.faults c.args.work.now.disk) (g.D.Disk.faults c.args.work.now.disk) (g.D.Disk.faults c.leaf_put_back.new.draw.disk) _ _ refl c.in-Unstaged-DiskFault.ensures.drew.cause (λ q. ap Err c.in-Unstaged-DiskFault.field-0-is) (λ p. refl)

pub returns-in-Cold-clause-holds : goal.returns-in-Cold-clause-holds
returns-in-Cold-clause-holds g c works =
    let z = g.R.Rows.shape c.args.rows.now in
    let v = g.R.Rows.view c.args.seat.now in
    let w = g.R.Rows.view c.leaf_put_back.new.seat in
    let x = c.args.work.now.session in
    let e = c.in-Cold.ensures in
    let m = met_cold z v w c.newest_left-undone.result.key c.in-Cold.page c.requires.holds.alone e.put in
    holds_as z (g.R.Rows.shape c.leaf_put_back.new.rows) w x _ c.args.work.now.log c.leaf_put_back.new.draw.log e.fits.1 (half_back x c.leaf_put_back.new.draw.session _ _ (ap (λ k. k.session) e.drew)) (ap (λ k. k.log) e.drew)
    (holds_still z v w x c.args.work.now.log m.given m.seen e.fits.2 c.requires.holds)

pub returns-in-Cold-clause-backs : goal.returns-in-Cold-clause-backs
returns-in-Cold-clause-backs g c =
    let z = g.R.Rows.shape c.args.rows.now in
    let v = g.R.Rows.view c.args.seat.now in
    let w = g.R.Rows.view c.leaf_put_back.new.seat in
    let x = c.args.work.now.session in (
      record { undone = c.newest_left-undone.result; newest = c.newest_left-undone.ensures.newest; met = met_cold z v w c.newest_left-undone.result.key c.in-Cold.page c.requires.holds.alone c.in-Cold.ensures.put },
      ap (λ (k : Session). record c.leaf_put_back.new.draw { session = k }) (half_back x c.leaf_put_back.new.draw.session _ _ (ap (λ k. k.session) c.in-Cold.ensures.drew)) ∙ (λ i. record (c.in-Cold.ensures.drew i) { session = x }),
    )

pub returns-in-Cold-clause-session : goal.returns-in-Cold-clause-session
returns-in-Cold-clause-session g c = let e = c.in-Cold.ensures.drew in (ap (λ k. k.session.own) e, ap (λ k. k.session.workers) e, ap (λ k. k.session.group) e)

pub returns-in-Cold-clause-cause_cold : goal.returns-in-Cold-clause-cause_cold
returns-in-Cold-clause-cause_cold g c warm cut =
    let z = g.R.Rows.shape c.args.rows.now in
    let v = g.R.Rows.view c.args.seat.now in
    let w = g.R.Rows.view c.leaf_put_back.new.seat in
    let u = c.newest_left-undone.result in
    warm_met z v w c.args.work.now.session c.args.work.now.log u.key c.in-Cold.page c.requires.holds (warm u c.newest_left-undone.ensures.newest) (met_cold z v w u.key c.in-Cold.page c.requires.holds.alone c.in-Cold.ensures.put)
