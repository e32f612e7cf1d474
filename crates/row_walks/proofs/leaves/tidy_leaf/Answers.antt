use Rattle.std.proofs.Common.{◌≡◌, ◌-◌, ◌∙◌, ℕ, false, List, length, Ok, Err, refl, sym, ap, subst, arith}
use Rattle.std.specs.Prelude.{slice_index}
use Rattle.row_changes.proofs.StepLemmas.{cause_from, ok_calm}
use Rattle.row_tidying.specs.Changes.{CanPurge}
use Rattle.row_tidying.specs.Outcomes.{Clears}
use Rattle.row_walks.specs.Inside.Leaves.{MayBeThin}
use Rattle.row_walks.specs.Inside.Ways.{frame_at}
use Rattle.row_walks.proofs.LeafLemmas.{can_purge, cleared_done, cleared_spared, leaf_frame, purge_refused, purge_told, purged, spared_thick, spared_thin, thick_by}
use Rattle.row_walks.proofs.LookLemmas.{core_looked, way_on}
use Rattle.row_walks.proofs.leaves.tidy_leaf.Goals as goal

pub returns-then-not-may_be_thin-clause-leaf : goal.returns-then-not-may_be_thin-clause-leaf
returns-then-not-may_be_thin-clause-leaf g c =
    (thick_by c.args.work.now.session.own c.args.key (g.R.Rows.view c.args.seat.now) (g.R.Rows.view c.may_be_thin.new.seat) c.args.path.now c.may_be_thin.ensures.looked.given c.may_be_thin.ensures.looked.seen (subst (λ k. MayBeThin k (g.R.Rows.view c.args.seat.now) c.args.key c.args.path.now) c.if-not-may_be_thin.true c.may_be_thin.ensures.thin), refl)

pub overflow_sub-frame : goal.overflow_sub-frame
overflow_sub-frame g c = let e = ap (λ (xs : List ℕ). length xs) c.frames-frames.ensures in let some = c.requires.way.some in omega arith

pub bounds-frames-frames : goal.bounds-frames-frames
bounds-frames-frames g c = let e = ap (λ (xs : List ℕ). length xs) c.frames-frames.ensures in let some = c.requires.way.some in omega arith

pub purge_leaf-requires-clause-can : goal.purge_leaf-requires-clause-can
purge_leaf-requires-clause-can g c κs lives =
    subst (λ f. CanPurge (g.R.Rows.view c.may_be_thin.new.seat) f) (sym (leaf_frame c.frames-frames.result.now c.args.path.now c.frames-frames.ensures))
    (can_purge (g.R.Rows.shape c.may_be_thin.new.rows) (g.R.Rows.view c.may_be_thin.new.seat) c.args.work.now.session c.args.work.now.log c.may_be_thin.ensures.holds c.args.key c.args.path.now (way_on (g.R.Rows.view c.args.seat.now) (g.R.Rows.view c.may_be_thin.new.seat) c.may_be_thin.ensures.looked.given (core_looked (g.R.Rows.view c.args.seat.now) (g.R.Rows.view c.may_be_thin.new.seat) c.may_be_thin.ensures.looked) c.args.key c.args.path.now c.requires.way))

pub returns-in-Err-clause-leaf : goal.returns-in-Err-clause-leaf
returns-in-Err-clause-leaf g c =
    purge_refused (g.R.Rows.shape c.args.rows.now) (g.R.Rows.view c.args.seat.now) c.args.work.now.session c.args.work.now.log c.requires.holds c.args.key c.args.path.now c.requires.way (subst (λ k. MayBeThin k (g.R.Rows.view c.args.seat.now) c.args.key c.args.path.now) c.if-not-may_be_thin.false c.may_be_thin.ensures.thin)
    (g.R.Rows.view c.may_be_thin.new.seat) (g.R.Rows.view c.purge_leaf.new.seat) c.may_be_thin.ensures.looked.given c.may_be_thin.ensures.looked.seen c.purge_leaf.new.work.session c.purge_leaf.new.work.log (g.D.Disk.story c.args.work.now.disk) (g.D.Disk.story c.purge_leaf.new.work.disk) (c.purge_leaf.new.work ≡ c.args.work.now) (c.purge_leaf.new.work.session.works ≡ false) c.in-Err.why
    (subst (λ f. Clears (Err c.in-Err.why) f 15 (g.R.Rows.view c.may_be_thin.new.seat) (g.R.Rows.view c.purge_leaf.new.seat) c.args.work.now.session c.purge_leaf.new.work.session c.args.work.now.log c.purge_leaf.new.work.log (g.D.Disk.story c.args.work.now.disk) (g.D.Disk.story c.purge_leaf.new.work.disk) (c.purge_leaf.new.work ≡ c.args.work.now) (c.purge_leaf.new.work.session.works ≡ false)) (leaf_frame c.frames-frames.result.now c.args.path.now c.frames-frames.ensures) c.in-Err.ensures.clears)

pub returns-in-Ok-Done-clause-leaf : goal.returns-in-Ok-Done-clause-leaf
returns-in-Ok-Done-clause-leaf g c =
    purged (g.R.Rows.shape c.args.rows.now) (g.R.Rows.view c.args.seat.now) c.args.work.now.session c.args.work.now.log c.requires.holds c.args.key c.args.path.now c.requires.way (subst (λ k. MayBeThin k (g.R.Rows.view c.args.seat.now) c.args.key c.args.path.now) c.if-not-may_be_thin.false c.may_be_thin.ensures.thin)
    (g.R.Rows.view c.may_be_thin.new.seat) (g.R.Rows.view c.purge_leaf.new.seat) c.may_be_thin.ensures.looked.given c.may_be_thin.ensures.looked.seen c.purge_leaf.new.work.session c.purge_leaf.new.work.log (g.D.Disk.story c.args.work.now.disk) (g.D.Disk.story c.purge_leaf.new.work.disk)
    (cleared_done c.in-Ok-Done.field-0 c.in-Ok-Done.field-0-is (frame_at c.args.path.now 0) (g.R.Rows.view c.may_be_thin.new.seat) (g.R.Rows.view c.purge_leaf.new.seat) c.args.work.now.session c.purge_leaf.new.work.session c.args.work.now.log c.purge_leaf.new.work.log (g.D.Disk.story c.args.work.now.disk) (g.D.Disk.story c.purge_leaf.new.work.disk) (c.purge_leaf.new.work ≡ c.args.work.now) (c.purge_leaf.new.work.session.works ≡ false) (subst (λ f. Clears (Ok c.in-Ok-Done.field-0) f 15 (g.R.Rows.view c.may_be_thin.new.seat) (g.R.Rows.view c.purge_leaf.new.seat) c.args.work.now.session c.purge_leaf.new.work.session c.args.work.now.log c.purge_leaf.new.work.log (g.D.Disk.story c.args.work.now.disk) (g.D.Disk.story c.purge_leaf.new.work.disk) (c.purge_leaf.new.work ≡ c.args.work.now) (c.purge_leaf.new.work.session.works ≡ false)) (leaf_frame c.frames-frames.result.now c.args.path.now c.frames-frames.ensures) c.in-Ok-Done.ensures.clears))

pub returns-then-left-gt-THIN-clause-leaf : goal.returns-then-left-gt-THIN-clause-leaf
returns-then-left-gt-THIN-clause-leaf g c =
    let t = (cleared_spared c.in-Ok-Spared.field-0 c.in-Ok-Spared.left c.in-Ok-Spared.field-0-is (frame_at c.args.path.now 0) (g.R.Rows.view c.may_be_thin.new.seat) (g.R.Rows.view c.purge_leaf.new.seat) c.args.work.now.session c.purge_leaf.new.work.session c.args.work.now.log c.purge_leaf.new.work.log (g.D.Disk.story c.args.work.now.disk) (g.D.Disk.story c.purge_leaf.new.work.disk) (c.purge_leaf.new.work ≡ c.args.work.now) (c.purge_leaf.new.work.session.works ≡ false) (subst (λ f. Clears (Ok c.in-Ok-Spared.field-0) f 15 (g.R.Rows.view c.may_be_thin.new.seat) (g.R.Rows.view c.purge_leaf.new.seat) c.args.work.now.session c.purge_leaf.new.work.session c.args.work.now.log c.purge_leaf.new.work.log (g.D.Disk.story c.args.work.now.disk) (g.D.Disk.story c.purge_leaf.new.work.disk) (c.purge_leaf.new.work ≡ c.args.work.now) (c.purge_leaf.new.work.session.works ≡ false)) (leaf_frame c.frames-frames.result.now c.args.path.now c.frames-frames.ensures) c.in-Ok-Spared.ensures.clears)) in (
      spared_thick (g.R.Rows.shape c.args.rows.now) (g.R.Rows.view c.args.seat.now) c.args.work.now.session c.args.work.now.log c.requires.holds c.args.key c.args.path.now c.requires.way (subst (λ k. MayBeThin k (g.R.Rows.view c.args.seat.now) c.args.key c.args.path.now) c.if-not-may_be_thin.false c.may_be_thin.ensures.thin)
          (g.R.Rows.view c.may_be_thin.new.seat) (g.R.Rows.view c.purge_leaf.new.seat) c.may_be_thin.ensures.looked.given c.may_be_thin.ensures.looked.seen c.in-Ok-Spared.left t.0 c.args.work.now.session.own c.if-left-gt-THIN.true,
      t.1,
    )

pub returns-else-left-gt-THIN-clause-leaf : goal.returns-else-left-gt-THIN-clause-leaf
returns-else-left-gt-THIN-clause-leaf g c =
    let t = (cleared_spared c.in-Ok-Spared.field-0 c.in-Ok-Spared.left c.in-Ok-Spared.field-0-is (frame_at c.args.path.now 0) (g.R.Rows.view c.may_be_thin.new.seat) (g.R.Rows.view c.purge_leaf.new.seat) c.args.work.now.session c.purge_leaf.new.work.session c.args.work.now.log c.purge_leaf.new.work.log (g.D.Disk.story c.args.work.now.disk) (g.D.Disk.story c.purge_leaf.new.work.disk) (c.purge_leaf.new.work ≡ c.args.work.now) (c.purge_leaf.new.work.session.works ≡ false) (subst (λ f. Clears (Ok c.in-Ok-Spared.field-0) f 15 (g.R.Rows.view c.may_be_thin.new.seat) (g.R.Rows.view c.purge_leaf.new.seat) c.args.work.now.session c.purge_leaf.new.work.session c.args.work.now.log c.purge_leaf.new.work.log (g.D.Disk.story c.args.work.now.disk) (g.D.Disk.story c.purge_leaf.new.work.disk) (c.purge_leaf.new.work ≡ c.args.work.now) (c.purge_leaf.new.work.session.works ≡ false)) (leaf_frame c.frames-frames.result.now c.args.path.now c.frames-frames.ensures) c.in-Ok-Spared.ensures.clears)) in (
      spared_thin (g.R.Rows.shape c.args.rows.now) (g.R.Rows.view c.args.seat.now) c.args.work.now.session c.args.work.now.log c.requires.holds c.args.key c.args.path.now c.requires.way (subst (λ k. MayBeThin k (g.R.Rows.view c.args.seat.now) c.args.key c.args.path.now) c.if-not-may_be_thin.false c.may_be_thin.ensures.thin)
          (g.R.Rows.view c.may_be_thin.new.seat) (g.R.Rows.view c.purge_leaf.new.seat) c.may_be_thin.ensures.looked.given c.may_be_thin.ensures.looked.seen c.in-Ok-Spared.left t.0 c.args.work.now.session.own (λ more. (let few = c.if-left-gt-THIN.false in absurd (omega arith))),
      t.1,
    )

pub returns-in-Err-clause-cause_disk_fault : goal.returns-in-Err-clause-cause_disk_fault
returns-in-Err-clause-cause_disk_fault g c = purge_told (g.D.Disk.faults c.args.work.now.disk) (g.D.Disk.faults c.purge_leaf.new.work.disk) c.in-Err.why c.in-Err.ensures.cause_disk_fault

pub returns-in-Ok-Done-clause-cause_disk_fault : goal.returns-in-Ok-Done-clause-cause_disk_fault
returns-in-Ok-Done-clause-cause_disk_fault g c =
    cause_from (g.D.Disk.faults c.args.work.now.disk) (g.D.Disk.faults c.args.work.now.disk) (g.D.Disk.faults c.purge_leaf.new.work.disk) _ _ refl c.in-Ok-Done.ensures.cause_disk_fault (λ q. absurd (ok_calm _ _ q)) (λ p. absurd (ok_calm _ _ p))

pub returns-then-left-gt-THIN-clause-cause_disk_fault : goal.returns-then-left-gt-THIN-clause-cause_disk_fault
returns-then-left-gt-THIN-clause-cause_disk_fault g c =
    cause_from (g.D.Disk.faults c.args.work.now.disk) (g.D.Disk.faults c.args.work.now.disk) (g.D.Disk.faults c.purge_leaf.new.work.disk) _ _ refl c.in-Ok-Spared.ensures.cause_disk_fault (λ q. absurd (ok_calm _ _ q)) (λ p. absurd (ok_calm _ _ p))

pub returns-else-left-gt-THIN-clause-cause_disk_fault : goal.returns-else-left-gt-THIN-clause-cause_disk_fault
returns-else-left-gt-THIN-clause-cause_disk_fault g c =
    cause_from (g.D.Disk.faults c.args.work.now.disk) (g.D.Disk.faults c.args.work.now.disk) (g.D.Disk.faults c.purge_leaf.new.work.disk) _ _ refl c.in-Ok-Spared.ensures.cause_disk_fault (λ q. absurd (ok_calm _ _ q)) (λ p. absurd (ok_calm _ _ p))
