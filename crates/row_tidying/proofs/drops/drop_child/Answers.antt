use Rattle.std.proofs.Common.{◌≡◌, ◌∙◌, sym, ap, subst, Err, ℕ}
use Rattle.std.specs.Prelude.{Result}
use Rattle.row_changes.specs.session_state.engine_trait.declared.unserved.Unanswered.TheVariants as unanswered
use Rattle.row_changes.specs.session_state.engine_trait.declared.unserved.Unserved.{Unserved}
use Rattle.row_changes.specs.session_state.engine_trait.declared.unserved.Unserved.TheVariants as unserved
use Rattle.lean_disk.specs.Faults.{HasCause}
use Rattle.row_changes.specs.Puts.{works_after}
use Rattle.row_tidying.specs.Ends.{session_after}
use Rattle.row_tidying.proofs.EndLemmas.{faults_told, session_kept, works_told}
use Rattle.row_tidying.proofs.MadeLemmas.{framed}
use Rattle.row_tidying.proofs.DropLemmas.{drop_answered, drop_expected, drop_holds, drop_room, drop_apart}
use Rattle.row_tidying.proofs.drops.drop_child.Goals as goal

pub drop_root-outcome-requires-clause-frame : goal.drop_root-outcome-requires-clause-frame
drop_root-outcome-requires-clause-frame g c = framed (g.R.Rows.shape c.args.rows.now) (g.R.Rows.view c.args.seat.now) c.args.work.now.session c.args.work.now.log c.requires.holds c.args.page c.args.frame c.requires.can.stands

pub finish-requires-clause-expected : goal.finish-requires-clause-expected
finish-requires-clause-expected g c =
    let z = g.R.Rows.shape c.args.rows.now in
    let v = g.R.Rows.view c.args.seat.now in
    let w = g.R.Rows.view c.drop_root-outcome.new.seat in
    let x = c.args.work.now.session in
    let y = c.drop_root-outcome.new.draw.session in
    drop_expected c.every_freed.ensures z v w x y c.args.work.now.log c.drop_root-outcome.new.draw.log c.requires.holds c.requires.may c.next_fits.ensures c.args.frame c.args.page c.requires.can
    c.args.work.now.staged.list c.drop_root-outcome.new.draw.staged.list (g.D.Disk.story c.args.work.now.disk) (g.D.Disk.story c.drop_root-outcome.new.draw.disk) (c.drop_root-outcome.new.draw.disk ≡ c.args.work.now.disk) (c.drop_root-outcome.new.draw ≡ c.args.work.now) (g.D.Disk.faults c.args.work.now.disk) (g.D.Disk.faults c.drop_root-outcome.new.draw.disk)
    c.drop_root-outcome.result c.drop_root-outcome.ensures.lowered c.drop_root-outcome.ensures.drew (c.drop_root-outcome.ensures.quiet c.requires.holds.alone (drop_apart c.every_freed.ensures z v w x y c.args.work.now.log c.drop_root-outcome.new.draw.log c.requires.holds c.requires.may c.next_fits.ensures c.args.frame c.args.page c.requires.can
    c.args.work.now.staged.list c.drop_root-outcome.new.draw.staged.list (g.D.Disk.story c.args.work.now.disk) (g.D.Disk.story c.drop_root-outcome.new.draw.disk) (c.drop_root-outcome.new.draw.disk ≡ c.args.work.now.disk) (c.drop_root-outcome.new.draw ≡ c.args.work.now) (g.D.Disk.faults c.args.work.now.disk) (g.D.Disk.faults c.drop_root-outcome.new.draw.disk)))

pub finish-requires-clause-room : goal.finish-requires-clause-room
finish-requires-clause-room g c =
    let z = g.R.Rows.shape c.args.rows.now in
    let v = g.R.Rows.view c.args.seat.now in
    let w = g.R.Rows.view c.drop_root-outcome.new.seat in
    let x = c.args.work.now.session in
    let y = c.drop_root-outcome.new.draw.session in
    drop_room c.every_freed.ensures z v w x y c.args.work.now.log c.drop_root-outcome.new.draw.log c.requires.holds c.requires.may c.next_fits.ensures c.args.frame c.args.page c.requires.can
    c.args.work.now.staged.list c.drop_root-outcome.new.draw.staged.list (g.D.Disk.story c.args.work.now.disk) (g.D.Disk.story c.drop_root-outcome.new.draw.disk) (c.drop_root-outcome.new.draw.disk ≡ c.args.work.now.disk) (c.drop_root-outcome.new.draw ≡ c.args.work.now) (g.D.Disk.faults c.args.work.now.disk) (g.D.Disk.faults c.drop_root-outcome.new.draw.disk)
    c.every_low.ensures c.versions.ensures.low c.drop_root-outcome.ensures.fits.2
    c.drop_root-outcome.result c.drop_root-outcome.ensures.lowered c.drop_root-outcome.ensures.drew c.drop_root-outcome.ensures.last

pub returns-clause-holds : goal.returns-clause-holds
returns-clause-holds g c works =
    let z = g.R.Rows.shape c.args.rows.now in
    let v = g.R.Rows.view c.args.seat.now in
    let w = g.R.Rows.view c.drop_root-outcome.new.seat in
    let x = c.args.work.now.session in
    let y = c.drop_root-outcome.new.draw.session in
    drop_holds c.every_freed.ensures z v w x y c.args.work.now.log c.drop_root-outcome.new.draw.log c.requires.holds c.requires.may c.next_fits.ensures c.args.frame c.args.page c.requires.can
    c.args.work.now.staged.list c.drop_root-outcome.new.draw.staged.list (g.D.Disk.story c.args.work.now.disk) (g.D.Disk.story c.drop_root-outcome.new.draw.disk) (c.drop_root-outcome.new.draw.disk ≡ c.args.work.now.disk) (c.drop_root-outcome.new.draw ≡ c.args.work.now) (g.D.Disk.faults c.args.work.now.disk) (g.D.Disk.faults c.drop_root-outcome.new.draw.disk)
    c.every_low.ensures c.versions.ensures.low c.drop_root-outcome.ensures.fits.2
    (λ e. ap (λ k. k.session) e) (λ e. ap (λ k. k.log) e) c.drop_root-outcome.result (drop_expected c.every_freed.ensures z v w x y c.args.work.now.log c.drop_root-outcome.new.draw.log c.requires.holds c.requires.may c.next_fits.ensures c.args.frame c.args.page c.requires.can
    c.args.work.now.staged.list c.drop_root-outcome.new.draw.staged.list (g.D.Disk.story c.args.work.now.disk) (g.D.Disk.story c.drop_root-outcome.new.draw.disk) (c.drop_root-outcome.new.draw.disk ≡ c.args.work.now.disk) (c.drop_root-outcome.new.draw ≡ c.args.work.now) (g.D.Disk.faults c.args.work.now.disk) (g.D.Disk.faults c.drop_root-outcome.new.draw.disk)
    c.drop_root-outcome.result c.drop_root-outcome.ensures.lowered c.drop_root-outcome.ensures.drew (c.drop_root-outcome.ensures.quiet c.requires.holds.alone (drop_apart c.every_freed.ensures z v w x y c.args.work.now.log c.drop_root-outcome.new.draw.log c.requires.holds c.requires.may c.next_fits.ensures c.args.frame c.args.page c.requires.can
    c.args.work.now.staged.list c.drop_root-outcome.new.draw.staged.list (g.D.Disk.story c.args.work.now.disk) (g.D.Disk.story c.drop_root-outcome.new.draw.disk) (c.drop_root-outcome.new.draw.disk ≡ c.args.work.now.disk) (c.drop_root-outcome.new.draw ≡ c.args.work.now) (g.D.Disk.faults c.args.work.now.disk) (g.D.Disk.faults c.drop_root-outcome.new.draw.disk)))) c.drop_root-outcome.ensures.lowered c.drop_root-outcome.ensures.drew c.drop_root-outcome.ensures.last
    c.finish.new.session (g.R.Rows.shape c.drop_root-outcome.new.rows) c.drop_root-outcome.ensures.fits.1 c.finish.ensures.after works

pub returns-clause-drops : goal.returns-clause-drops
returns-clause-drops g c =
    let z = g.R.Rows.shape c.args.rows.now in
    let v = g.R.Rows.view c.args.seat.now in
    let w = g.R.Rows.view c.drop_root-outcome.new.seat in
    let x = c.args.work.now.session in
    let y = c.drop_root-outcome.new.draw.session in
    let after = c.finish.ensures.after in
    drop_answered c.every_freed.ensures z v w x y c.args.work.now.log c.drop_root-outcome.new.draw.log c.requires.holds c.requires.may c.next_fits.ensures c.args.frame c.args.page c.requires.can
    c.args.work.now.staged.list c.drop_root-outcome.new.draw.staged.list (g.D.Disk.story c.args.work.now.disk) (g.D.Disk.story c.drop_root-outcome.new.draw.disk) (c.drop_root-outcome.new.draw.disk ≡ c.args.work.now.disk) (c.drop_root-outcome.new.draw ≡ c.args.work.now) (g.D.Disk.faults c.args.work.now.disk) (g.D.Disk.faults c.drop_root-outcome.new.draw.disk)
    c.every_low.ensures c.versions.ensures.low c.drop_root-outcome.ensures.fits.2
    _ _ c.drop_root-outcome.result (drop_expected c.every_freed.ensures z v w x y c.args.work.now.log c.drop_root-outcome.new.draw.log c.requires.holds c.requires.may c.next_fits.ensures c.args.frame c.args.page c.requires.can
    c.args.work.now.staged.list c.drop_root-outcome.new.draw.staged.list (g.D.Disk.story c.args.work.now.disk) (g.D.Disk.story c.drop_root-outcome.new.draw.disk) (c.drop_root-outcome.new.draw.disk ≡ c.args.work.now.disk) (c.drop_root-outcome.new.draw ≡ c.args.work.now) (g.D.Disk.faults c.args.work.now.disk) (g.D.Disk.faults c.drop_root-outcome.new.draw.disk)
    c.drop_root-outcome.result c.drop_root-outcome.ensures.lowered c.drop_root-outcome.ensures.drew (c.drop_root-outcome.ensures.quiet c.requires.holds.alone (drop_apart c.every_freed.ensures z v w x y c.args.work.now.log c.drop_root-outcome.new.draw.log c.requires.holds c.requires.may c.next_fits.ensures c.args.frame c.args.page c.requires.can
    c.args.work.now.staged.list c.drop_root-outcome.new.draw.staged.list (g.D.Disk.story c.args.work.now.disk) (g.D.Disk.story c.drop_root-outcome.new.draw.disk) (c.drop_root-outcome.new.draw.disk ≡ c.args.work.now.disk) (c.drop_root-outcome.new.draw ≡ c.args.work.now) (g.D.Disk.faults c.args.work.now.disk) (g.D.Disk.faults c.drop_root-outcome.new.draw.disk)))) c.drop_root-outcome.ensures.lowered c.drop_root-outcome.ensures.drew c.drop_root-outcome.ensures.cause c.drop_root-outcome.ensures.last
    (λ row e s. (λ i. record c.drop_root-outcome.new.draw { session = (after ∙ ap (λ k. session_after k c.args.page y) e) i }) ∙ s)
    (λ why e. ap (λ k. k.works) after ∙ ap (λ k. (session_after k c.args.page y).works) e)
    c.finish.result c.finish.new.session c.finish.ensures.answer after

pub returns-clause-cause_disk_fault : goal.returns-clause-cause_disk_fault
returns-clause-cause_disk_fault g c =
    let z = g.R.Rows.shape c.args.rows.now in
    let v = g.R.Rows.view c.args.seat.now in
    let w = g.R.Rows.view c.drop_root-outcome.new.seat in
    let x = c.args.work.now.session in
    let y = c.drop_root-outcome.new.draw.session in
    subst (λ (r : Result ℕ Unserved). HasCause (g.D.Disk.faults c.args.work.now.disk) (g.D.Disk.faults c.drop_root-outcome.new.draw.disk) (r ≡ Err (unserved.Unanswered unanswered.DiskFault))) (sym c.finish.ensures.answer)
    (faults_told x y c.args.work.now.staged.list c.drop_root-outcome.new.draw.staged.list c.args.work.now.log c.drop_root-outcome.new.draw.log (g.D.Disk.story c.args.work.now.disk) (g.D.Disk.story c.drop_root-outcome.new.draw.disk) (c.drop_root-outcome.new.draw.disk ≡ c.args.work.now.disk) (c.drop_root-outcome.new.draw ≡ c.args.work.now)
    (g.D.Disk.faults c.args.work.now.disk) (g.D.Disk.faults c.drop_root-outcome.new.draw.disk) (λ e. ap (λ k. g.D.Disk.faults k.disk) e) c.args.page c.drop_root-outcome.result (drop_expected c.every_freed.ensures z v w x y c.args.work.now.log c.drop_root-outcome.new.draw.log c.requires.holds c.requires.may c.next_fits.ensures c.args.frame c.args.page c.requires.can
    c.args.work.now.staged.list c.drop_root-outcome.new.draw.staged.list (g.D.Disk.story c.args.work.now.disk) (g.D.Disk.story c.drop_root-outcome.new.draw.disk) (c.drop_root-outcome.new.draw.disk ≡ c.args.work.now.disk) (c.drop_root-outcome.new.draw ≡ c.args.work.now) (g.D.Disk.faults c.args.work.now.disk) (g.D.Disk.faults c.drop_root-outcome.new.draw.disk)
    c.drop_root-outcome.result c.drop_root-outcome.ensures.lowered c.drop_root-outcome.ensures.drew (c.drop_root-outcome.ensures.quiet c.requires.holds.alone (drop_apart c.every_freed.ensures z v w x y c.args.work.now.log c.drop_root-outcome.new.draw.log c.requires.holds c.requires.may c.next_fits.ensures c.args.frame c.args.page c.requires.can
    c.args.work.now.staged.list c.drop_root-outcome.new.draw.staged.list (g.D.Disk.story c.args.work.now.disk) (g.D.Disk.story c.drop_root-outcome.new.draw.disk) (c.drop_root-outcome.new.draw.disk ≡ c.args.work.now.disk) (c.drop_root-outcome.new.draw ≡ c.args.work.now) (g.D.Disk.faults c.args.work.now.disk) (g.D.Disk.faults c.drop_root-outcome.new.draw.disk)))) c.drop_root-outcome.ensures.drew)

pub returns-clause-session : goal.returns-clause-session
returns-clause-session g c =
    let x = c.args.work.now.session in
    let y = c.drop_root-outcome.new.draw.session in
    session_kept x y c.args.work.now.staged.list c.drop_root-outcome.new.draw.staged.list c.args.work.now.log c.drop_root-outcome.new.draw.log (g.D.Disk.story c.args.work.now.disk) (g.D.Disk.story c.drop_root-outcome.new.draw.disk) (c.drop_root-outcome.new.draw.disk ≡ c.args.work.now.disk) (c.drop_root-outcome.new.draw ≡ c.args.work.now)
    (g.D.Disk.faults c.args.work.now.disk) (g.D.Disk.faults c.drop_root-outcome.new.draw.disk) (λ e. ap (λ k. k.session) e) c.args.page c.drop_root-outcome.result c.drop_root-outcome.ensures.drew c.finish.new.session c.finish.ensures.after

pub returns-clause-works : goal.returns-clause-works
returns-clause-works g c =
    let z = g.R.Rows.shape c.args.rows.now in
    let v = g.R.Rows.view c.args.seat.now in
    let w = g.R.Rows.view c.drop_root-outcome.new.seat in
    let x = c.args.work.now.session in
    let y = c.drop_root-outcome.new.draw.session in
    ap (λ k. k.works) c.finish.ensures.after ∙ (works_told x y c.args.work.now.staged.list c.drop_root-outcome.new.draw.staged.list c.args.work.now.log c.drop_root-outcome.new.draw.log (g.D.Disk.story c.args.work.now.disk) (g.D.Disk.story c.drop_root-outcome.new.draw.disk) (c.drop_root-outcome.new.draw.disk ≡ c.args.work.now.disk) (c.drop_root-outcome.new.draw ≡ c.args.work.now)
    (g.D.Disk.faults c.args.work.now.disk) (g.D.Disk.faults c.drop_root-outcome.new.draw.disk) (λ e. ap (λ k. k.session) e) c.requires.may.works c.args.page c.drop_root-outcome.result (drop_expected c.every_freed.ensures z v w x y c.args.work.now.log c.drop_root-outcome.new.draw.log c.requires.holds c.requires.may c.next_fits.ensures c.args.frame c.args.page c.requires.can
    c.args.work.now.staged.list c.drop_root-outcome.new.draw.staged.list (g.D.Disk.story c.args.work.now.disk) (g.D.Disk.story c.drop_root-outcome.new.draw.disk) (c.drop_root-outcome.new.draw.disk ≡ c.args.work.now.disk) (c.drop_root-outcome.new.draw ≡ c.args.work.now) (g.D.Disk.faults c.args.work.now.disk) (g.D.Disk.faults c.drop_root-outcome.new.draw.disk)
    c.drop_root-outcome.result c.drop_root-outcome.ensures.lowered c.drop_root-outcome.ensures.drew (c.drop_root-outcome.ensures.quiet c.requires.holds.alone (drop_apart c.every_freed.ensures z v w x y c.args.work.now.log c.drop_root-outcome.new.draw.log c.requires.holds c.requires.may c.next_fits.ensures c.args.frame c.args.page c.requires.can
    c.args.work.now.staged.list c.drop_root-outcome.new.draw.staged.list (g.D.Disk.story c.args.work.now.disk) (g.D.Disk.story c.drop_root-outcome.new.draw.disk) (c.drop_root-outcome.new.draw.disk ≡ c.args.work.now.disk) (c.drop_root-outcome.new.draw ≡ c.args.work.now) (g.D.Disk.faults c.args.work.now.disk) (g.D.Disk.faults c.drop_root-outcome.new.draw.disk)))) c.drop_root-outcome.ensures.drew ∙ ap works_after (sym c.finish.ensures.answer))
