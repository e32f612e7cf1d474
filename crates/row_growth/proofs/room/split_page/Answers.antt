use Rattle.std.proofs.Common.{◌≡◌, ◌∙◌, refl, sym, ap, subst, Err}
use Rattle.std.specs.Prelude.{Result}
use Rattle.row_changes.specs.session_state.engine_trait.declared.unserved.Unanswered.TheVariants as unanswered
use Rattle.row_changes.specs.session_state.engine_trait.declared.unserved.Unserved.{Unserved}
use Rattle.row_changes.specs.session_state.engine_trait.declared.unserved.Unserved.TheVariants as unserved
use Rattle.lean_disk.specs.Faults.{HasCause}
use Rattle.row_growth.specs.Rooms.{session_after}
use Rattle.row_growth.proofs.ChangeLemmas.{faults_told, session_kept}
use Rattle.row_growth.proofs.GrowthLemmas.{framed}
use Rattle.row_changes.proofs.PutLemmas.{holds_as}
use Rattle.row_growth.proofs.SplitLemmas.{split_expected, split_answered, split_holds, left_page, left_parent, page_parent}
use Rattle.row_growth.proofs.room.split_page.Goals as goal

pub split-outcome-requires-clause-right : goal.split-outcome-requires-clause-right
split-outcome-requires-clause-right g c = framed (g.R.Rows.shape c.args.rows.now) (g.R.Rows.view c.args.seat.now) c.args.work.now.session c.args.work.now.log c.requires.holds c.requires.can.page c.args.right c.requires.can.stands

pub split-outcome-requires-clause-left : goal.split-outcome-requires-clause-left
split-outcome-requires-clause-left g c = framed (g.R.Rows.shape c.args.rows.now) (g.R.Rows.view c.args.seat.now) c.args.work.now.session c.args.work.now.log c.requires.holds c.requires.can.takes.left c.args.left c.requires.can.takes.left_hot

pub split-outcome-requires-clause-parent : goal.split-outcome-requires-clause-parent
split-outcome-requires-clause-parent g c = framed (g.R.Rows.shape c.args.rows.now) (g.R.Rows.view c.args.seat.now) c.args.work.now.session c.args.work.now.log c.requires.holds c.requires.can.takes.parent c.args.parent c.requires.can.takes.parent_hot

pub finish-requires : goal.finish-requires
finish-requires g c =
    let z = g.R.Rows.shape c.args.rows.now in
    let v = g.R.Rows.view c.args.seat.now in
    let w = g.R.Rows.view c.split-outcome.new.seat in
    let x = c.args.work.now.session in
    let y = c.split-outcome.new.draw.session in
    split_expected c.every_room.ensures z v w x y c.args.work.now.log c.split-outcome.new.draw.log c.requires.holds c.args.key c.requires.may c.next_fits.ensures c.args.left c.args.right c.args.parent c.requires.can
    c.args.work.now.staged.list c.split-outcome.new.draw.staged.list (g.D.Disk.story c.args.work.now.disk) (g.D.Disk.story c.split-outcome.new.draw.disk) (c.split-outcome.new.draw.disk ≡ c.args.work.now.disk) (c.split-outcome.new.draw ≡ c.args.work.now) (g.D.Disk.faults c.args.work.now.disk) (g.D.Disk.faults c.split-outcome.new.draw.disk)
    c.split-outcome.result c.split-outcome.ensures.parted c.split-outcome.ensures.drew (c.split-outcome.ensures.quiet c.requires.holds.alone (left_page c.every_room.ensures z v w x y c.args.work.now.log c.split-outcome.new.draw.log c.requires.holds c.args.key c.requires.may c.next_fits.ensures c.args.left c.args.right c.args.parent c.requires.can
    c.args.work.now.staged.list c.split-outcome.new.draw.staged.list (g.D.Disk.story c.args.work.now.disk) (g.D.Disk.story c.split-outcome.new.draw.disk) (c.split-outcome.new.draw.disk ≡ c.args.work.now.disk) (c.split-outcome.new.draw ≡ c.args.work.now) (g.D.Disk.faults c.args.work.now.disk) (g.D.Disk.faults c.split-outcome.new.draw.disk)) (left_parent c.every_room.ensures z v w x y c.args.work.now.log c.split-outcome.new.draw.log c.requires.holds c.args.key c.requires.may c.next_fits.ensures c.args.left c.args.right c.args.parent c.requires.can
    c.args.work.now.staged.list c.split-outcome.new.draw.staged.list (g.D.Disk.story c.args.work.now.disk) (g.D.Disk.story c.split-outcome.new.draw.disk) (c.split-outcome.new.draw.disk ≡ c.args.work.now.disk) (c.split-outcome.new.draw ≡ c.args.work.now) (g.D.Disk.faults c.args.work.now.disk) (g.D.Disk.faults c.split-outcome.new.draw.disk)) (page_parent c.every_room.ensures z v w x y c.args.work.now.log c.split-outcome.new.draw.log c.requires.holds c.args.key c.requires.may c.next_fits.ensures c.args.left c.args.right c.args.parent c.requires.can
    c.args.work.now.staged.list c.split-outcome.new.draw.staged.list (g.D.Disk.story c.args.work.now.disk) (g.D.Disk.story c.split-outcome.new.draw.disk) (c.split-outcome.new.draw.disk ≡ c.args.work.now.disk) (c.split-outcome.new.draw ≡ c.args.work.now) (g.D.Disk.faults c.args.work.now.disk) (g.D.Disk.faults c.split-outcome.new.draw.disk)))

pub returns-clause-holds : goal.returns-clause-holds
returns-clause-holds g c works =
    let z = g.R.Rows.shape c.args.rows.now in
    let v = g.R.Rows.view c.args.seat.now in
    let w = g.R.Rows.view c.split-outcome.new.seat in
    let x = c.args.work.now.session in
    let y = c.split-outcome.new.draw.session in
    let after = c.finish.ensures.after in
    holds_as z (g.R.Rows.shape c.split-outcome.new.rows) w (session_after c.split-outcome.result y) c.finish.new.session c.split-outcome.new.draw.log c.split-outcome.new.draw.log c.split-outcome.ensures.fits.1 after refl
    (split_holds c.every_room.ensures z v w x y c.args.work.now.log c.split-outcome.new.draw.log c.requires.holds c.args.key c.requires.may c.next_fits.ensures c.args.left c.args.right c.args.parent c.requires.can
    c.args.work.now.staged.list c.split-outcome.new.draw.staged.list (g.D.Disk.story c.args.work.now.disk) (g.D.Disk.story c.split-outcome.new.draw.disk) (c.split-outcome.new.draw.disk ≡ c.args.work.now.disk) (c.split-outcome.new.draw ≡ c.args.work.now) (g.D.Disk.faults c.args.work.now.disk) (g.D.Disk.faults c.split-outcome.new.draw.disk)
    c.every_low.ensures c.versions.ensures.low c.split-outcome.ensures.fits.2
    (λ e. ap (λ k. k.session) e) (λ e. ap (λ k. k.log) e) c.split-outcome.result (split_expected c.every_room.ensures z v w x y c.args.work.now.log c.split-outcome.new.draw.log c.requires.holds c.args.key c.requires.may c.next_fits.ensures c.args.left c.args.right c.args.parent c.requires.can
    c.args.work.now.staged.list c.split-outcome.new.draw.staged.list (g.D.Disk.story c.args.work.now.disk) (g.D.Disk.story c.split-outcome.new.draw.disk) (c.split-outcome.new.draw.disk ≡ c.args.work.now.disk) (c.split-outcome.new.draw ≡ c.args.work.now) (g.D.Disk.faults c.args.work.now.disk) (g.D.Disk.faults c.split-outcome.new.draw.disk)
    c.split-outcome.result c.split-outcome.ensures.parted c.split-outcome.ensures.drew (c.split-outcome.ensures.quiet c.requires.holds.alone (left_page c.every_room.ensures z v w x y c.args.work.now.log c.split-outcome.new.draw.log c.requires.holds c.args.key c.requires.may c.next_fits.ensures c.args.left c.args.right c.args.parent c.requires.can
    c.args.work.now.staged.list c.split-outcome.new.draw.staged.list (g.D.Disk.story c.args.work.now.disk) (g.D.Disk.story c.split-outcome.new.draw.disk) (c.split-outcome.new.draw.disk ≡ c.args.work.now.disk) (c.split-outcome.new.draw ≡ c.args.work.now) (g.D.Disk.faults c.args.work.now.disk) (g.D.Disk.faults c.split-outcome.new.draw.disk)) (left_parent c.every_room.ensures z v w x y c.args.work.now.log c.split-outcome.new.draw.log c.requires.holds c.args.key c.requires.may c.next_fits.ensures c.args.left c.args.right c.args.parent c.requires.can
    c.args.work.now.staged.list c.split-outcome.new.draw.staged.list (g.D.Disk.story c.args.work.now.disk) (g.D.Disk.story c.split-outcome.new.draw.disk) (c.split-outcome.new.draw.disk ≡ c.args.work.now.disk) (c.split-outcome.new.draw ≡ c.args.work.now) (g.D.Disk.faults c.args.work.now.disk) (g.D.Disk.faults c.split-outcome.new.draw.disk)) (page_parent c.every_room.ensures z v w x y c.args.work.now.log c.split-outcome.new.draw.log c.requires.holds c.args.key c.requires.may c.next_fits.ensures c.args.left c.args.right c.args.parent c.requires.can
    c.args.work.now.staged.list c.split-outcome.new.draw.staged.list (g.D.Disk.story c.args.work.now.disk) (g.D.Disk.story c.split-outcome.new.draw.disk) (c.split-outcome.new.draw.disk ≡ c.args.work.now.disk) (c.split-outcome.new.draw ≡ c.args.work.now) (g.D.Disk.faults c.args.work.now.disk) (g.D.Disk.faults c.split-outcome.new.draw.disk)))) c.split-outcome.ensures.parted c.split-outcome.ensures.drew c.split-outcome.ensures.last (ap (λ k. k.works) (sym after) ∙ works))

pub returns-clause-grew : goal.returns-clause-grew
returns-clause-grew g c =
    let z = g.R.Rows.shape c.args.rows.now in
    let v = g.R.Rows.view c.args.seat.now in
    let w = g.R.Rows.view c.split-outcome.new.seat in
    let x = c.args.work.now.session in
    let y = c.split-outcome.new.draw.session in
    let after = c.finish.ensures.after in
    split_answered c.every_room.ensures z v w x y c.args.work.now.log c.split-outcome.new.draw.log c.requires.holds c.args.key c.requires.may c.next_fits.ensures c.args.left c.args.right c.args.parent c.requires.can
    c.args.work.now.staged.list c.split-outcome.new.draw.staged.list (g.D.Disk.story c.args.work.now.disk) (g.D.Disk.story c.split-outcome.new.draw.disk) (c.split-outcome.new.draw.disk ≡ c.args.work.now.disk) (c.split-outcome.new.draw ≡ c.args.work.now) (g.D.Disk.faults c.args.work.now.disk) (g.D.Disk.faults c.split-outcome.new.draw.disk)
    c.every_low.ensures c.versions.ensures.low c.split-outcome.ensures.fits.2
    _ _ c.split-outcome.result (split_expected c.every_room.ensures z v w x y c.args.work.now.log c.split-outcome.new.draw.log c.requires.holds c.args.key c.requires.may c.next_fits.ensures c.args.left c.args.right c.args.parent c.requires.can
    c.args.work.now.staged.list c.split-outcome.new.draw.staged.list (g.D.Disk.story c.args.work.now.disk) (g.D.Disk.story c.split-outcome.new.draw.disk) (c.split-outcome.new.draw.disk ≡ c.args.work.now.disk) (c.split-outcome.new.draw ≡ c.args.work.now) (g.D.Disk.faults c.args.work.now.disk) (g.D.Disk.faults c.split-outcome.new.draw.disk)
    c.split-outcome.result c.split-outcome.ensures.parted c.split-outcome.ensures.drew (c.split-outcome.ensures.quiet c.requires.holds.alone (left_page c.every_room.ensures z v w x y c.args.work.now.log c.split-outcome.new.draw.log c.requires.holds c.args.key c.requires.may c.next_fits.ensures c.args.left c.args.right c.args.parent c.requires.can
    c.args.work.now.staged.list c.split-outcome.new.draw.staged.list (g.D.Disk.story c.args.work.now.disk) (g.D.Disk.story c.split-outcome.new.draw.disk) (c.split-outcome.new.draw.disk ≡ c.args.work.now.disk) (c.split-outcome.new.draw ≡ c.args.work.now) (g.D.Disk.faults c.args.work.now.disk) (g.D.Disk.faults c.split-outcome.new.draw.disk)) (left_parent c.every_room.ensures z v w x y c.args.work.now.log c.split-outcome.new.draw.log c.requires.holds c.args.key c.requires.may c.next_fits.ensures c.args.left c.args.right c.args.parent c.requires.can
    c.args.work.now.staged.list c.split-outcome.new.draw.staged.list (g.D.Disk.story c.args.work.now.disk) (g.D.Disk.story c.split-outcome.new.draw.disk) (c.split-outcome.new.draw.disk ≡ c.args.work.now.disk) (c.split-outcome.new.draw ≡ c.args.work.now) (g.D.Disk.faults c.args.work.now.disk) (g.D.Disk.faults c.split-outcome.new.draw.disk)) (page_parent c.every_room.ensures z v w x y c.args.work.now.log c.split-outcome.new.draw.log c.requires.holds c.args.key c.requires.may c.next_fits.ensures c.args.left c.args.right c.args.parent c.requires.can
    c.args.work.now.staged.list c.split-outcome.new.draw.staged.list (g.D.Disk.story c.args.work.now.disk) (g.D.Disk.story c.split-outcome.new.draw.disk) (c.split-outcome.new.draw.disk ≡ c.args.work.now.disk) (c.split-outcome.new.draw ≡ c.args.work.now) (g.D.Disk.faults c.args.work.now.disk) (g.D.Disk.faults c.split-outcome.new.draw.disk)))) c.split-outcome.ensures.parted c.split-outcome.ensures.drew c.split-outcome.ensures.cause c.split-outcome.ensures.last
    (λ row e s. (λ i. record c.split-outcome.new.draw { session = (after ∙ ap (λ k. session_after k y) e) i }) ∙ s)
    (λ why e. ap (λ k. k.works) after ∙ ap (λ k. (session_after k y).works) e)
    c.finish.result c.finish.new.session c.finish.ensures.answer after

pub returns-clause-cause_disk_fault : goal.returns-clause-cause_disk_fault
returns-clause-cause_disk_fault g c =
    let z = g.R.Rows.shape c.args.rows.now in
    let v = g.R.Rows.view c.args.seat.now in
    let w = g.R.Rows.view c.split-outcome.new.seat in
    let x = c.args.work.now.session in
    let y = c.split-outcome.new.draw.session in
    subst (λ (r : Result (Unit {0}) Unserved). HasCause (g.D.Disk.faults c.args.work.now.disk) (g.D.Disk.faults c.split-outcome.new.draw.disk) (r ≡ Err (unserved.Unanswered unanswered.DiskFault))) (sym c.finish.ensures.answer)
    (faults_told x y c.args.work.now.staged.list c.split-outcome.new.draw.staged.list c.args.work.now.log c.split-outcome.new.draw.log (g.D.Disk.story c.args.work.now.disk) (g.D.Disk.story c.split-outcome.new.draw.disk) (c.split-outcome.new.draw.disk ≡ c.args.work.now.disk) (c.split-outcome.new.draw ≡ c.args.work.now)
    (g.D.Disk.faults c.args.work.now.disk) (g.D.Disk.faults c.split-outcome.new.draw.disk) (λ e. ap (λ k. g.D.Disk.faults k.disk) e) c.split-outcome.result (split_expected c.every_room.ensures z v w x y c.args.work.now.log c.split-outcome.new.draw.log c.requires.holds c.args.key c.requires.may c.next_fits.ensures c.args.left c.args.right c.args.parent c.requires.can
    c.args.work.now.staged.list c.split-outcome.new.draw.staged.list (g.D.Disk.story c.args.work.now.disk) (g.D.Disk.story c.split-outcome.new.draw.disk) (c.split-outcome.new.draw.disk ≡ c.args.work.now.disk) (c.split-outcome.new.draw ≡ c.args.work.now) (g.D.Disk.faults c.args.work.now.disk) (g.D.Disk.faults c.split-outcome.new.draw.disk)
    c.split-outcome.result c.split-outcome.ensures.parted c.split-outcome.ensures.drew (c.split-outcome.ensures.quiet c.requires.holds.alone (left_page c.every_room.ensures z v w x y c.args.work.now.log c.split-outcome.new.draw.log c.requires.holds c.args.key c.requires.may c.next_fits.ensures c.args.left c.args.right c.args.parent c.requires.can
    c.args.work.now.staged.list c.split-outcome.new.draw.staged.list (g.D.Disk.story c.args.work.now.disk) (g.D.Disk.story c.split-outcome.new.draw.disk) (c.split-outcome.new.draw.disk ≡ c.args.work.now.disk) (c.split-outcome.new.draw ≡ c.args.work.now) (g.D.Disk.faults c.args.work.now.disk) (g.D.Disk.faults c.split-outcome.new.draw.disk)) (left_parent c.every_room.ensures z v w x y c.args.work.now.log c.split-outcome.new.draw.log c.requires.holds c.args.key c.requires.may c.next_fits.ensures c.args.left c.args.right c.args.parent c.requires.can
    c.args.work.now.staged.list c.split-outcome.new.draw.staged.list (g.D.Disk.story c.args.work.now.disk) (g.D.Disk.story c.split-outcome.new.draw.disk) (c.split-outcome.new.draw.disk ≡ c.args.work.now.disk) (c.split-outcome.new.draw ≡ c.args.work.now) (g.D.Disk.faults c.args.work.now.disk) (g.D.Disk.faults c.split-outcome.new.draw.disk)) (page_parent c.every_room.ensures z v w x y c.args.work.now.log c.split-outcome.new.draw.log c.requires.holds c.args.key c.requires.may c.next_fits.ensures c.args.left c.args.right c.args.parent c.requires.can
    c.args.work.now.staged.list c.split-outcome.new.draw.staged.list (g.D.Disk.story c.args.work.now.disk) (g.D.Disk.story c.split-outcome.new.draw.disk) (c.split-outcome.new.draw.disk ≡ c.args.work.now.disk) (c.split-outcome.new.draw ≡ c.args.work.now) (g.D.Disk.faults c.args.work.now.disk) (g.D.Disk.faults c.split-outcome.new.draw.disk)))) c.split-outcome.ensures.drew)

pub returns-clause-session : goal.returns-clause-session
returns-clause-session g c =
    session_kept c.args.work.now.session c.split-outcome.new.draw.session c.args.work.now.staged.list c.split-outcome.new.draw.staged.list c.args.work.now.log c.split-outcome.new.draw.log (g.D.Disk.story c.args.work.now.disk) (g.D.Disk.story c.split-outcome.new.draw.disk) (c.split-outcome.new.draw.disk ≡ c.args.work.now.disk) (c.split-outcome.new.draw ≡ c.args.work.now)
    (g.D.Disk.faults c.args.work.now.disk) (g.D.Disk.faults c.split-outcome.new.draw.disk) (λ e. ap (λ k. k.session) e) c.split-outcome.result c.split-outcome.ensures.drew c.finish.new.session c.finish.ensures.after
