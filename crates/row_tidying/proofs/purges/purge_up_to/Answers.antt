use Rattle.std.proofs.Common.{◌≡◌, ◌∙◌, refl, sym, ap, subst, Err}
use Rattle.std.specs.Prelude.{Result}
use Rattle.row_changes.specs.session_state.engine_trait.declared.unserved.Unanswered.TheVariants as unanswered
use Rattle.row_changes.specs.session_state.engine_trait.declared.unserved.Unserved.{Unserved}
use Rattle.row_changes.specs.session_state.engine_trait.declared.unserved.Unserved.TheVariants as unserved
use Rattle.lean_disk.specs.Faults.{HasCause}
use Rattle.row_changes.specs.Puts.{works_after}
use Rattle.row_tidying.specs.Ends.{session_behind}
use Rattle.row_tidying.specs.declared.purges.Cleared.{Cleared}
use Rattle.row_changes.proofs.PutLemmas.{holds_as}
use Rattle.row_tidying.proofs.EndLemmas.{purge_told, session_spared, works_spared}
use Rattle.row_tidying.proofs.MadeLemmas.{framed}
use Rattle.row_tidying.proofs.PurgeLemmas.{purge_answered, purge_expected, purge_holds}
use Rattle.row_tidying.proofs.purges.purge_up_to.Goals as goal

pub purge-purged-requires-clause-leaf : goal.purge-purged-requires-clause-leaf
purge-purged-requires-clause-leaf g c = framed (g.R.Rows.shape c.args.rows.now) (g.R.Rows.view c.args.seat.now) c.args.work.now.session c.args.work.now.log c.requires.holds c.requires.can.page c.args.frame c.requires.can.stands

pub finish_purge-requires : goal.finish_purge-requires
finish_purge-requires g c =
    let z = g.R.Rows.shape c.args.rows.now in
    let v = g.R.Rows.view c.args.seat.now in
    let w = g.R.Rows.view c.purge-purged.new.seat in
    let x = c.args.work.now.session in
    let y = c.purge-purged.new.draw.session in
    purge_expected c.every_freed.ensures z v w x y c.args.work.now.log c.purge-purged.new.draw.log c.requires.holds c.requires.may c.next_fits.ensures c.args.frame c.args.most c.requires.can
    c.args.work.now.staged.list c.purge-purged.new.draw.staged.list (g.D.Disk.story c.args.work.now.disk) (g.D.Disk.story c.purge-purged.new.draw.disk) (c.purge-purged.new.draw.disk ≡ c.args.work.now.disk) (c.purge-purged.new.draw ≡ c.args.work.now) (g.D.Disk.faults c.args.work.now.disk) (g.D.Disk.faults c.purge-purged.new.draw.disk)
    c.purge-purged.result c.purge-purged.ensures.clears c.purge-purged.ensures.drew (c.purge-purged.ensures.quiet c.requires.holds.alone)

pub returns-clause-holds : goal.returns-clause-holds
returns-clause-holds g c works =
    let z = g.R.Rows.shape c.args.rows.now in
    let v = g.R.Rows.view c.args.seat.now in
    let w = g.R.Rows.view c.purge-purged.new.seat in
    let x = c.args.work.now.session in
    let y = c.purge-purged.new.draw.session in
    let after = c.finish_purge.ensures.after in
    holds_as z (g.R.Rows.shape c.purge-purged.new.rows) w (session_behind c.purge-purged.result y) c.finish_purge.new.session c.purge-purged.new.draw.log c.purge-purged.new.draw.log c.purge-purged.ensures.fits.1 after refl
    (purge_holds c.every_freed.ensures z v w x y c.args.work.now.log c.purge-purged.new.draw.log c.requires.holds c.requires.may c.next_fits.ensures c.args.frame c.args.most c.requires.can
    c.args.work.now.staged.list c.purge-purged.new.draw.staged.list (g.D.Disk.story c.args.work.now.disk) (g.D.Disk.story c.purge-purged.new.draw.disk) (c.purge-purged.new.draw.disk ≡ c.args.work.now.disk) (c.purge-purged.new.draw ≡ c.args.work.now) (g.D.Disk.faults c.args.work.now.disk) (g.D.Disk.faults c.purge-purged.new.draw.disk)
    c.every_low.ensures c.versions.ensures.low c.purge-purged.ensures.fits.2
    (λ e. ap (λ k. k.session) e) (λ e. ap (λ k. k.log) e) c.purge-purged.result (purge_expected c.every_freed.ensures z v w x y c.args.work.now.log c.purge-purged.new.draw.log c.requires.holds c.requires.may c.next_fits.ensures c.args.frame c.args.most c.requires.can
    c.args.work.now.staged.list c.purge-purged.new.draw.staged.list (g.D.Disk.story c.args.work.now.disk) (g.D.Disk.story c.purge-purged.new.draw.disk) (c.purge-purged.new.draw.disk ≡ c.args.work.now.disk) (c.purge-purged.new.draw ≡ c.args.work.now) (g.D.Disk.faults c.args.work.now.disk) (g.D.Disk.faults c.purge-purged.new.draw.disk)
    c.purge-purged.result c.purge-purged.ensures.clears c.purge-purged.ensures.drew (c.purge-purged.ensures.quiet c.requires.holds.alone)) c.purge-purged.ensures.clears c.purge-purged.ensures.drew c.purge-purged.ensures.last (ap (λ k. k.works) (sym after) ∙ works))

pub returns-clause-clears : goal.returns-clause-clears
returns-clause-clears g c =
    let z = g.R.Rows.shape c.args.rows.now in
    let v = g.R.Rows.view c.args.seat.now in
    let w = g.R.Rows.view c.purge-purged.new.seat in
    let x = c.args.work.now.session in
    let y = c.purge-purged.new.draw.session in
    let after = c.finish_purge.ensures.after in
    purge_answered c.every_freed.ensures z v w x y c.args.work.now.log c.purge-purged.new.draw.log c.requires.holds c.requires.may c.next_fits.ensures c.args.frame c.args.most c.requires.can
    c.args.work.now.staged.list c.purge-purged.new.draw.staged.list (g.D.Disk.story c.args.work.now.disk) (g.D.Disk.story c.purge-purged.new.draw.disk) (c.purge-purged.new.draw.disk ≡ c.args.work.now.disk) (c.purge-purged.new.draw ≡ c.args.work.now) (g.D.Disk.faults c.args.work.now.disk) (g.D.Disk.faults c.purge-purged.new.draw.disk)
    c.every_low.ensures c.versions.ensures.low c.purge-purged.ensures.fits.2
    _ _ c.purge-purged.result (purge_expected c.every_freed.ensures z v w x y c.args.work.now.log c.purge-purged.new.draw.log c.requires.holds c.requires.may c.next_fits.ensures c.args.frame c.args.most c.requires.can
    c.args.work.now.staged.list c.purge-purged.new.draw.staged.list (g.D.Disk.story c.args.work.now.disk) (g.D.Disk.story c.purge-purged.new.draw.disk) (c.purge-purged.new.draw.disk ≡ c.args.work.now.disk) (c.purge-purged.new.draw ≡ c.args.work.now) (g.D.Disk.faults c.args.work.now.disk) (g.D.Disk.faults c.purge-purged.new.draw.disk)
    c.purge-purged.result c.purge-purged.ensures.clears c.purge-purged.ensures.drew (c.purge-purged.ensures.quiet c.requires.holds.alone)) c.purge-purged.ensures.clears c.purge-purged.ensures.drew c.purge-purged.ensures.cause c.purge-purged.ensures.last
    (λ e s. (λ i. record c.purge-purged.new.draw { session = (after ∙ e) i }) ∙ s)
    (λ why e. ap (λ k. k.works) after ∙ ap (λ k. (session_behind k y).works) e)
    c.finish_purge.result c.finish_purge.new.session c.finish_purge.ensures.answer after

pub returns-clause-cause_disk_fault : goal.returns-clause-cause_disk_fault
returns-clause-cause_disk_fault g c =
    let z = g.R.Rows.shape c.args.rows.now in
    let v = g.R.Rows.view c.args.seat.now in
    let w = g.R.Rows.view c.purge-purged.new.seat in
    let x = c.args.work.now.session in
    let y = c.purge-purged.new.draw.session in
    subst (λ (r : Result Cleared Unserved). HasCause (g.D.Disk.faults c.args.work.now.disk) (g.D.Disk.faults c.purge-purged.new.draw.disk) (r ≡ Err (unserved.Unanswered unanswered.DiskFault))) (sym c.finish_purge.ensures.answer)
    (purge_told x y c.args.work.now.staged.list c.purge-purged.new.draw.staged.list c.args.work.now.log c.purge-purged.new.draw.log (g.D.Disk.story c.args.work.now.disk) (g.D.Disk.story c.purge-purged.new.draw.disk) (c.purge-purged.new.draw.disk ≡ c.args.work.now.disk) (c.purge-purged.new.draw ≡ c.args.work.now)
    (g.D.Disk.faults c.args.work.now.disk) (g.D.Disk.faults c.purge-purged.new.draw.disk) (λ e. ap (λ k. g.D.Disk.faults k.disk) e) c.purge-purged.result (purge_expected c.every_freed.ensures z v w x y c.args.work.now.log c.purge-purged.new.draw.log c.requires.holds c.requires.may c.next_fits.ensures c.args.frame c.args.most c.requires.can
    c.args.work.now.staged.list c.purge-purged.new.draw.staged.list (g.D.Disk.story c.args.work.now.disk) (g.D.Disk.story c.purge-purged.new.draw.disk) (c.purge-purged.new.draw.disk ≡ c.args.work.now.disk) (c.purge-purged.new.draw ≡ c.args.work.now) (g.D.Disk.faults c.args.work.now.disk) (g.D.Disk.faults c.purge-purged.new.draw.disk)
    c.purge-purged.result c.purge-purged.ensures.clears c.purge-purged.ensures.drew (c.purge-purged.ensures.quiet c.requires.holds.alone)) c.purge-purged.ensures.drew)

pub returns-clause-session : goal.returns-clause-session
returns-clause-session g c =
    let x = c.args.work.now.session in
    let y = c.purge-purged.new.draw.session in
    session_spared x y c.args.work.now.staged.list c.purge-purged.new.draw.staged.list c.args.work.now.log c.purge-purged.new.draw.log (g.D.Disk.story c.args.work.now.disk) (g.D.Disk.story c.purge-purged.new.draw.disk) (c.purge-purged.new.draw.disk ≡ c.args.work.now.disk) (c.purge-purged.new.draw ≡ c.args.work.now)
    (g.D.Disk.faults c.args.work.now.disk) (g.D.Disk.faults c.purge-purged.new.draw.disk) (λ e. ap (λ k. k.session) e) c.purge-purged.result c.purge-purged.ensures.drew c.finish_purge.new.session c.finish_purge.ensures.after

pub returns-clause-works : goal.returns-clause-works
returns-clause-works g c =
    let z = g.R.Rows.shape c.args.rows.now in
    let v = g.R.Rows.view c.args.seat.now in
    let w = g.R.Rows.view c.purge-purged.new.seat in
    let x = c.args.work.now.session in
    let y = c.purge-purged.new.draw.session in
    ap (λ k. k.works) c.finish_purge.ensures.after ∙ (works_spared x y c.args.work.now.staged.list c.purge-purged.new.draw.staged.list c.args.work.now.log c.purge-purged.new.draw.log (g.D.Disk.story c.args.work.now.disk) (g.D.Disk.story c.purge-purged.new.draw.disk) (c.purge-purged.new.draw.disk ≡ c.args.work.now.disk) (c.purge-purged.new.draw ≡ c.args.work.now)
    (g.D.Disk.faults c.args.work.now.disk) (g.D.Disk.faults c.purge-purged.new.draw.disk) (λ e. ap (λ k. k.session) e) c.requires.may.works c.purge-purged.result (purge_expected c.every_freed.ensures z v w x y c.args.work.now.log c.purge-purged.new.draw.log c.requires.holds c.requires.may c.next_fits.ensures c.args.frame c.args.most c.requires.can
    c.args.work.now.staged.list c.purge-purged.new.draw.staged.list (g.D.Disk.story c.args.work.now.disk) (g.D.Disk.story c.purge-purged.new.draw.disk) (c.purge-purged.new.draw.disk ≡ c.args.work.now.disk) (c.purge-purged.new.draw ≡ c.args.work.now) (g.D.Disk.faults c.args.work.now.disk) (g.D.Disk.faults c.purge-purged.new.draw.disk)
    c.purge-purged.result c.purge-purged.ensures.clears c.purge-purged.ensures.drew (c.purge-purged.ensures.quiet c.requires.holds.alone)) c.purge-purged.ensures.drew ∙ ap works_after (sym c.finish_purge.ensures.answer))
