use Rattle.std.proofs.Common.{◌∙◌, ap, subst, sym}
use Rattle.page_provider.specs.Disks.{Disked}
use Rattle.page_provider.specs.Ends.{HasRefused}
use Rattle.page_provider.specs.Faults.{ColdCause, FaultCause, HasPlaced}
use Rattle.btree_descent.specs.rows_trait.Views.{Shape}
use Rattle.paged_rows.specs.Paged.{paged}
use Rattle.paged_rows.specs.Warms.{HasComeBeside, IsRefusedTo, LostTo, most_a_page}
use Rattle.paged_rows.specs.declared.wanted.Wanted.TheVariants as want
use Rattle.paged_rows.proofs.Warming.{descent_hot, disk_from, err_map, fed_now, fed_on, has_come_beside, leads_named, lost_from, moved_if, never_warm, ok_map, paged_if, paged_now, refused_beside, wanted_named, which_if}
use Rattle.paged_rows.proofs.beside.bring_beside.Goals as goal

pub unreachable-requires : goal.unreachable-requires
unreachable-requires g c =
    never_warm c.reach.ensures.fits.1 c.requires.paged c.every_sequel.ensures c.in-Cold.ensures.went.ran c.reach.ensures.fits.2 c.in-Cold.ensures.came c.every_descent.ensures c.frames-frames.ensures c.requires.warm

pub frame_for-requires-clause-keeps : goal.frame_for-requires-clause-keeps
frame_for-requires-clause-keeps g c = (paged_now c.reach.ensures.fits.1 c.requires.paged c.every_sequel.ensures c.in-Leaf.ensures.went.ran c.reach.ensures.fits.2).keeps

pub frame_for-requires-clause-wanted : goal.frame_for-requires-clause-wanted
frame_for-requires-clause-wanted g c =
    wanted_named c.reach.ensures.fits.1 c.requires.paged c.every_sequel.ensures c.in-Leaf.ensures.went.ran c.reach.ensures.fits.2 c.in-Leaf.ensures.came c.in-Leaf.ensures.went c.every_descent.ensures c.frames-frames.ensures c.args.page c.requires.named c.requires.warm

pub frame_for-requires-clause-descent : goal.frame_for-requires-clause-descent
frame_for-requires-clause-descent g c =
    descent_hot c.reach.ensures.fits.1 c.requires.paged c.every_sequel.ensures c.in-Leaf.ensures.went.ran c.reach.ensures.fits.2 c.in-Leaf.ensures.came c.in-Leaf.ensures.went c.every_descent.ensures c.frames-frames.ensures

pub frame_for-requires-clause-leads : goal.frame_for-requires-clause-leads
frame_for-requires-clause-leads g c =
    leads_named c.reach.ensures.fits.1 c.requires.paged c.every_sequel.ensures c.in-Leaf.ensures.went.ran c.reach.ensures.fits.2 c.in-Leaf.ensures.came c.in-Leaf.ensures.went c.every_descent.ensures c.frames-frames.ensures c.args.page c.requires.named c.requires.warm

pub frame_for-requires-clause-gives : goal.frame_for-requires-clause-gives
frame_for-requires-clause-gives g c faithful cold =
    let w = g.R.Rows.view c.reach.new.seat in
    let n = paged_now c.reach.ensures.fits.1 c.requires.paged c.every_sequel.ensures c.in-Leaf.ensures.went.ran c.reach.ensures.fits.2 in
    let f = fed_now c.reach.ensures.fits.1 c.requires.paged c.every_sequel.ensures c.in-Leaf.ensures.went.ran c.reach.ensures.fits.2 (g.P.Part.story c.args.dev.now) c.requires.fed faithful in
    let h = wanted_named c.reach.ensures.fits.1 c.requires.paged c.every_sequel.ensures c.in-Leaf.ensures.went.ran c.reach.ensures.fits.2 c.in-Leaf.ensures.came c.in-Leaf.ensures.went c.every_descent.ensures c.frames-frames.ensures c.args.page c.requires.named c.requires.warm in
    c.every_mirrored_gives.ensures w c.args.pager.now c.args.page f.mirrored f.tells h.below (sym c.pages-pages.ensures.slots ∙ (c.pages-pages.ensures.free ∙ n.keeps.pages))

pub returns-clause-paged : goal.returns-clause-paged
returns-clause-paged g c =
    paged_if c.frame_for.ensures.fits.1 (ap (λ (z : Shape). z.alone) c.reach.ensures.fits.1 ∙ c.requires.paged.alone) (moved_if c.reach.new.path c.args.page c.frame_for.result c.frame_for.ensures.ok c.frame_for.ensures.err)

pub returns-clause-ok : goal.returns-clause-ok
returns-clause-ok g c =
    let x = g.R.Rows.shape c.reach.new.rows in
    let w = g.R.Rows.view c.reach.new.seat in
    let u = g.R.Rows.view c.frame_for.new.seat in
    let k = c.args.pager.now in
    let is = c.frame_for.new.self in
    ok_map (λ frame. HasPlaced most_a_page x c.reach.new.path w k c.args.page frame u is) (λ frame. HasComeBeside c.args.key c.args.page frame (paged (g.R.Rows.shape c.args.rows.now) (g.R.Rows.view c.args.seat.now) k) (paged (g.R.Rows.shape c.frame_for.new.rows) u is)) c.frame_for.result
    (λ frame h. has_come_beside c.reach.ensures.fits.1 c.requires.paged c.every_sequel.ensures c.in-Leaf.ensures.went.ran c.reach.ensures.fits.2 c.in-Leaf.ensures.came c.in-Leaf.ensures.went c.every_descent.ensures c.frames-frames.ensures c.args.page c.requires.named c.requires.warm c.every_warm.ensures c.frame_for.ensures.fits.1 h.moved h.keeps h.hot h.broken h.others)
    c.frame_for.ensures.ok

pub returns-clause-err : goal.returns-clause-err
returns-clause-err g c =
    let x = g.R.Rows.shape c.reach.new.rows in
    let w = g.R.Rows.view c.reach.new.seat in
    let u = g.R.Rows.view c.frame_for.new.seat in
    let k = c.args.pager.now in
    let is = c.frame_for.new.self in
    let s = g.P.Part.story c.args.dev.now in
    err_map (λ why. HasRefused most_a_page x c.reach.new.path w k why u is) (FaultCause x c.reach.new.path w k c.args.page s u is)
    (λ why. IsRefusedTo c.args.key (want.Beside c.args.page) (paged (g.R.Rows.shape c.args.rows.now) (g.R.Rows.view c.args.seat.now) k) why (paged (g.R.Rows.shape c.frame_for.new.rows) u is)) c.frame_for.result
    (λ why h f. refused_beside c.reach.ensures.fits.1 c.requires.paged c.every_sequel.ensures c.in-Leaf.ensures.went.ran c.reach.ensures.fits.2 c.in-Leaf.ensures.came c.in-Leaf.ensures.went c.every_descent.ensures c.frames-frames.ensures c.args.page c.requires.named c.requires.warm c.every_warm.ensures c.frame_for.ensures.fits.1 s why h f)
    c.frame_for.ensures.err c.frame_for.ensures.cause

pub returns-clause-lost : goal.returns-clause-lost
returns-clause-lost g c =
    let x = g.R.Rows.shape c.reach.new.rows in
    let w = g.R.Rows.view c.reach.new.seat in
    let u = g.R.Rows.view c.frame_for.new.seat in
    let k = c.args.pager.now in
    let s = g.P.Part.story c.args.dev.now in
    err_map (FaultCause x c.reach.new.path w k c.args.page s u c.frame_for.new.self) (ColdCause w c.args.page) (LostTo (paged (g.R.Rows.shape c.args.rows.now) (g.R.Rows.view c.args.seat.now) k) s) c.frame_for.result
    (λ why f d. lost_from c.reach.ensures.fits.1 c.requires.paged c.every_sequel.ensures c.in-Leaf.ensures.went.ran c.reach.ensures.fits.2 c.args.page c.reach.new.path u c.frame_for.new.self (wanted_named c.reach.ensures.fits.1 c.requires.paged c.every_sequel.ensures c.in-Leaf.ensures.went.ran c.reach.ensures.fits.2 c.in-Leaf.ensures.came c.in-Leaf.ensures.went c.every_descent.ensures c.frames-frames.ensures c.args.page c.requires.named c.requires.warm).below s why f d)
    c.frame_for.ensures.cause c.frame_for.ensures.cold

pub returns-clause-fed : goal.returns-clause-fed
returns-clause-fed g c well =
    let s = g.P.Part.story c.args.dev.now in
    let p = paged (g.R.Rows.shape c.reach.new.rows) (g.R.Rows.view c.reach.new.seat) c.args.pager.now in
    let q = paged (g.R.Rows.shape c.frame_for.new.rows) (g.R.Rows.view c.frame_for.new.seat) c.frame_for.new.self in
    let f = fed_now c.reach.ensures.fits.1 c.requires.paged c.every_sequel.ensures c.in-Leaf.ensures.went.ran c.reach.ensures.fits.2 s c.requires.fed in
    let m = moved_if c.reach.new.path c.args.page c.frame_for.result c.frame_for.ensures.ok c.frame_for.ensures.err in
    fed_on p q s (g.P.Part.story c.frame_for.new.dev) m.goes.ran.given c.frame_for.ensures.mirrors c.frame_for.ensures.frame well f

pub returns-clause-disk : goal.returns-clause-disk
returns-clause-disk g c =
    let v = g.R.Rows.view c.args.seat.now in
    let w = g.R.Rows.view c.reach.new.seat in
    let u = g.R.Rows.view c.frame_for.new.seat in
    let k = c.args.pager.now in
    let old = g.P.Part.story c.args.dev.now in
    let new = g.P.Part.story c.frame_for.new.dev in
    disk_from (c.every_disk_sequel.ensures c.args.dev.now c.args.dev.now c.frame_for.new.dev) c.requires.well
    (c.every_disk_rest.ensures (g.R.Rows.shape c.args.rows.now).alone v w k c.in-Leaf.ensures.went.ran) (subst (λ (z : Shape). Disked z.alone k w c.frame_for.new.self u old new) c.reach.ensures.fits.1 c.frame_for.ensures.disk)

pub returns-clause-reads : goal.returns-clause-reads
returns-clause-reads g c most m =
    let v = g.R.Rows.view c.args.seat.now in
    let w = g.R.Rows.view c.reach.new.seat in
    let u = g.R.Rows.view c.frame_for.new.seat in
    c.every_unsaved.ensures c.args.dev.now c.frame_for.new.dev most (g.R.Rows.shape c.args.rows.now) v u c.args.pager.now c.frame_for.new.self c.requires.paged.alone m
    ((c.every_area_sequel.ensures c.args.dev.now c.args.dev.now c.frame_for.new.dev).reads v w u c.args.pager.now c.frame_for.new.self c.requires.well
    (c.every_area_rest.ensures.reads v w c.args.pager.now (g.R.Rows.shape c.args.rows.now).alone c.in-Leaf.ensures.went.ran) c.frame_for.ensures.reads)

pub returns-clause-which : goal.returns-clause-which
returns-clause-which g c =
    which_if (g.R.Rows.shape c.reach.new.rows) c.reach.new.path (g.R.Rows.view c.reach.new.seat) c.args.pager.now c.args.page (g.P.Part.story c.args.dev.now) (g.R.Rows.view c.frame_for.new.seat) c.frame_for.new.self c.frame_for.result c.frame_for.ensures.cause
