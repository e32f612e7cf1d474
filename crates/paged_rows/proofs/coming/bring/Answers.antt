use Rattle.std.proofs.Common.{◌≡◌, ◌∙◌, arith, ap, subst, sym}
use Rattle.std.proofs.lemmas.Result.{err_from_is_err_and}
use Rattle.page_provider.specs.declared.refusal.Refusal.{Refusal}
use Rattle.page_provider.specs.Disks.{Disked}
use Rattle.page_provider.specs.Providers.{Keeps}
use Rattle.btree_descent.specs.rows_trait.Views.{Shape}
use Rattle.paged_rows.specs.Paged.{paged}
use Rattle.paged_rows.specs.declared.wanted.Wanted.TheVariants as want
use Rattle.paged_rows.specs.Warms.{IsRefusedTo, LostTo}
use Rattle.paged_rows.proofs.Warming.{descent_is, disk_from, fed_now, fed_on, has_come, if_err, leads_is, leaf_met, lost_to, paged_now, refused_to, wanted_is}
use Rattle.paged_rows.proofs.coming.bring.Goals as goal

pub returns-in-Leaf-clause-paged : goal.returns-in-Leaf-clause-paged
returns-in-Leaf-clause-paged g c = paged_now c.reach.ensures.fits.1 c.requires.paged c.every_sequel.ensures c.in-Leaf.ensures.went.ran c.reach.ensures.fits.2

pub returns-in-Leaf-clause-ok : goal.returns-in-Leaf-clause-ok
returns-in-Leaf-clause-ok g c = leaf_met c.reach.ensures.fits.1 c.requires.paged c.every_sequel.ensures c.in-Leaf.ensures.went.ran c.reach.ensures.fits.2 c.every_warm.ensures c.in-Leaf.ensures.went

pub returns-in-Leaf-clause-disk : goal.returns-in-Leaf-clause-disk
returns-in-Leaf-clause-disk g c =
    c.every_disk_rest.ensures (g.R.Rows.shape c.args.rows.now).alone (g.R.Rows.view c.args.seat.now) (g.R.Rows.view c.reach.new.seat) c.args.pager.now c.in-Leaf.ensures.went.ran

pub returns-in-Leaf-clause-fed : goal.returns-in-Leaf-clause-fed
returns-in-Leaf-clause-fed g c well =
    fed_now c.reach.ensures.fits.1 c.requires.paged c.every_sequel.ensures c.in-Leaf.ensures.went.ran c.reach.ensures.fits.2 (g.P.Part.story c.args.dev.now) c.requires.fed

pub overflow_cast-page : goal.overflow_cast-page
overflow_cast-page g c =
    let w = g.R.Rows.view c.reach.new.seat in
    let few = ((paged_now c.reach.ensures.fits.1 c.requires.paged c.every_sequel.ensures c.in-Cold.ensures.went.ran c.reach.ensures.fits.2).keeps.sound w.seen).few in
    let below = c.in-Cold.ensures.went.cold.below in
    omega arith

pub frame_for-requires-clause-keeps : goal.frame_for-requires-clause-keeps
frame_for-requires-clause-keeps g c = (paged_now c.reach.ensures.fits.1 c.requires.paged c.every_sequel.ensures c.in-Cold.ensures.went.ran c.reach.ensures.fits.2).keeps

pub frame_for-requires-clause-wanted : goal.frame_for-requires-clause-wanted
frame_for-requires-clause-wanted g c =
    wanted_is c.reach.ensures.fits.1 c.requires.paged c.every_sequel.ensures c.in-Cold.ensures.went.ran c.reach.ensures.fits.2 c.in-Cold.ensures.came c.every_descent.ensures c.frames-frames.ensures

pub frame_for-requires-clause-descent : goal.frame_for-requires-clause-descent
frame_for-requires-clause-descent g c =
    descent_is c.reach.ensures.fits.1 c.requires.paged c.every_sequel.ensures c.in-Cold.ensures.went.ran c.reach.ensures.fits.2 c.in-Cold.ensures.came c.every_descent.ensures c.frames-frames.ensures

pub frame_for-requires-clause-leads : goal.frame_for-requires-clause-leads
frame_for-requires-clause-leads g c =
    leads_is c.reach.ensures.fits.1 c.requires.paged c.every_sequel.ensures c.in-Cold.ensures.went.ran c.reach.ensures.fits.2 c.in-Cold.ensures.came c.every_descent.ensures c.frames-frames.ensures

pub frame_for-requires-clause-gives : goal.frame_for-requires-clause-gives
frame_for-requires-clause-gives g c faithful cold =
    let w = g.R.Rows.view c.reach.new.seat in
    let n = paged_now c.reach.ensures.fits.1 c.requires.paged c.every_sequel.ensures c.in-Cold.ensures.went.ran c.reach.ensures.fits.2 in
    let f = fed_now c.reach.ensures.fits.1 c.requires.paged c.every_sequel.ensures c.in-Cold.ensures.went.ran c.reach.ensures.fits.2 (g.P.Part.story c.args.dev.now) c.requires.fed faithful in
    c.every_mirrored_gives.ensures w c.args.pager.now c.in-Cold.page f.mirrored f.tells c.in-Cold.ensures.went.cold.below (sym c.pages-pages.ensures.slots ∙ (c.pages-pages.ensures.free ∙ n.keeps.pages))

pub returns-in_err-frame-clause-paged : goal.returns-in_err-frame-clause-paged
returns-in_err-frame-clause-paged g c =
    let h = c.in_err-frame.ensures.err in record {
      alone = ap (λ (z : Shape). z.alone) (c.frame_for.ensures.fits.1 ∙ c.reach.ensures.fits.1) ∙ c.requires.paged.alone;
      held = h.moved.goes.held;
      keeps = subst (λ (z : Shape). Keeps z (g.R.Rows.view c.frame_for.new.seat) c.frame_for.new.self) (sym c.frame_for.ensures.fits.1) h.moved.goes.keeps;
    }

pub returns-in_err-frame-clause-err : goal.returns-in_err-frame-clause-err
returns-in_err-frame-clause-err g c =
    let p = err_from_is_err_and c.from_residual.result c.from_residual.ensures.1 in
    let p2 = p.2 in
    let why = c.in_err-frame.field-0.0 in
    let e : why ≡ p.0 = cc in
    let was = paged (g.R.Rows.shape c.args.rows.now) (g.R.Rows.view c.args.seat.now) c.args.pager.now in
    let q = paged (g.R.Rows.shape c.frame_for.new.rows) (g.R.Rows.view c.frame_for.new.seat) c.frame_for.new.self in
    let P : Refusal → Type 0 = λ r. IsRefusedTo c.args.key want.Way was r q in
    if_err c.from_residual.result p.0 P p.1 (subst P e
    (refused_to c.reach.ensures.fits.1 c.requires.paged c.every_sequel.ensures c.in-Cold.ensures.went.ran c.reach.ensures.fits.2 c.in-Cold.ensures.came c.every_descent.ensures c.frames-frames.ensures (g.P.Part.story c.args.dev.now) why c.every_warm.ensures c.frame_for.ensures.fits.1 c.in_err-frame.ensures.err c.in_err-frame.ensures.cause))

pub returns-in_err-frame-clause-lost : goal.returns-in_err-frame-clause-lost
returns-in_err-frame-clause-lost g c =
    let p = err_from_is_err_and c.from_residual.result c.from_residual.ensures.1 in
    let p2 = p.2 in
    let why = c.in_err-frame.field-0.0 in
    let e : why ≡ p.0 = cc in
    let s = g.P.Part.story c.args.dev.now in
    let P : Refusal → Type 0 = LostTo (paged (g.R.Rows.shape c.args.rows.now) (g.R.Rows.view c.args.seat.now) c.args.pager.now) s in
    if_err c.from_residual.result p.0 P p.1 (subst P e
    (lost_to c.reach.ensures.fits.1 c.requires.paged c.every_sequel.ensures c.in-Cold.ensures.went.ran c.reach.ensures.fits.2 c.in-Cold.ensures.came c.every_descent.ensures c.frames-frames.ensures s why c.every_warm.ensures c.frame_for.ensures.fits.1 c.in_err-frame.ensures.err c.in_err-frame.ensures.cause c.in_err-frame.ensures.cold))

pub returns-in_err-frame-clause-fed : goal.returns-in_err-frame-clause-fed
returns-in_err-frame-clause-fed g c well =
    let s = g.P.Part.story c.args.dev.now in
    let p = paged (g.R.Rows.shape c.reach.new.rows) (g.R.Rows.view c.reach.new.seat) c.args.pager.now in
    let q = paged (g.R.Rows.shape c.frame_for.new.rows) (g.R.Rows.view c.frame_for.new.seat) c.frame_for.new.self in
    let f = fed_now c.reach.ensures.fits.1 c.requires.paged c.every_sequel.ensures c.in-Cold.ensures.went.ran c.reach.ensures.fits.2 s c.requires.fed in
    fed_on p q s (g.P.Part.story c.frame_for.new.dev) c.in_err-frame.ensures.err.moved.goes.ran.given c.frame_for.ensures.mirrors c.frame_for.ensures.frame well f

pub returns-in_err-frame-clause-disk : goal.returns-in_err-frame-clause-disk
returns-in_err-frame-clause-disk g c =
    let v = g.R.Rows.view c.args.seat.now in
    let w = g.R.Rows.view c.reach.new.seat in
    let u = g.R.Rows.view c.frame_for.new.seat in
    let k = c.args.pager.now in
    let old = g.P.Part.story c.args.dev.now in
    let new = g.P.Part.story c.frame_for.new.dev in
    disk_from (c.every_disk_sequel.ensures c.args.dev.now c.args.dev.now c.frame_for.new.dev) c.requires.well
    (c.every_disk_rest.ensures (g.R.Rows.shape c.args.rows.now).alone v w k c.in-Cold.ensures.went.ran) (subst (λ (z : Shape). Disked z.alone k w c.frame_for.new.self u old new) c.reach.ensures.fits.1 c.frame_for.ensures.disk)

pub returns-clause-paged : goal.returns-clause-paged
returns-clause-paged g c =
    let h = c.in_ok-frame.ensures.ok in record {
      alone = ap (λ (z : Shape). z.alone) (c.frame_for.ensures.fits.1 ∙ c.reach.ensures.fits.1) ∙ c.requires.paged.alone;
      held = h.moved.goes.held;
      keeps = subst (λ (z : Shape). Keeps z (g.R.Rows.view c.frame_for.new.seat) c.frame_for.new.self) (sym c.frame_for.ensures.fits.1) h.moved.goes.keeps;
    }

pub returns-clause-ok : goal.returns-clause-ok
returns-clause-ok g c =
    has_come c.reach.ensures.fits.1 c.requires.paged c.every_sequel.ensures c.in-Cold.ensures.went.ran c.reach.ensures.fits.2 c.in-Cold.ensures.came c.every_descent.ensures c.frames-frames.ensures c.frame_for.ensures.fits.1 c.in_ok-frame.ensures.ok

pub returns-clause-fed : goal.returns-clause-fed
returns-clause-fed g c well =
    let s = g.P.Part.story c.args.dev.now in
    let p = paged (g.R.Rows.shape c.reach.new.rows) (g.R.Rows.view c.reach.new.seat) c.args.pager.now in
    let q = paged (g.R.Rows.shape c.frame_for.new.rows) (g.R.Rows.view c.frame_for.new.seat) c.frame_for.new.self in
    let f = fed_now c.reach.ensures.fits.1 c.requires.paged c.every_sequel.ensures c.in-Cold.ensures.went.ran c.reach.ensures.fits.2 s c.requires.fed in
    fed_on p q s (g.P.Part.story c.frame_for.new.dev) c.in_ok-frame.ensures.ok.moved.goes.ran.given c.frame_for.ensures.mirrors c.frame_for.ensures.frame well f

pub returns-clause-disk : goal.returns-clause-disk
returns-clause-disk g c =
    let v = g.R.Rows.view c.args.seat.now in
    let w = g.R.Rows.view c.reach.new.seat in
    let u = g.R.Rows.view c.frame_for.new.seat in
    let k = c.args.pager.now in
    let old = g.P.Part.story c.args.dev.now in
    let new = g.P.Part.story c.frame_for.new.dev in
    disk_from (c.every_disk_sequel.ensures c.args.dev.now c.args.dev.now c.frame_for.new.dev) c.requires.well
    (c.every_disk_rest.ensures (g.R.Rows.shape c.args.rows.now).alone v w k c.in-Cold.ensures.went.ran) (subst (λ (z : Shape). Disked z.alone k w c.frame_for.new.self u old new) c.reach.ensures.fits.1 c.frame_for.ensures.disk)

-- ## The pages' area

pub returns-in-Leaf-clause-within : goal.returns-in-Leaf-clause-within
returns-in-Leaf-clause-within g c = c.every_area_rest.ensures.within

pub returns-in-Leaf-clause-reads : goal.returns-in-Leaf-clause-reads
returns-in-Leaf-clause-reads g c most m =
    c.every_unsaved.ensures c.args.dev.now c.args.dev.now most (g.R.Rows.shape c.args.rows.now) (g.R.Rows.view c.args.seat.now) (g.R.Rows.view c.reach.new.seat) c.args.pager.now c.args.pager.now c.requires.paged.alone m
    (c.every_area_rest.ensures.reads (g.R.Rows.view c.args.seat.now) (g.R.Rows.view c.reach.new.seat) c.args.pager.now (g.R.Rows.shape c.args.rows.now).alone c.in-Leaf.ensures.went.ran)

pub returns-in_err-frame-clause-reads : goal.returns-in_err-frame-clause-reads
returns-in_err-frame-clause-reads g c most m =
    let v = g.R.Rows.view c.args.seat.now in
    let w = g.R.Rows.view c.reach.new.seat in
    let u = g.R.Rows.view c.frame_for.new.seat in
    c.every_unsaved.ensures c.args.dev.now c.frame_for.new.dev most (g.R.Rows.shape c.args.rows.now) v u c.args.pager.now c.frame_for.new.self c.requires.paged.alone m
    ((c.every_area_sequel.ensures c.args.dev.now c.args.dev.now c.frame_for.new.dev).reads v w u c.args.pager.now c.frame_for.new.self c.requires.well
    (c.every_area_rest.ensures.reads v w c.args.pager.now (g.R.Rows.shape c.args.rows.now).alone c.in-Cold.ensures.went.ran) c.frame_for.ensures.reads)

pub returns-clause-reads : goal.returns-clause-reads
returns-clause-reads g c most m =
    let v = g.R.Rows.view c.args.seat.now in
    let w = g.R.Rows.view c.reach.new.seat in
    let u = g.R.Rows.view c.frame_for.new.seat in
    c.every_unsaved.ensures c.args.dev.now c.frame_for.new.dev most (g.R.Rows.shape c.args.rows.now) v u c.args.pager.now c.frame_for.new.self c.requires.paged.alone m
    ((c.every_area_sequel.ensures c.args.dev.now c.args.dev.now c.frame_for.new.dev).reads v w u c.args.pager.now c.frame_for.new.self c.requires.well
    (c.every_area_rest.ensures.reads v w c.args.pager.now (g.R.Rows.shape c.args.rows.now).alone c.in-Cold.ensures.went.ran) c.frame_for.ensures.reads)
