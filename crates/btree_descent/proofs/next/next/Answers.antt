use Rattle.std.proofs.Common.{◌∙◌, ap, sym, subst}
use Rattle.lean_proto.specs.rows_trait.Views.{Shape}
use Rattle.btree_descent.specs.Inside.{AtLeaf}
use Rattle.btree_descent.specs.declared.next.Following.{Following}
use Rattle.btree_descent.specs.Nexts.{IsWalked, IsMet, WalkCaused}
use Rattle.btree_descent.proofs.Telling.{may_on, walked_before, stop_walked, stop_caused, stop_met}
use Rattle.btree_descent.proofs.next.next.Goals as goal

pub tell-requires-clause-leaf : goal.tell-requires-clause-leaf
tell-requires-clause-leaf g c =
    subst (λ (s : Shape). AtLeaf s (g.R.Rows.view c.way.new.seat) c.args.worker c.args.frames c.args.key c.in-Ok.leaf.glimpse c.in-Ok.leaf.head) (sym c.in-Ok.ensures.fits.1) c.in-Ok.ensures.leaf.leaf

pub tell-requires-clause-may : goal.tell-requires-clause-may
tell-requires-clause-may g c = may_on c.requires.actor c.in-Ok.ensures.leaf.ran c.requires.may

pub returns-in-Ok-clause-fits : goal.returns-in-Ok-clause-fits
returns-in-Ok-clause-fits g c = (c.tell.ensures.fits.0, c.tell.ensures.fits.1 ∙ c.in-Ok.ensures.fits.1, c.tell.ensures.fits.2 ∙ c.in-Ok.ensures.leaf.held)

pub returns-in-Ok-clause-walked : goal.returns-in-Ok-clause-walked
returns-in-Ok-clause-walked g c =
    let u = g.R.Rows.view c.way.new.seat in
    let w = g.R.Rows.view c.tell.new.seat in
    walked_before w c.args.worker c.args.key (g.H.Locked.locked c.args.locks.now) c.tell.result c.in-Ok.ensures.leaf.ran (subst (λ (s : Shape). IsWalked s.alone c.args.worker c.args.key (g.H.Locked.locked c.args.locks.now) u c.tell.result w) c.in-Ok.ensures.fits.1 c.tell.ensures.walked)

pub returns-in-Ok-clause-cause : goal.returns-in-Ok-clause-cause
returns-in-Ok-clause-cause g c = c.tell.ensures.cause (g.R.Rows.view c.args.seat.now) c.in-Ok.ensures.leaf.found

pub returns-in-Ok-clause-quiet : goal.returns-in-Ok-clause-quiet
returns-in-Ok-clause-quiet g c alone none = c.tell.ensures.quiet (ap (λ (s : Shape). s.alone) c.in-Ok.ensures.fits.1 ∙ alone) (c.in-Ok.ensures.leaf.latest alone none)

pub returns-in-Err-clause-fits : goal.returns-in-Err-clause-fits
returns-in-Err-clause-fits g c = (c.in-Err.ensures.fits.0, c.in-Err.ensures.fits.1, c.in-Err.ensures.stop.held)

pub returns-in-Err-clause-walked : goal.returns-in-Err-clause-walked
returns-in-Err-clause-walked g c = subst (λ (n : Following). IsWalked (g.R.Rows.shape c.args.rows.now).alone c.args.worker c.args.key (g.H.Locked.locked c.args.locks.now) (g.R.Rows.view c.args.seat.now) n (g.R.Rows.view c.way.new.seat)) (sym c.next_of.ensures) (stop_walked (g.R.Rows.shape c.args.rows.now).alone (g.R.Rows.view c.args.seat.now) (g.R.Rows.view c.way.new.seat) c.args.worker c.args.key (g.H.Locked.locked c.args.locks.now) c.in-Err.stop c.in-Err.ensures.stop.went)

pub returns-in-Err-clause-cause : goal.returns-in-Err-clause-cause
returns-in-Err-clause-cause g c = subst (λ (n : Following). WalkCaused (g.R.Rows.view c.args.seat.now) n (g.R.Rows.view c.way.new.seat)) (sym c.next_of.ensures) (stop_caused (g.R.Rows.view c.args.seat.now) (g.R.Rows.view c.way.new.seat) c.in-Err.stop c.in-Err.ensures.stop.cause)

pub returns-in-Err-clause-quiet : goal.returns-in-Err-clause-quiet
returns-in-Err-clause-quiet g c alone none = subst IsMet (sym c.next_of.ensures) (stop_met c.in-Err.stop (c.in-Err.ensures.stop.quiet alone none))
