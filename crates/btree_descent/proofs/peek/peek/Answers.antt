use Rattle.std.proofs.Common.{◌∙◌, ap, sym, subst}
use Rattle.lean_proto.specs.rows_trait.Views.{Shape}
use Rattle.btree_descent.specs.Inside.{AtLeaf}
use Rattle.btree_descent.specs.Peeks.{Went, Caused, IsSettled}
use Rattle.btree_descent.specs.declared.peek.Peeked.{Peeked}
use Rattle.btree_descent.proofs.Peeking.{went_on, went_short, caused_short, settled_short}
use Rattle.btree_descent.proofs.peek.peek.Goals as goal

pub look-requires-clause-leaf : goal.look-requires-clause-leaf
look-requires-clause-leaf g c =
    subst (λ (s : Shape). AtLeaf s (g.R.Rows.view c.way.new.seat) c.args.worker c.args.frames c.args.key c.in-Ok.leaf.glimpse c.in-Ok.leaf.head) (sym c.in-Ok.ensures.fits.1) c.in-Ok.ensures.leaf.leaf

pub returns-in-Ok-clause-went : goal.returns-in-Ok-clause-went
returns-in-Ok-clause-went g c =
    let u = g.R.Rows.view c.way.new.seat in
    let w = g.R.Rows.view c.look.new.seat in
    went_on (g.R.Rows.shape c.args.rows.now).alone c.args.worker c.args.key (g.R.Rows.view c.args.seat.now) u w c.look.result c.in-Ok.ensures.leaf.ran
    (subst (λ (s : Shape). Went s.alone c.args.worker c.args.key u c.look.result w) c.in-Ok.ensures.fits.1 c.look.ensures.went)

pub way-requires-clause-fits : goal.way-requires-clause-fits
way-requires-clause-fits g c = c.requires.fits

pub way-requires-clause-sized : goal.way-requires-clause-sized
way-requires-clause-sized g c = c.requires.sized

pub way-requires-clause-actor : goal.way-requires-clause-actor
way-requires-clause-actor g c = c.requires.actor

pub way-requires-clause-sound : goal.way-requires-clause-sound
way-requires-clause-sound g c = c.requires.sound

pub way-requires-clause-key : goal.way-requires-clause-key
way-requires-clause-key g c = c.requires.key

pub look-requires-clause-fits : goal.look-requires-clause-fits
look-requires-clause-fits g c = c.in-Ok.ensures.fits.0

pub returns-in-Ok-clause-fits : goal.returns-in-Ok-clause-fits
returns-in-Ok-clause-fits g c = (c.look.ensures.fits.0, c.look.ensures.fits.1 ∙ c.in-Ok.ensures.fits.1, c.look.ensures.fits.2 ∙ c.in-Ok.ensures.leaf.held)

pub returns-in-Ok-clause-cause : goal.returns-in-Ok-clause-cause
returns-in-Ok-clause-cause g c = c.look.ensures.cause (g.R.Rows.view c.args.seat.now) c.in-Ok.ensures.leaf.found

pub returns-in-Ok-clause-quiet : goal.returns-in-Ok-clause-quiet
returns-in-Ok-clause-quiet g c alone none = c.look.ensures.quiet (ap (λ (s : Shape). s.alone) c.in-Ok.ensures.fits.1 ∙ alone) (c.in-Ok.ensures.leaf.latest alone none)

pub returns-in-Err-clause-fits : goal.returns-in-Err-clause-fits
returns-in-Err-clause-fits g c = (c.in-Err.ensures.fits.0, c.in-Err.ensures.fits.1, c.in-Err.ensures.stop.held)

pub returns-in-Err-clause-went : goal.returns-in-Err-clause-went
returns-in-Err-clause-went g c =
    let v = g.R.Rows.view c.args.seat.now in
    let w = g.R.Rows.view c.way.new.seat in
    let alone = (g.R.Rows.shape c.args.rows.now).alone in
    subst (λ (a : Peeked). Went alone c.args.worker c.args.key v a w) (sym c.peeked_of.ensures) (went_short alone c.args.worker c.args.key v c.in-Err.stop w c.in-Err.ensures.stop.went)

pub returns-in-Err-clause-cause : goal.returns-in-Err-clause-cause
returns-in-Err-clause-cause g c =
    let v = g.R.Rows.view c.args.seat.now in
    let w = g.R.Rows.view c.way.new.seat in
    subst (λ (a : Peeked). Caused v a w) (sym c.peeked_of.ensures) (caused_short v c.in-Err.stop w c.in-Err.ensures.stop.cause)

pub returns-in-Err-clause-quiet : goal.returns-in-Err-clause-quiet
returns-in-Err-clause-quiet g c alone none = subst IsSettled (sym c.peeked_of.ensures) (settled_short c.in-Err.stop (c.in-Err.ensures.stop.quiet alone none))
