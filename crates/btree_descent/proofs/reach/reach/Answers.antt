use Rattle.std.proofs.Common.{◌∙◌, [], ◌∷◌, ap, refl, sym, subst}
use Rattle.lean_proto.specs.row_words.declared.event.Event.TheVariants.{Miss}
use Rattle.lean_proto.specs.rows_trait.Views.{Shape}
use Rattle.lean_proto.specs.rows_trait.Turns.{Ran}
use Rattle.lean_proto.proofs.rows_trait.Runs.{ran_append}
use Rattle.btree_descent.specs.declared.reach.Way.{Way}
use Rattle.btree_descent.specs.declared.reach.Way.TheVariants.{Leaf, Moved}
use Rattle.btree_descent.specs.Inside.{IsOn}
use Rattle.btree_descent.specs.Reaches.{CameThere, IsSettledWay, WayCaused, WentThere}
use Rattle.btree_descent.proofs.Reaching.{came_on, came_short, caused_way, met_leaf, settled_way, went_way}
use Rattle.btree_descent.proofs.Trails.{later_ran}
use Rattle.btree_descent.proofs.reach.reach.Goals as goal

pub way-requires-clause-fits : goal.way-requires-clause-fits
way-requires-clause-fits g c = c.requires.fits

pub way-requires-clause-sized : goal.way-requires-clause-sized
way-requires-clause-sized g c = c.requires.sized

pub way-requires-clause-actor : goal.way-requires-clause-actor
way-requires-clause-actor g c = c.requires.actor

pub way-requires-clause-sound : goal.way-requires-clause-sound
way-requires-clause-sound g c = c.requires.sound

pub way-requires-clause-key : goal.way-requires-clause-key
way-requires-clause-key g c = c.requires.key

pub way-requires-clause-trace : goal.way-requires-clause-trace
way-requires-clause-trace g c = c.requires.path

pub again-requires-clause-fits : goal.again-requires-clause-fits
again-requires-clause-fits g c = c.in-Ok.ensures.fits.0

pub again-requires-clause-on : goal.again-requires-clause-on
again-requires-clause-on g c = subst (λ (s : Shape). IsOn s (g.R.Rows.view c.way.new.seat) c.args.worker c.args.frames c.args.key c.in-Ok.leaf.glimpse) (sym c.in-Ok.ensures.fits.1) c.in-Ok.ensures.leaf.leaf.on

pub returns-in-Ok-again-clause-fits : goal.returns-in-Ok-again-clause-fits
returns-in-Ok-again-clause-fits g c = (c.in-Ok-again.ensures.fits.0, c.in-Ok-again.ensures.fits.1 ∙ c.in-Ok.ensures.fits.1, c.in-Ok-again.ensures.ok.looked.held ∙ c.in-Ok.ensures.leaf.held)

pub returns-in-Ok-again-clause-went : goal.returns-in-Ok-again-clause-went
returns-in-Ok-again-clause-went g c =
    met_leaf (g.R.Rows.shape c.args.rows.now) (g.R.Rows.shape c.way.new.rows) c.args.worker c.args.frames c.args.key (g.R.Rows.view c.args.seat.now) (g.R.Rows.view c.way.new.seat) (g.R.Rows.view c.again.new.seat) c.in-Ok.leaf
    c.in-Ok.ensures.fits.1 c.in-Ok.ensures.leaf c.in-Ok-again.ensures.ok

pub returns-in-Ok-again-clause-came : goal.returns-in-Ok-again-clause-came
returns-in-Ok-again-clause-came g c =
    let y = g.R.Rows.shape c.args.rows.now in
    let u = g.R.Rows.view c.way.new.seat in
    let w = g.R.Rows.view c.again.new.seat in
    let row = c.in-Ok.leaf.glimpse.row in
    came_on y.alone c.args.frames c.args.key row c.way.new.trace (g.R.Rows.view c.args.seat.now) u w (Leaf row)
    (later_ran y.alone u [] w (subst (λ (z : Shape). Ran z.alone u [] w) c.in-Ok.ensures.fits.1 c.in-Ok-again.ensures.ok.ran)) c.in-Ok.ensures.trail refl

pub returns-in-Err-again-clause-fits : goal.returns-in-Err-again-clause-fits
returns-in-Err-again-clause-fits g c = (c.in-Err-again.ensures.fits.0, c.in-Err-again.ensures.fits.1 ∙ c.in-Ok.ensures.fits.1, c.in-Err-again.ensures.err.held ∙ c.in-Ok.ensures.leaf.held)

pub returns-in-Err-again-clause-went : goal.returns-in-Err-again-clause-went
returns-in-Err-again-clause-went g c =
    let y = g.R.Rows.shape c.args.rows.now in
    let v = g.R.Rows.view c.args.seat.now in
    let u = g.R.Rows.view c.way.new.seat in
    let w = g.R.Rows.view c.again.new.seat in
    ran_append y.alone v [] u (Miss c.args.worker ∷ []) w c.in-Ok.ensures.leaf.ran (subst (λ (z : Shape). Ran z.alone u (Miss c.args.worker ∷ []) w) c.in-Ok.ensures.fits.1 c.in-Err-again.ensures.err.went)

pub returns-in-Err-again-clause-came : goal.returns-in-Err-again-clause-came
returns-in-Err-again-clause-came g c =
    let y = g.R.Rows.shape c.args.rows.now in
    let u = g.R.Rows.view c.way.new.seat in
    let w = g.R.Rows.view c.again.new.seat in
    came_on y.alone c.args.frames c.args.key c.in-Ok.leaf.glimpse.row c.way.new.trace (g.R.Rows.view c.args.seat.now) u w (Moved c.in-Err-again.moved)
    (later_ran y.alone u (Miss c.args.worker ∷ []) w (subst (λ (z : Shape). Ran z.alone u (Miss c.args.worker ∷ []) w) c.in-Ok.ensures.fits.1 c.in-Err-again.ensures.err.went)) c.in-Ok.ensures.trail tt

pub returns-in-Err-again-clause-cause : goal.returns-in-Err-again-clause-cause
returns-in-Err-again-clause-cause g c = c.in-Err-again.ensures.err.cause (g.R.Rows.view c.args.seat.now) c.in-Ok.ensures.leaf.found

pub returns-in-Err-again-clause-quiet : goal.returns-in-Err-again-clause-quiet
returns-in-Err-again-clause-quiet g c alone none =
    c.in-Err-again.ensures.err.quiet (ap (λ (s : Shape). s.alone) c.in-Ok.ensures.fits.1 ∙ alone) (c.in-Ok.ensures.leaf.held ∙ none) (c.in-Ok.ensures.leaf.latest alone none)

pub returns-in-Err-clause-fits : goal.returns-in-Err-clause-fits
returns-in-Err-clause-fits g c = (c.in-Err.ensures.fits.0, c.in-Err.ensures.fits.1, c.in-Err.ensures.stop.held)

pub returns-in-Err-clause-went : goal.returns-in-Err-clause-went
returns-in-Err-clause-went g c =
    let y = g.R.Rows.shape c.args.rows.now in
    let v = g.R.Rows.view c.args.seat.now in
    let w = g.R.Rows.view c.way.new.seat in
    subst (λ (a : Way). WentThere y.alone c.args.worker c.args.key v a w) (sym c.way_of.ensures) (went_way y.alone c.args.worker c.args.key v w c.in-Err.stop c.in-Err.ensures.stop.went)

pub returns-in-Err-clause-came : goal.returns-in-Err-clause-came
returns-in-Err-clause-came g c =
    let y = g.R.Rows.shape c.args.rows.now in
    let v = g.R.Rows.view c.args.seat.now in
    let w = g.R.Rows.view c.way.new.seat in
    subst (λ (a : Way). CameThere y.alone c.args.frames c.args.key c.way.new.trace v a w) (sym c.way_of.ensures) (came_short y.alone c.args.frames c.args.key c.way.new.trace v w c.in-Err.stop c.in-Err.ensures.part)

pub returns-in-Err-clause-cause : goal.returns-in-Err-clause-cause
returns-in-Err-clause-cause g c =
    let v = g.R.Rows.view c.args.seat.now in
    let w = g.R.Rows.view c.way.new.seat in
    subst (λ (a : Way). WayCaused v a w) (sym c.way_of.ensures) (caused_way v w c.in-Err.stop c.in-Err.ensures.stop.cause)

pub returns-in-Err-clause-quiet : goal.returns-in-Err-clause-quiet
returns-in-Err-clause-quiet g c alone none = subst IsSettledWay (sym c.way_of.ensures) (settled_way c.in-Err.stop (c.in-Err.ensures.stop.quiet alone none))
