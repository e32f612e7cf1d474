use Rattle.std.proofs.lemmas.Result.{IfOk-weaker, IfErr-weaker}
use Rattle.std.proofs.lemmas.Bool.{cond-true, lt-ltb}
use Rattle.std.proofs.Common.{ltb}
use Rattle.btree_descent.specs.rows_trait.Views.{may}
use Rattle.btree_descent.proofs.version_latch.Naming.{checked_silent}
use Rattle.row_image.proofs.Sighting.{unheld, never_moved, has_taken}
use Rattle.row_image.proofs.frame.take.Goals as goal

pub upgrade-requires-clause-event : goal.upgrade-requires-clause-event
upgrade-requires-clause-event g c n =
    let v = g.R.Rows.view c.args.seat.now in
    checked_silent (may (g.R.Rows.shape c.args.rows.now).alone v) v.given c.args.actor c.args.sight.now.glimpse.version n c.requires.actor

pub returns-clause-answer : goal.returns-clause-answer
returns-clause-answer g c =
    let y = g.R.Rows.shape c.args.rows.now in
    let v = g.R.Rows.view c.args.seat.now in
    let w = g.R.Rows.view c.upgrade.new.seat in
    let s = c.args.sight.now in
    let wide = cond-true (ltb s.glimpse.row y.sizes.frames) 128 5 (lt-ltb s.glimpse.row y.sizes.frames c.requires.frame.0) in
    IfOk-weaker c.upgrade.result _ _ (λ h k. (k.0, has_taken y v w c.args.actor s k.1 wide c.requires.frame.1 c.requires.sound c.requires.known)) c.upgrade.ensures.ok

pub returns-clause-cause : goal.returns-clause-cause
returns-clause-cause g c = IfErr-weaker c.upgrade.result _ _ (λ why k. unheld (g.R.Rows.shape c.args.rows.now) (g.R.Rows.view c.args.seat.now) (g.R.Rows.view c.upgrade.new.seat) c.args.actor c.args.sight.now c.requires.actor why k) c.upgrade.ensures.err

pub returns-clause-quiet : goal.returns-clause-quiet
returns-clause-quiet g c = IfErr-weaker c.upgrade.result _ _ (λ why k. never_moved (g.R.Rows.shape c.args.rows.now) (g.R.Rows.view c.args.seat.now) (g.R.Rows.view c.upgrade.new.seat) c.args.actor c.args.sight.now why k) c.upgrade.ensures.err
