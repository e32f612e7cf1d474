use Rattle.std.proofs.Common.{[], ◌∷◌, arith, subst, sym}
use Rattle.lean_proto.specs.row_words.declared.event.Event.TheVariants.{Enter}
use Rattle.lean_proto.specs.rows_trait.Views.{Shape}
use Rattle.lean_proto.specs.rows_trait.Turns.{MayTurn, Turned}
use Rattle.epochs.proofs.Entering.{enter_ready, has_entered}
use Rattle.epochs.proofs.inside.enter.Goals as goal

pub store_control-requires-clause-event : goal.store_control-requires-clause-event
store_control-requires-clause-event g c =
    let z = g.R.Rows.shape c.args.rows.now in
    let v = g.R.Rows.view c.args.seat.now in
    let u = g.R.Rows.view c.load_control-loaded.new.seat in
    let e = c.local_of-epoch.result in
    let b = c.local_of-epoch.ensures in
    subst (λ (s : Shape). MayTurn s c.args.worker 2 (λ _. e) (λ _. Enter c.args.worker e ∷ []) u) (sym c.load_control-loaded.ensures.shape)
    ((c.every_epoch.ensures z u c.args.worker).enter e (enter_ready c.every_epoch.ensures z v c.args.worker c.requires.outside c.load_control-loaded.result e u c.load_control-loaded.ensures.step b.old b.small))

pub returns-clause-after : goal.returns-clause-after
returns-clause-after g c =
    let z = g.R.Rows.shape c.args.rows.now in
    let v = g.R.Rows.view c.args.seat.now in
    let u = g.R.Rows.view c.load_control-loaded.new.seat in
    let x = g.R.Rows.view c.store_control.new.seat in
    let e = c.local_of-epoch.result in
    let b = c.local_of-epoch.ensures in
    let s = c.store_control.ensures.step in
    has_entered c.every_epoch.ensures z v c.args.worker c.requires.outside c.load_control-loaded.result e u c.load_control-loaded.ensures.step b.old b.small b.same (λ ge. let q = b.last ge in omega arith) s.0 x
    (subst (λ (y : Shape). Turned y c.args.worker 2 (λ _. e) (λ _. Enter c.args.worker e ∷ []) u s.0 x) c.load_control-loaded.ensures.shape s.1)
