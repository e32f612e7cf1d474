use Rattle.std.proofs.Common.{◌≡◌, sym, ◌∙◌, subst}
use Rattle.rows_trait.specs.Layout.{Sizes}
use Rattle.rows_trait.specs.Plain.{sizes}
use Rattle.rows_trait.specs.Rule.{plan}
use Rattle.rows_trait.specs.Turns.{Heard}
use Rattle.shared_rows.specs.Ruled.{MayTell}
use Rattle.shared_rows.proofs.Allowed.{shape_of, may_hear}
use Rattle.shared_rows.proofs.shared.SharedRefRows.load_control.Goals as goal

pub load-requires-clause-rule : goal.load-requires-clause-rule
load-requires-clause-rule g c =
    let r = c.args.self.now.0.now in
    let key = r.table.shared.key in
    let given = key.trace.view.given in
    let z = sizes r.frames r.locks r.workers in
    let k = plan z given in
    let id = r.table.shared.table_id in
    let v = c.args.seat.now.me.0 in
    let z_is : z ≡ sizes key.frames key.locks key.workers = (λ i. sizes (sym r.frames_key i) (sym r.locks_key i) (sym r.workers_key i)) in
    let P : Sizes → Type 0 = λ y. MayTell (plan y given) id.slots c.args.seat.now.id v c.control.result (λ n. n) (Heard (shape_of k id) c.args.control c.args.word (g.E.Names.names c.args.event.now) v) in
    subst P z_is (may_hear k id id.slots c.args.seat.now.id v c.control.result c.args.control c.args.word c.requires.fits.2 c.requires.place.0 c.requires.place.1 c.control.ensures.0 (g.E.Names.names c.args.event.now) c.requires.event c.requires.tame)

pub returns-clause-fits : goal.returns-clause-fits
returns-clause-fits g c = (c.load.ensures.own.0 ∙ c.requires.fits.0, c.load.ensures.own.1, c.load.ensures.told.goes.live ∙ c.requires.fits.2, c.load.ensures.low)
