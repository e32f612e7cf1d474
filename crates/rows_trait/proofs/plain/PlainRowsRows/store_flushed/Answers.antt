use Rattle.std.proofs.Common.{ℕ, List, [], true, sym, subst}
use Rattle.rows_trait.specs.declared.view.View.{View}
use Rattle.rows_trait.specs.Inside.{after}
use Rattle.rows_trait.specs.Plain.{sizes}
use Rattle.rows_trait.specs.Views.{no_place}
use Rattle.rows_trait.specs.Turns.{Synced}
use Rattle.rows_trait.specs.Rule.{plan, IsPicture}
use Rattle.rows_trait.proofs.OneSeat.{plain_sync, picture_at}
use Rattle.rows_trait.proofs.plain.PlainRowsRows.store_flushed.Goals as goal

pub returns-clause-fits : goal.returns-clause-fits
returns-clause-fits g c =
    let z = sizes c.args.self.now.frames c.args.self.now.locks c.args.self.now.workers in
    let k = plan z c.args.seat.now.view.given in
    let words = c.args.self.now.words.items in
    let v = c.args.seat.now.view in
    let es = g.E.Names.names c.args.event.now c.args.number in
    let l = plain_sync k words v c.requires.fits c.args.number es c.requires.event in
    picture_at z _ c.turned.result.view _ c.turned.ensures (subst (λ (ws : List ℕ). IsPicture k ws (after v [] es v.steps v.held)) (sym c.set_flushed.ensures.set) l.0)

pub returns-clause-step : goal.returns-clause-step
returns-clause-step g c =
    let z = sizes c.args.self.now.frames c.args.self.now.locks c.args.self.now.workers in
    let k = plan z c.args.seat.now.view.given in
    let words = c.args.self.now.words.items in
    let v = c.args.seat.now.view in
    let es = g.E.Names.names c.args.event.now c.args.number in
    let P : View → Type 0 = λ w. Synced (record { sizes = z; alone = true; place = no_place }) c.args.number es v w in
    subst P (sym c.turned.ensures) (plain_sync k words v c.requires.fits c.args.number es c.requires.event).1
