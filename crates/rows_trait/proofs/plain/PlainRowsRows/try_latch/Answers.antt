use Rattle.std.proofs.Common.{◌≡◌, ◌≢◌, ◌+◌, true, refl, sym, ap, subst, ◌∙◌, ne_eqb, eq-eqb}
use Rattle.rows_trait.specs.declared.view.View.{View}
use Rattle.rows_trait.specs.Inside.{row_cells, tried}
use Rattle.rows_trait.specs.Layout.{row_at}
use Rattle.rows_trait.specs.Plain.{sizes}
use Rattle.rows_trait.specs.Views.{no_place}
use Rattle.rows_trait.specs.Turns.{Looked, Taken}
use Rattle.rows_trait.specs.Rule.{plan}
use Rattle.rows_trait.proofs.OneSeat.{plain_look, plain_take, word_at, picture_at, written_at}
use Rattle.rows_trait.proofs.plain.PlainRowsRows.try_latch.Goals as goal

pub returns-then-found-version-clause-fits : goal.returns-then-found-version-clause-fits
returns-then-found-version-clause-fits g c =
    let z = sizes c.args.self.now.frames c.args.self.now.locks c.args.self.now.workers in
    let k = plan z c.args.seat.now.view.given in
    let words = c.args.self.now.words.items in
    let v = c.args.seat.now.view in
    let names = g.E.Names.names c.args.event.now in
    let n = c.index-found.result.now in
    let cs = row_cells z words c.args.row in
    let is = word_at words c.place-place.result (row_at z c.args.row 0) n c.index-found.ensures c.place-place.ensures.1 c.place-place.ensures.0 in
    let ne : n ≢ c.args.version = c.if-found-version.true in
    let e = c.taken.ensures ∙ ap (tried v c.args.row c.args.version n cs (names n)) (ne_eqb n c.args.version ne) in
    let l = plain_look k words v c.requires.fits c.args.row n names c.requires.row is c.requires.event in
    picture_at z words c.taken.result.view _ e l.0

pub returns-then-found-version-clause-step : goal.returns-then-found-version-clause-step
returns-then-found-version-clause-step g c =
    let z = sizes c.args.self.now.frames c.args.self.now.locks c.args.self.now.workers in
    let k = plan z c.args.seat.now.view.given in
    let words = c.args.self.now.words.items in
    let v = c.args.seat.now.view in
    let names = g.E.Names.names c.args.event.now in
    let n = c.index-found.result.now in
    let cs = row_cells z words c.args.row in
    let is = word_at words c.place-place.result (row_at z c.args.row 0) n c.index-found.ensures c.place-place.ensures.1 c.place-place.ensures.0 in
    let ne : n ≢ c.args.version = c.if-found-version.true in
    let e = c.taken.ensures ∙ ap (tried v c.args.row c.args.version n cs (names n)) (ne_eqb n c.args.version ne) in
    let l = plain_look k words v c.requires.fits c.args.row n names c.requires.row is c.requires.event in
    let P : View → Type 0 = λ w. Looked (record { sizes = z; alone = true; place = no_place }) c.args.row names v n w in
    record { looked = subst P (sym e) l.1; other = ne }

pub returns-clause-fits : goal.returns-clause-fits
returns-clause-fits g c =
    let z = sizes c.args.self.now.frames c.args.self.now.locks c.args.self.now.workers in
    let k = plan z c.args.seat.now.view.given in
    let words = c.args.self.now.words.items in
    let v = c.args.seat.now.view in
    let names = g.E.Names.names c.args.event.now in
    let n = c.index-found.result.now in
    let cs = row_cells z words c.args.row in
    let is = word_at words c.place-place.result (row_at z c.args.row 0) n c.index-found.ensures c.place-place.ensures.1 c.place-place.ensures.0 in
    let same : n ≡ c.args.version = c.if-found-version.false in
    let e = c.taken-2.ensures ∙ (ap (tried v c.args.row c.args.version n cs (names n)) (eq-eqb n c.args.version same) ∙ ap (λ x. tried v c.args.row c.args.version x cs (names x) true) same) in
    let l = plain_take k words v c.requires.fits c.args.row c.args.version names c.requires.row c.requires.version.0 c.requires.version.1 (sym is ∙ same) c.requires.event in
    picture_at z _ c.taken-2.result.view _ e (written_at k words c.place-place.result (row_at z c.args.row 0) (c.args.version + 1) (c.args.version + 1) _ c.place-place.ensures.0 refl l.0)

pub returns-clause-step : goal.returns-clause-step
returns-clause-step g c =
    let z = sizes c.args.self.now.frames c.args.self.now.locks c.args.self.now.workers in
    let k = plan z c.args.seat.now.view.given in
    let words = c.args.self.now.words.items in
    let v = c.args.seat.now.view in
    let names = g.E.Names.names c.args.event.now in
    let n = c.index-found.result.now in
    let cs = row_cells z words c.args.row in
    let is = word_at words c.place-place.result (row_at z c.args.row 0) n c.index-found.ensures c.place-place.ensures.1 c.place-place.ensures.0 in
    let same : n ≡ c.args.version = c.if-found-version.false in
    let e = c.taken-2.ensures ∙ (ap (tried v c.args.row c.args.version n cs (names n)) (eq-eqb n c.args.version same) ∙ ap (λ x. tried v c.args.row c.args.version x cs (names x) true) same) in
    let l = plain_take k words v c.requires.fits c.args.row c.args.version names c.requires.row c.requires.version.0 c.requires.version.1 (sym is ∙ same) c.requires.event in
    let P : View → Type 0 = λ w. Taken (record { sizes = z; alone = true; place = no_place }) c.args.row c.args.version names v w in
    subst P (sym e) l.1
