use Rattle.std.proofs.Common.{◌≡◌, ◌+◌, ◌%◌, ◌∙◌, ℕ, Bool, List, length, set, refl, sym, subst, true, false, true≢false}
use Rattle.lean_proto.specs.rows_trait.Views.{without}
use Rattle.key_locks.specs.Latching.{AreLatched}
use Rattle.key_locks.proofs.Marking.{marked_at, set_same, unmarking}
use Rattle.key_locks.proofs.latches.Latches.unlock.Goals as goal

pub returns-clause-tied : goal.returns-clause-tied
returns-clause-tied g c =
    let marks = c.args.self.now in
    let hs = (g.R.Rows.view c.args.seat.now).held in
    let ks = (g.R.Rows.view c.unlock_row.new.seat).held in
    subst (λ (l : List Bool). AreLatched c.args.frames (set l c.place-place.result false) ks) (sym c.self.view_is)
    (unmarking c.args.frames c.place-place.result marks hs ks c.place-place.ensures.1 c.unlock_row.ensures.fits.2 c.requires.tied).0

pub returns-clause-rest : goal.returns-clause-rest
returns-clause-rest g c =
    let marks = c.args.self.now in
    let hs = (g.R.Rows.view c.args.seat.now).held in
    let ks = (g.R.Rows.view c.unlock_row.new.seat).held in
    subst (λ (i : ℕ). without ks (c.args.frames + i) ≡ without hs (c.args.frames + i)) c.place-place.ensures.0
    (unmarking c.args.frames c.place-place.result marks hs ks c.place-place.ensures.1 c.unlock_row.ensures.fits.2 c.requires.tied).1

pub returns-then-not-index-clause-fits : goal.returns-then-not-index-clause-fits
returns-then-not-index-clause-fits g c = (c.requires.fits, refl)

pub returns-then-not-index-clause-tied : goal.returns-then-not-index-clause-tied
returns-then-not-index-clause-tied g c = c.requires.tied

pub returns-then-not-index-clause-marks : goal.returns-then-not-index-clause-marks
returns-then-not-index-clause-marks g c = sym (set_same c.args.self.now (c.args.key % length c.args.self.now) false (marked_at c.self.inside.marks.items c.args.self.now c.place-place.result (c.args.key % length c.args.self.now) c.index.result.now false c.self.view_is c.place-place.ensures.0 c.place-place.ensures.1 c.index.ensures c.if-not-index.true))

pub returns-then-not-index-clause-rest : goal.returns-then-not-index-clause-rest
returns-then-not-index-clause-rest g c = refl

pub returns-then-not-index-clause-nothing : goal.returns-then-not-index-clause-nothing
returns-then-not-index-clause-nothing g c m = refl

pub returns-then-not-index-clause-given_up : goal.returns-then-not-index-clause-given_up
returns-then-not-index-clause-given_up g c m = absurd (true≢false (sym m ∙ (marked_at c.self.inside.marks.items c.args.self.now c.place-place.result (c.args.key % length c.args.self.now) c.index.result.now false c.self.view_is c.place-place.ensures.0 c.place-place.ensures.1 c.index.ensures c.if-not-index.true)))

pub unlock_row-requires-clause-fits : goal.unlock_row-requires-clause-fits
unlock_row-requires-clause-fits g c = c.requires.fits

pub returns-clause-marks : goal.returns-clause-marks
returns-clause-marks g c = λ j. set (c.self.view_is j) (c.place-place.ensures.0 j) false

pub returns-clause-nothing : goal.returns-clause-nothing
returns-clause-nothing g c m = absurd (true≢false (sym (marked_at c.self.inside.marks.items c.args.self.now c.place-place.result (c.args.key % length c.args.self.now) c.index.result.now true c.self.view_is c.place-place.ensures.0 c.place-place.ensures.1 c.index.ensures c.if-not-index.false) ∙ m))

pub unlock_row-requires-clause-held : goal.unlock_row-requires-clause-held
unlock_row-requires-clause-held g c = c.requires.tied.marked c.place-place.result (marked_at c.self.inside.marks.items c.args.self.now c.place-place.result c.place-place.result c.index.result.now true c.self.view_is refl c.place-place.ensures.1 c.index.ensures c.if-not-index.false)

pub unlock_row-requires-clause-actor : goal.unlock_row-requires-clause-actor
unlock_row-requires-clause-actor g c = c.requires.actor

pub unlock_row-requires-clause-end : goal.unlock_row-requires-clause-end
unlock_row-requires-clause-end g c = c.requires.ended.1

pub returns-clause-fits : goal.returns-clause-fits
returns-clause-fits g c = (c.unlock_row.ensures.fits.0, c.unlock_row.ensures.fits.1)
