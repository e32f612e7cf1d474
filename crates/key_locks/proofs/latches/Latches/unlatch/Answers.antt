use Rattle.std.proofs.Common.{◌≡◌, ◌+◌, ◌%◌, ◌∙◌, ℕ, Bool, List, [], ◌∷◌, cond, length, set, refl, sym, subst, true, false, true≢false}
use Rattle.std.proofs.lemmas.Bool.{cond-false}
use Rattle.lean_proto.specs.row_words.declared.event.Event.TheVariants.{Miss}
use Rattle.lean_proto.specs.rows_trait.Views.{held_at, without}
use Rattle.key_locks.specs.Latching.{AreLatched}
use Rattle.lean_proto.proofs.version_latch.Keeping.{goes_ran, may_self}
use Rattle.key_locks.proofs.Marking.{marked_at, set_same, unmarking}
use Rattle.key_locks.proofs.latches.Latches.unlatch.Goals as goal

pub returns-clause-tied : goal.returns-clause-tied
returns-clause-tied g c =
    let marks = c.args.self.now in
    let hs = (g.R.Rows.view c.args.seat.now).held in
    let ks = (g.R.Rows.view c.release.new.seat).held in
    subst (λ (l : List Bool). AreLatched c.args.frames (set l c.place-place.result false) ks) (sym c.self.view_is)
    (unmarking c.args.frames c.place-place.result marks hs ks c.place-place.ensures.1 c.release.ensures.step.held c.requires.tied).0

pub returns-clause-rest : goal.returns-clause-rest
returns-clause-rest g c =
    let marks = c.args.self.now in
    let hs = (g.R.Rows.view c.args.seat.now).held in
    let ks = (g.R.Rows.view c.release.new.seat).held in
    subst (λ (i : ℕ). without ks (c.args.frames + i) ≡ without hs (c.args.frames + i)) c.place-place.ensures.0
    (unmarking c.args.frames c.place-place.result marks hs ks c.place-place.ensures.1 c.release.ensures.step.held c.requires.tied).1

pub returns-clause-ran : goal.returns-clause-ran
returns-clause-ran g c m =
    let z = g.R.Rows.shape c.args.rows.now in
    let v = g.R.Rows.view c.args.seat.now in
    let w = g.R.Rows.view c.release.new.seat in
    let row = c.args.frames + c.place-place.result in
    let mark = marked_at c.self.inside.marks.items c.args.self.now c.place-place.result c.place-place.result c.index.result.now true c.self.view_is refl c.place-place.ensures.1 c.index.ensures c.if-not-index.false in
    let fresh = (c.requires.tied.marked c.place-place.result mark).fresh in
    goes_ran z (cond (held_at v.held row).done [] (Miss v.actor ∷ [])) (Miss v.actor ∷ []) v w c.release.ensures.step.goes (cond-false (held_at v.held row).done [] (Miss v.actor ∷ []) fresh) (may_self z.alone v, tt)

pub returns-then-not-index-clause-fits : goal.returns-then-not-index-clause-fits
returns-then-not-index-clause-fits g c = (c.requires.fits, refl)

pub returns-then-not-index-clause-tied : goal.returns-then-not-index-clause-tied
returns-then-not-index-clause-tied g c = c.requires.tied

pub returns-then-not-index-clause-marks : goal.returns-then-not-index-clause-marks
returns-then-not-index-clause-marks g c = sym (set_same c.args.self.now (c.args.key % length c.args.self.now) false (marked_at c.self.inside.marks.items c.args.self.now c.place-place.result (c.args.key % length c.args.self.now) c.index.result.now false c.self.view_is c.place-place.ensures.0 c.place-place.ensures.1 c.index.ensures c.if-not-index.true))

pub returns-then-not-index-clause-rest : goal.returns-then-not-index-clause-rest
returns-then-not-index-clause-rest g c = refl

pub returns-then-not-index-clause-nothing : goal.returns-then-not-index-clause-nothing
returns-then-not-index-clause-nothing g c m = refl

pub returns-then-not-index-clause-ran : goal.returns-then-not-index-clause-ran
returns-then-not-index-clause-ran g c m = absurd (true≢false (sym m ∙ (marked_at c.self.inside.marks.items c.args.self.now c.place-place.result (c.args.key % length c.args.self.now) c.index.result.now false c.self.view_is c.place-place.ensures.0 c.place-place.ensures.1 c.index.ensures c.if-not-index.true)))

pub release-requires-clause-fits : goal.release-requires-clause-fits
release-requires-clause-fits g c = c.requires.fits

pub returns-clause-marks : goal.returns-clause-marks
returns-clause-marks g c = λ j. set (c.self.view_is j) (c.place-place.ensures.0 j) false

pub returns-clause-nothing : goal.returns-clause-nothing
returns-clause-nothing g c m = absurd (true≢false (sym (marked_at c.self.inside.marks.items c.args.self.now c.place-place.result (c.args.key % length c.args.self.now) c.index.result.now true c.self.view_is c.place-place.ensures.0 c.place-place.ensures.1 c.index.ensures c.if-not-index.false) ∙ m))

pub release-requires-clause-held : goal.release-requires-clause-held
release-requires-clause-held g c = let l = c.requires.tied.marked c.place-place.result (marked_at c.self.inside.marks.items c.args.self.now c.place-place.result c.place-place.result c.index.result.now true c.self.view_is refl c.place-place.ensures.1 c.index.ensures c.if-not-index.false) in (l.here, l.same)

pub returns-clause-fits : goal.returns-clause-fits
returns-clause-fits g c = (c.release.ensures.fits.0, c.release.ensures.fits.1)
