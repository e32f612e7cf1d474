use Rattle.std.proofs.Common.{◌%◌, ◌+◌, ◌∙◌, List, length, refl, ap, sym, subst, true, false, true≢false}
use Rattle.lean_proto.specs.rows_trait.declared.view.Hold.{Hold}
use Rattle.lean_proto.specs.rows_trait.Views.{without}
use Rattle.key_locks.specs.Latching.{AreLatched}
use Rattle.lean_proto.proofs.rows_trait.Runs.{ran_none}
use Rattle.key_locks.proofs.Marking.{set_same, marked_at}
use Rattle.key_locks.proofs.latches.Latches.latch.Goals as goal

pub returns-then-index-clause-ok : goal.returns-then-index-clause-ok
returns-then-index-clause-ok g c = (
  sym (set_same c.args.self.now (c.args.key % length c.args.self.now) true (marked_at c.self.inside.marks.items c.args.self.now c.place-place.result (c.args.key % length c.args.self.now) c.index.result.now true c.self.view_is c.place-place.ensures.0 c.place-place.ensures.1 c.index.ensures c.if-index.true)),
  ran_none (g.R.Rows.shape c.args.rows.now).alone (g.R.Rows.view c.args.seat.now),
)

pub returns-then-index-clause-fits : goal.returns-then-index-clause-fits
returns-then-index-clause-fits g c = (c.requires.fits, refl)

pub returns-then-index-clause-tied : goal.returns-then-index-clause-tied
returns-then-index-clause-tied g c = c.requires.tied

pub returns-then-index-clause-rest : goal.returns-then-index-clause-rest
returns-then-index-clause-rest g c = refl

pub returns-then-index-clause-again : goal.returns-then-index-clause-again
returns-then-index-clause-again g c m = (refl, refl)

pub latch_row-requires-clause-fits : goal.latch_row-requires-clause-fits
latch_row-requires-clause-fits g c = c.requires.fits

pub latch_row-requires-clause-actor : goal.latch_row-requires-clause-actor
latch_row-requires-clause-actor g c = c.requires.actor

pub returns-in_err-latch_row-clause-fits : goal.returns-in_err-latch_row-clause-fits
returns-in_err-latch_row-clause-fits g c = c.in_err-latch_row.ensures.fits

pub returns-in_err-latch_row-clause-tied : goal.returns-in_err-latch_row-clause-tied
returns-in_err-latch_row-clause-tied g c = subst (λ (hs : List Hold). AreLatched c.args.frames c.args.self.now hs) (sym c.in_err-latch_row.ensures.same) c.requires.tied

pub returns-in_err-latch_row-clause-rest : goal.returns-in_err-latch_row-clause-rest
returns-in_err-latch_row-clause-rest g c = ap (λ (hs : List Hold). without hs (c.args.frames + c.args.key % length c.args.self.now)) c.in_err-latch_row.ensures.same

pub returns-in_err-latch_row-clause-again : goal.returns-in_err-latch_row-clause-again
returns-in_err-latch_row-clause-again g c m = absurd (true≢false (sym m ∙ (marked_at c.self.inside.marks.items c.args.self.now c.place-place.result (c.args.key % length c.args.self.now) c.index.result.now false c.self.view_is c.place-place.ensures.0 c.place-place.ensures.1 c.index.ensures c.if-index.false)))

pub returns-clause-fits : goal.returns-clause-fits
returns-clause-fits g c = c.latch_row.ensures.fits

pub returns-clause-again : goal.returns-clause-again
returns-clause-again g c m = absurd (true≢false (sym m ∙ (marked_at c.self.inside.marks.items c.args.self.now c.place-place.result (c.args.key % length c.args.self.now) c.index.result.now false c.self.view_is c.place-place.ensures.0 c.place-place.ensures.1 c.index.ensures c.if-index.false)))
