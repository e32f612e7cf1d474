use Rattle.std.proofs.Common.{refl, [], ◌∙◌}
use Rattle.transactions.specs.Kinds.{in_any}
use Rattle.transactions.specs.Memory.{memory_of}
use Rattle.transactions.proofs.LoopLemmas.{idles_none, latch_more, latch_failed}
use Rattle.transactions.proofs.session.Session.latch_rows.Goals as goal

pub returns-in-Err-clause-does : goal.returns-in-Err-clause-does
returns-in-Err-clause-does g c o es s k =
    latch_failed g.T.Place.stands g.T.Place.leaves g.T.Place.alone in_any g.T.Place.cause o (g.met.T.Place.rests o) (g.met.T.Place.joins o) es c.args.place.now c.loop-row.place c.latch_row.new.place c.unlatch_rows.new.place (memory_of c.args.self.now) c.loop-row.row c.in-Err.hindrance k (c.loop-row.invariant.2 o es s k) c.in-Err.ensures.sound
    (λ t kt. c.in-Err.ensures.does o _ _ t kt) (λ fs t. c.unlatch_rows.ensures.does o fs t)

pub loop-row-preserved : goal.loop-row-preserved
loop-row-preserved g c =
    let inv = c.loop-row.invariant in (
      c.latch_row.ensures.rows ∙ inv.0,
      c.latch_row.ensures.rows ∙ inv.1,
      λ o es s k. latch_more g.T.Place.stands g.T.Place.leaves g.T.Place.alone in_any g.T.Place.cause o (g.met.T.Place.rests o) (g.met.T.Place.joins o) es c.args.place.now c.loop-row.place c.latch_row.new.place (memory_of c.args.self.now) c.loop-row.row k (inv.2 o es s k) (λ t kt. c.in_default.ensures.does o _ _ t kt),
    )

pub loop-row-init : goal.loop-row-init
loop-row-init g c = (c.requires.rows, refl, λ o es s k. idles_none g.T.Place.stands g.T.Place.leaves g.T.Place.alone in_any g.T.Place.cause o (g.met.T.Place.rests o) (g.met.T.Place.joins o) es c.args.self.now.session [] c.args.place.now s)
