use Rattle.std.proofs.Common.{◌≡◌, refl, ◌-◌, ◌∙◌, suc, arith}
use Rattle.transactions.specs.Kinds.{in_any}
use Rattle.transactions.specs.Memory.{held_rows}
use Rattle.transactions.proofs.LoopLemmas.{idles_none, unlatch_more}
use Rattle.transactions.proofs.session.Session.unlatch_rows.Goals as goal

pub loop-row-preserved : goal.loop-row-preserved
loop-row-preserved g c =
    let inv = c.loop-row.invariant in
    let e : c.loop-row.row ≡ suc (c.loop-row.row - 1) = omega arith in (
      c.unlatch_row.ensures.rows ∙ inv.0,
      omega arith,
      c.unlatch_row.ensures.rows ∙ inv.2,
      λ o es s. unlatch_more g.T.Place.stands g.T.Place.leaves g.T.Place.alone in_any g.T.Place.cause o (g.met.T.Place.rests o) (g.met.T.Place.joins o) es c.args.place.now c.loop-row.place c.unlatch_row.new.place c.args.self.now.session c.args.self.now.held.items c.loop-row.row (c.loop-row.row - 1) e (inv.3 o es s)
          (λ t. c.unlatch_row.ensures.does o _ _ t),
    )

pub loop-row-init : goal.loop-row-init
loop-row-init g c = (c.requires.rows, c.requires.within, refl, λ o es s. idles_none g.T.Place.stands g.T.Place.leaves g.T.Place.alone in_any g.T.Place.cause o (g.met.T.Place.rests o) (g.met.T.Place.joins o) es c.args.self.now.session (held_rows c.args.self.now.held.items c.args.below) c.args.place.now s)
