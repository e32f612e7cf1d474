use Rattle.std.proofs.Common.{◌≡◌, ◌-◌, ◌∙◌, ◌<◌, suc, length, ap, refl, arith, length-set}
use Rattle.transactions.specs.Kinds.{in_any}
use Rattle.transactions.specs.Memory.{memory_of}
use Rattle.transactions.proofs.LoopLemmas.{unlocked_none, unlock_more, unlocked_all, none_more}
use Rattle.transactions.proofs.session.Session.unlock_rows.Goals as goal

pub loop-row-init : goal.loop-row-init
loop-row-init g c =
    let e : c.len-row.result ≡ length c.args.self.now.held.items = omega (arith, c.len-row.ensures, c.args.self.now.held.ok.0) in (
      c.requires.rows,
      refl,
      omega arith,
      (refl, refl, refl, refl, refl),
      λ i le lt. absurd (omega (arith, le, lt, e)),
      λ o es s k z. unlocked_none g.T.Place.stands g.T.Place.leaves g.T.Place.alone in_any g.T.Place.cause o (g.met.T.Place.rests o) (g.met.T.Place.joins o) es c.args.place.now (memory_of c.args.self.now) c.len-row.result e s k,
    )

pub loop-row-preserved : goal.loop-row-preserved
loop-row-preserved g c =
    let inv = c.loop-row.invariant in
    let e : c.loop-row.row ≡ suc (c.loop-row.row - 1) = omega arith in
    let same = c.unlock_row.ensures.same in
    let size : length c.unlock_row.new.self.held.items ≡ length c.loop-row.self.held.items = ap length c.unlock_row.ensures.held ∙ length-set c.loop-row.self.held.items (c.loop-row.row - 1) _ in
    let below : c.loop-row.row - 1 < length c.loop-row.self.held.items = omega (arith, inv.2, e) in (
      c.unlock_row.ensures.rows ∙ (inv.0 ∙ Rattle.std.proofs.Common.sym size),
      size ∙ inv.1,
      omega (arith, inv.2, size, e),
      (same.0 ∙ inv.3.0, same.1 ∙ inv.3.1, same.2 ∙ inv.3.2, same.3 ∙ inv.3.3, same.4 ∙ inv.3.4),
      none_more c.loop-row.self.held.items c.unlock_row.new.self.held.items c.loop-row.row (c.loop-row.row - 1) e below c.unlock_row.ensures.held inv.4,
      λ o es s k z. unlock_more g.T.Place.stands g.T.Place.leaves g.T.Place.alone in_any g.T.Place.cause o (g.met.T.Place.rests o) (g.met.T.Place.joins o) es c.args.place.now c.loop-row.place c.unlock_row.new.place (memory_of c.args.self.now) (memory_of c.loop-row.self) (memory_of c.unlock_row.new.self) c.loop-row.row (c.loop-row.row - 1) e inv.3.0 c.unlock_row.ensures.held
          (inv.5 o es s k z) (λ t kt. c.unlock_row.ensures.does o _ _ t kt (inv.3.1 ∙ z)),
    )

pub returns-clause-does : goal.returns-clause-does
returns-clause-does g c o es s k z =
    let zero : c.loop-row.row ≡ 0 = omega arith in
    unlocked_all g.T.Place.stands g.T.Place.leaves g.T.Place.alone in_any g.T.Place.cause o (g.met.T.Place.rests o) (g.met.T.Place.joins o) es c.args.place.now c.loop-row.place (memory_of c.args.self.now) (memory_of c.loop-row.self) c.loop-row.row zero (c.loop-row.invariant.5 o es s k z)
