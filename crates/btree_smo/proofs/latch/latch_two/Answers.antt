use Rattle.std.proofs.Common.{sym, subst}
use Rattle.btree_smo.specs.Outcomes.{Caused, IsUndisturbed}
use Rattle.btree_smo.specs.Inside.{IsMissed}
use Rattle.btree_smo.proofs.Refusing.{is_missed, caused_at, undisturbed}
use Rattle.btree_smo.proofs.latch.latch_two.Goals as goal

pub returns-in-Err-clause-err : goal.returns-in-Err-clause-err
returns-in-Err-clause-err g c = let e = c.in-Err.ensures.err in (subst IsMissed (sym c.refused.ensures) (is_missed c.in-Err.why), e.0, e.1)

pub returns-in-Err-clause-cause : goal.returns-in-Err-clause-cause
returns-in-Err-clause-cause g c = subst (λ q. Caused (g.R.Rows.view c.args.seat.now) q (g.R.Rows.view c.latch_two.new.seat)) (sym c.refused.ensures) (caused_at c.in-Err.why c.in-Err.ensures.cause)

pub returns-in-Err-clause-quiet : goal.returns-in-Err-clause-quiet
returns-in-Err-clause-quiet g c alone ne = subst IsUndisturbed (sym c.refused.ensures) (undisturbed c.in-Err.why (c.in-Err.ensures.quiet alone ne))
