use Rattle.std.proofs.Common.{sym, subst}
use Rattle.btree_smo.specs.Outcomes.{Caused, IsUndisturbed}
use Rattle.btree_smo.specs.Inside.{IsMissed}
use Rattle.btree_smo.proofs.Refusing.{is_missed, found, undisturbed}
use Rattle.btree_smo.proofs.latch.latch_one.Goals as goal

pub returns-in-Err-clause-err : goal.returns-in-Err-clause-err
returns-in-Err-clause-err g c = (subst IsMissed (sym c.refused.ensures) (is_missed c.in-Err.why), c.in-Err.ensures.err)

pub returns-in-Err-clause-cause : goal.returns-in-Err-clause-cause
returns-in-Err-clause-cause g c = let v = g.R.Rows.view c.args.seat.now in let w = g.R.Rows.view c.latch.new.seat in subst (λ q. Caused v q w) (sym c.refused.ensures) (found c.args.row v w c.in-Err.why c.in-Err.ensures.cause)

pub returns-in-Err-clause-quiet : goal.returns-in-Err-clause-quiet
returns-in-Err-clause-quiet g c alone free = subst IsUndisturbed (sym c.refused.ensures) (undisturbed c.in-Err.why (c.in-Err.ensures.quiet alone free))
