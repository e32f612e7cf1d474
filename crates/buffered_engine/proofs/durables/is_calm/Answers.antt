use Rattle.std.proofs.Common.{sym, subst}
use Rattle.paged_scans.specs.session_desks.Parts.{logs}
use Rattle.buffered_engine.specs.Inside.Calm.{IsStill}
use Rattle.buffered_engine.proofs.durables.is_calm.Goals as goal

pub returns-in-Some : goal.returns-in-Some
returns-in-Some g c = λ e. subst (λ o. IsStill o c.args.machine.now.work.session.workers (logs c.args.machine.now)) (sym c.in-Some.is) (c.are_flushed_to.ensures e)
