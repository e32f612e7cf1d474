use Rattle.std.proofs.Common.{refl}
use Rattle.paged_desks.proofs.machine.PagedMachine.stop.Goals as goal

pub returns-then-is_broken-clause-stops : goal.returns-then-is_broken-clause-stops
returns-then-is_broken-clause-stops g c _ = record { works = refl; disk = refl; same = (refl, refl); fits = λ f. f }
