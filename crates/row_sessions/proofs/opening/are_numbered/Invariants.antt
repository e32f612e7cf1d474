use Rattle.row_sessions.specs.Standing.{AreNumbered}
use Rattle.row_sessions.proofs.opening.are_numbered.Given as goal

abbrev pub invariant-loop-page : goal.invariant-loop-page
invariant-loop-page l = AreNumbered l.pages l.workers l.base l.page
