use Rattle.recovery.proofs.TurnLemmas.{IsTurnedTo}
use Rattle.recovery.proofs.pages.turn.Given as goal

abbrev pub invariant-loop-page : goal.invariant-loop-page
invariant-loop-page l = IsTurnedTo l.marks l.ahead l.fn.slots.items l.page l.turned_slots.items
