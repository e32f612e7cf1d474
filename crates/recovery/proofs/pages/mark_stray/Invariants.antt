use Rattle.recovery.proofs.MarkLemmas.{IsMarkedTo}
use Rattle.recovery.proofs.pages.mark_stray.Given as goal

abbrev pub invariant-loop-page : goal.invariant-loop-page
invariant-loop-page l = IsMarkedTo l.stray l.fn.changed.items l.page l.marks.items
