use Rattle.std.proofs.Common.{◌≡◌, drop}
use Rattle.page_model.specs.Pairs.{find}
use Rattle.mem_journal.specs.Entries.{pairs_of}
use Rattle.mem_journal.proofs.entries.find.Given as goal

abbrev pub invariant-loop-entry : goal.invariant-loop-entry
invariant-loop-entry l = find l.key (pairs_of l.entries) ≡ find l.key (pairs_of (drop l.entry-index l.entries))
