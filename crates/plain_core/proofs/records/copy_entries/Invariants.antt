use Rattle.std.proofs.Common.{drop}
use Rattle.plain_core.specs.Records.{entries_of}
use Rattle.plain_core.proofs.Copies.{HasCopied}
use Rattle.plain_core.proofs.records.copy_entries.Given as goal

abbrev pub invariant-loop-entry : goal.invariant-loop-entry
invariant-loop-entry l = HasCopied l.copies.items (drop l.entry-index l.entries) (entries_of l.entries)
