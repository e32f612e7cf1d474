use Rattle.std.proofs.Common.{[]}
use Rattle.transactions.specs.Kinds.{in_flushes}
use Rattle.mem_journal.proofs.PlaceLemmas.{nothing}
use Rattle.mem_journal.proofs.journal.MemJournalJournal.ready.Goals as goal

pub returns-clause-does : goal.returns-clause-does
returns-clause-does c g es s = nothing in_flushes g es c.args._w [] [] c.args.self.now s
