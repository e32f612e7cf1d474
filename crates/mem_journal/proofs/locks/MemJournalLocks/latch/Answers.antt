use Rattle.std.proofs.Common.{◌∷◌}
use Rattle.transactions.specs.Kinds.{in_any}
use Rattle.mem_journal.proofs.PlaceLemmas.{nothing}
use Rattle.mem_journal.proofs.locks.MemJournalLocks.latch.Goals as goal

pub returns-clause-does : goal.returns-clause-does
returns-clause-does c g es latched s h = nothing in_any g es c.args._w latched (c.args._row ∷ latched) c.args.self.now s
