use Rattle.std.proofs.Common.{drop}
use Rattle.page_model.specs.Pairs as pairs
use Rattle.mem_journal.specs.Entries.{pairs_of}
use Rattle.mem_journal.proofs.LoopFacts.{HasMade, put_in}
use Rattle.mem_journal.proofs.entries.put.Given as goal

abbrev pub invariant-loop-entry : goal.invariant-loop-entry
invariant-loop-entry l = HasMade l.put.items (put_in l.done l.key l.word (pairs_of (drop l.entry-index l.entries))) (pairs.put l.key l.word (pairs_of l.entries))
