use Rattle.std.proofs.Common.{[], refl}
use Rattle.transactions.specs.declared.hindrance.Hindrance.TheVariants.{NoPages}
use Rattle.transactions.specs.Kinds.{in_any}
use Rattle.transactions.specs.Calls.{IsReadsFirst}
use Rattle.mem_journal.proofs.PlaceLemmas.{hindered, find_done}
use Rattle.mem_journal.proofs.index.MemJournalIndex.find.Goals as goal

pub returns-then-not-has-clause-does : goal.returns-then-not-has-clause-does
returns-then-not-has-clause-does c g es s o h = hindered in_any g es c.args.w (IsReadsFirst c.args.w c.args.key) [] NoPages c.args.self.now refl tt s

pub returns-clause-does : goal.returns-clause-does
returns-clause-does c g es s o h = find_done in_any g es c.args.w c.args.key c.value-value.result c.args.self.now c.look.new.self refl s (c.has.ensures.is c.if-not-has.false) c.if-self-key.false c.value-value.ensures o h c.look.ensures
