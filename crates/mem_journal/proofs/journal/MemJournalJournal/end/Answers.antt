use Rattle.std.proofs.Common.{[], ◌∷◌, refl}
use Rattle.core_commit.specs.core_state.Events.{Event}
use Rattle.transactions.specs.Kinds.{in_any}
use Rattle.transactions.specs.Calls.{IsEndsFirst}
use Rattle.mem_journal.proofs.PlaceLemmas.{end_done, broken}
use Rattle.mem_journal.proofs.journal.MemJournalJournal.end.Goals as goal

pub returns-then-not-has-clause-does : goal.returns-then-not-has-clause-does
returns-then-not-has-clause-does c g es latched s o back = (refl, broken in_any g es c.args.w (IsEndsFirst c.args.w c.args.commit) latched c.args.self.now c.args.self.now (0, (Event.End c.args.w c.args.commit 0 ∷ [], refl)))

pub returns-in-Ok-clause-does : goal.returns-in-Ok-clause-does
returns-in-Ok-clause-does c g es latched s o back = end_done g es c.args.w c.flushed-flushed.result c.args.commit latched c.in-Ok.receipt c.args.self.now c.end_at.new.self s (c.has.ensures.is c.if-not-has.false) o back c.flushed-flushed.ensures c.in-Ok.ensures.after.0 c.in-Ok.ensures.after.1

pub returns-in-Err-clause-does : goal.returns-in-Err-clause-does
returns-in-Err-clause-does c g es latched s o back = (refl, broken in_any g es c.args.w (IsEndsFirst c.args.w c.args.commit) latched c.args.self.now c.end_at.new.self (0, (Event.End c.args.w c.args.commit 0 ∷ [], refl)))
