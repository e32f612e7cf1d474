use Rattle.std.proofs.Common.{◌∷◌, ◌∙◌, sym, true≢false}
use Rattle.mem_journal.proofs.PlaceLemmas.{unlock_done, holder_is}
use Rattle.mem_journal.proofs.locks.MemJournalLocks.unlock.Goals as goal

pub returns-then-has-clause-does : goal.returns-then-has-clause-does
returns-then-has-clause-does c g es latched s o h = unlock_done g es c.args.w c.args.row (c.args.row ∷ latched) latched c.args.self.now c.give_up.new.self s (c.has.ensures.is c.if-has.true) c.requires o h c.give_up.ensures

pub returns-else-has-clause-does : goal.returns-else-has-clause-does
returns-else-has-clause-does c g es latched s o h = absurd (true≢false (sym (c.has.ensures.is_not (holder_is g es c.args.w c.args.row (c.args.row ∷ latched) c.args.self.now s h)) ∙ c.if-has.false))
