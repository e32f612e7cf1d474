use Rattle.std.proofs.Common.{[], ◌∷◌, ◌∙◌, refl, sym}
use Rattle.core_commit.specs.core_state.Events.{Event}
use Rattle.transactions.specs.declared.hindrance.Hindrance.TheVariants.{NoPages}
use Rattle.transactions.specs.Kinds.{in_any}
use Rattle.transactions.specs.Calls.{IsBacksFirst}
use Rattle.mem_journal.proofs.PlaceLemmas.{hindered, broken, back_done}
use Rattle.mem_journal.proofs.index.MemJournalIndex.leaf_put_back.Goals as goal

pub returns-then-not-has-clause-does : goal.returns-then-not-has-clause-does
returns-then-not-has-clause-does c g es d ds s o e k x = hindered in_any g es c.args.w (IsBacksFirst c.args.w) [] NoPages c.args.self.now refl tt s

pub returns-then-not-has_key-clause-does : goal.returns-then-not-has_key-clause-does
returns-then-not-has_key-clause-does c g es d ds s o e k x = hindered in_any g es c.args.w (IsBacksFirst c.args.w) [] NoPages c.args.self.now refl tt s

pub returns-then-store-clause-does : goal.returns-then-store-clause-does
returns-then-store-clause-does c g es d ds s o e k x = back_done g es c.args.w c.args.key c.args.word d ds c.args.self.now c.store.new.self s (c.has.ensures.is c.if-not-has.false) c.if-self-key.false (sym c.has_key.ensures ∙ c.if-not-has_key.false) o e k x (c.store.ensures.after c.if-store.true)

pub returns-clause-does : goal.returns-clause-does
returns-clause-does c g es d ds s o e k x = broken in_any g es c.args.w (IsBacksFirst c.args.w) [] c.args.self.now c.store.new.self (0, (Event.Put_back c.args.w 0 ∷ [], refl))
