use Rattle.std.proofs.Common.{[], ◌∷◌, ◌∙◌, refl, sym, arith}
use Rattle.core_commit.specs.core_state.Events.{Event}
use Rattle.transactions.specs.declared.hindrance.Hindrance.TheVariants.{NoPages}
use Rattle.transactions.specs.Kinds.{in_changes}
use Rattle.transactions.specs.Calls.{IsChangesFirst}
use Rattle.mem_journal.proofs.PlaceLemmas.{hindered, broken, change_done}
use Rattle.mem_journal.proofs.index.MemJournalIndex.leaf_put.Goals as goal

pub returns-then-not-has-clause-does : goal.returns-then-not-has-clause-does
returns-then-not-has-clause-does c g es s o n h = hindered in_changes g es c.args.w (IsChangesFirst c.args.w c.args.key c.args.value) [] NoPages c.args.self.now refl tt s

pub returns-then-not-fits-clause-does : goal.returns-then-not-fits-clause-does
returns-then-not-fits-clause-does c g es s o n h = hindered in_changes g es c.args.w (IsChangesFirst c.args.w c.args.key c.args.value) [] NoPages c.args.self.now refl tt s

pub returns-then-store-clause-does : goal.returns-then-store-clause-does
returns-then-store-clause-does c g es s o n h = change_done g es c.args.w c.args.key c.args.value c.word-was.result c.args.self.now c.store.new.self s (c.has.ensures.is c.if-not-has.false) c.if-self-key.false (omega (arith, c.requires)) (sym c.fits.ensures ∙ c.if-not-fits.false) o n h c.word-was.ensures (c.store.ensures.after c.if-store.true)

pub returns-clause-does : goal.returns-clause-does
returns-clause-does c g es s o n h = broken in_changes g es c.args.w (IsChangesFirst c.args.w c.args.key c.args.value) [] c.args.self.now c.store.new.self (0, (Event.Change c.args.w 0 c.args.key c.args.value ∷ [], refl))
