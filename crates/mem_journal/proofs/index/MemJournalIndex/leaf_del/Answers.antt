use Rattle.std.proofs.Common.{[], ◌∷◌, ◌∙◌, ◌||◌, ◌^◌, ltb, length, Bool, Some, None, refl, sym, ap, inl, arith}
use Rattle.core_commit.specs.core_state.Events.{Event}
use Rattle.transactions.specs.declared.hindrance.Hindrance.TheVariants.{NoPages}
use Rattle.transactions.specs.Kinds.{in_changes}
use Rattle.page_model.specs.Pairs.{find}
use Rattle.core_commit.specs.core_state.Needs.{is_reader}
use Rattle.core_commit.specs.core_state.Steps.{state_after}
use Rattle.transactions.specs.Calls.{IsDelsFirst}
use Rattle.mem_journal.specs.Views.{view_of}
use Rattle.mem_journal.proofs.PlaceLemmas.{hindered, broken, change_done, find_done, live_some}
use Rattle.mem_journal.proofs.index.MemJournalIndex.leaf_del.Goals as goal

pub returns-then-not-has-clause-does : goal.returns-then-not-has-clause-does
returns-then-not-has-clause-does c g es s o n h = hindered in_changes g es c.args.w (IsDelsFirst c.args.w c.args.key) [] NoPages c.args.self.now refl tt s

pub returns-then-store-clause-does : goal.returns-then-store-clause-does
returns-then-store-clause-does c g es s o n h =
    let v = view_of c.args.self.now in
    let x = live_some (find c.args.key v.pairs) c.in-Some.value (sym c.in-Some.is ∙ c.value.ensures) in
    let r = change_done g es c.args.w c.args.key (2 ^ 63) (Some c.in-Some.value) c.args.self.now c.store.new.self s (c.has.ensures.is c.if-not-has.false) c.if-self-key.false (omega arith) (ap (λ (b : Bool). b || ltb (length v.pairs) v.places) x.2) o n h x.1 (c.store.ensures.after c.if-store.true) in (x.0, r.0, r.1)

pub returns-else-store-clause-does : goal.returns-else-store-clause-does
returns-else-store-clause-does c g es s o n h = broken in_changes g es c.args.w (IsDelsFirst c.args.w c.args.key) [] c.args.self.now c.store.new.self (inl (0, (Event.Change c.args.w 0 c.args.key (2 ^ 63) ∷ [], refl)))

pub returns-in-None-clause-does : goal.returns-in-None-clause-does
returns-in-None-clause-does c g es s o n h = find_done in_changes g es c.args.w c.args.key None c.args.self.now c.look.new.self refl s (c.has.ensures.is c.if-not-has.false) c.if-self-key.false (sym c.in-None.is ∙ c.value.ensures) o (ap (λ (b : Bool). b || is_reader c.args.w ((state_after g es).row (g.row_of c.args.key)).readers) h) c.look.ensures
