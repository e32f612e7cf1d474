use Rattle.std.proofs.Common.{[], ◌∷◌, refl, subst, sym}
use Rattle.std.proofs.lemmas.List.{get_or_read}
use Rattle.core_commit.specs.core_state.Events.{Event}
use Rattle.transactions.specs.declared.hindrance.Hindrance.TheVariants.{Conflict, NoPages}
use Rattle.transactions.specs.Kinds.{in_any}
use Rattle.transactions.specs.Paths.{IsFirstOf}
use Rattle.transactions.specs.Memory.{mode_of}
use Rattle.core_commit.specs.core_state.Steps.{state_after}
use Rattle.mem_journal.specs.declared.row.Row.{Row}
use Rattle.mem_journal.specs.Rows.{IsRow}
use Rattle.mem_journal.specs.Views.{no_row}
use Rattle.mem_journal.proofs.PlaceLemmas.{hindered, lock_done}
use Rattle.mem_journal.proofs.locks.MemJournalLocks.lock.Goals as goal

pub returns-then-not-has-clause-does : goal.returns-then-not-has-clause-does
returns-then-not-has-clause-does c g es s o = hindered in_any g es c.args.w (IsFirstOf (Event.Lock c.args.w c.args.row (mode_of c.args.mode) ∷ [])) [] NoPages c.args.self.now refl tt s

pub returns-in-Some-clause-does : goal.returns-in-Some-clause-does
returns-in-Some-clause-does c g es s o =
    let is = get_or_read c.args.self.now.rows.items c.args.row c.index.result.now c.requires c.index.ensures no_row in
    let row = subst (λ (r : Row). IsRow ((state_after g es).row c.args.row) r) (sym is) (s.row c.args.row c.requires) in
    hindered in_any g es c.args.w (IsFirstOf (Event.Lock c.args.w c.args.row (mode_of c.args.mode) ∷ [])) [] (Conflict c.in-Some.holder) c.args.self.now refl (c.args.row, c.args.w, mode_of c.args.mode, c.in-Some.ensures ((state_after g es).row c.args.row) row) s

pub returns-in-None-clause-does : goal.returns-in-None-clause-does
returns-in-None-clause-does c g es s o =
    let is = get_or_read c.args.self.now.rows.items c.args.row c.index.result.now c.requires c.index.ensures no_row in
    let row = subst (λ (r : Row). IsRow ((state_after g es).row c.args.row) r) (sym is) (s.row c.args.row c.requires) in
    lock_done g es c.args.w c.args.row c.args.mode c.args.self.now c.take.new.self s (c.has.ensures.is c.if-not-has.false) c.requires o (c.in-None.ensures ((state_after g es).row c.args.row) row) c.take.ensures
