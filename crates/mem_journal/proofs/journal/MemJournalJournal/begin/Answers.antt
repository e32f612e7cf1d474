use Rattle.std.proofs.Common.{[], ◌∷◌, ◌∙◌, ◌+◌, suc, refl, ap, add-one}
use Rattle.std.proofs.lemmas.List.{get_or_read}
use Rattle.core_commit.specs.core_state.Events.{Event}
use Rattle.transactions.specs.Kinds.{in_any}
use Rattle.transactions.specs.Calls.{IsBeginsFirst}
use Rattle.mem_journal.specs.declared.worker.Worker.{Worker}
use Rattle.mem_journal.specs.Workers.{no_worker}
use Rattle.mem_journal.proofs.PlaceLemmas.{begin_done, broken}
use Rattle.mem_journal.proofs.journal.MemJournalJournal.begin.Goals as goal

pub returns-then-not-has-clause-does : goal.returns-then-not-has-clause-does
returns-then-not-has-clause-does c g es s o = broken in_any g es c.args.w (IsBeginsFirst c.args.w) [] c.args.self.now c.args.self.now (0, (Event.Begin c.args.w 0 ∷ [], refl))

pub returns-clause-does : goal.returns-clause-does
returns-clause-does c g es s o =
    let is = c.has.ensures.is c.if-not-has.false in
    let at = get_or_read c.args.self.now.workers.items c.args.w c.index-worker.result.now is.1 c.index-worker.ensures no_worker in
    begin_done g es c.args.w c.flushed-flushed.result (c.index-worker.result.now.txn + 1) c.args.self.now c.begin_at.new.self s is o c.flushed-flushed.ensures (add-one c.index-worker.result.now.txn ∙ ap (λ (b : Worker). suc b.txn) at) c.begin_at.ensures
