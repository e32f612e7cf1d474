use Rattle.std.proofs.Common.{[], ◌<◌, ◌≤◌, refl, subst}
use Rattle.std.proofs.lemmas.List.{get_or_read}
use Rattle.transactions.specs.Kinds.{in_flushes}
use Rattle.transactions.specs.Calls.{IsNoStep}
use Rattle.mem_journal.specs.declared.worker.Worker.{Worker}
use Rattle.mem_journal.specs.Workers.{no_worker}
use Rattle.mem_journal.proofs.PlaceLemmas.{flush_done, no_flush, broken}
use Rattle.mem_journal.proofs.journal.MemJournalJournal.flush_group.Goals as goal

pub returns-then-not-has-clause-does : goal.returns-then-not-has-clause-does
returns-then-not-has-clause-does c g es s = (refl, broken in_flushes g es c.args.w IsNoStep [] c.args.self.now c.args.self.now refl)

pub returns-then-worker-clause-does : goal.returns-then-worker-clause-does
returns-then-worker-clause-does c g es s =
    let is = c.has.ensures.is c.if-not-has.false in
    let at = get_or_read c.args.self.now.workers.items c.args.w c.index-worker.result.now is.1 c.index-worker.ensures no_worker in
    flush_done g es c.args.w c.args.self.now c.flush.new.self s is (subst (λ (b : Worker). b.flushed < b.end) at c.if-worker.true) c.flush.ensures

pub returns-else-worker-clause-does : goal.returns-else-worker-clause-does
returns-else-worker-clause-does c g es s =
    let is = c.has.ensures.is c.if-not-has.false in
    let at = get_or_read c.args.self.now.workers.items c.args.w c.index-worker.result.now is.1 c.index-worker.ensures no_worker in
    no_flush g es c.args.w c.args.self.now s is (subst (λ (b : Worker). b.end ≤ b.flushed) at c.if-worker.false)
