use Rattle.std.proofs.Common.{◌≡◌, ◌<◌, ◌≤◌, ℕ, false, List, length, sym, subst}
use Rattle.group_commit.specs.declared.queue.End.{End}
use Rattle.group_commit.specs.Queues.{IsSettled, IsSoonest, begins_ripe, next_of, queue_of, queued}
use Rattle.group_commit.specs.Ripeness.{flushed_of}
use Rattle.group_commit.proofs.CalmLemmas.{takes_again, takes_calm}
use Rattle.group_commit.proofs.FewerLemmas.{taken_fewer}
use Rattle.group_commit.proofs.unripe.Unripe.take.Goals as goal

pub returns-in-Some-clause-fewer : goal.returns-in-Some-clause-fewer
returns-in-Some-clause-fewer c =
    let s = c.in-Some.ensures in
    subst (λ (qs : List (List End)). queued qs < queued c.args.self.now) (sym c.drop_first.ensures)
    (taken_fewer c.args.flushed.now c.least_of-all.result c.args.self.now c.settle.new.self c.in-Some.receipt c.settle.ensures s.some s.within s.is)

pub returns-then-is_calm-clause-takes : goal.returns-then-is_calm-clause-takes
returns-then-is_calm-clause-takes c = takes_calm c.args.flushed.now c.args.self.now
    (subst (λ all. (w : ℕ) → 0 < w → w ≤ length c.args.self.now → begins_ripe (flushed_of c.args.flushed.now w) all (queue_of c.args.self.now w) ≡ false) c.least_of-all.ensures (c.is_calm.ensures c.if-is_calm.true))

pub returns-then-is_calm-clause-again : goal.returns-then-is_calm-clause-again
returns-then-is_calm-clause-again c e = returns-then-is_calm-clause-takes c

pub returns-in_default-clause-again : goal.returns-in_default-clause-again
returns-in_default-clause-again c none =
    let fs = c.args.flushed.now in
    takes_again fs c.args.self.now c.settle.new.self c.soonest-found.result (subst (λ (all : ℕ). IsSettled fs all c.args.self.now c.settle.new.self) c.least_of-all.ensures c.settle.ensures)
    (subst (λ (all : ℕ). IsSoonest (next_of fs all c.settle.new.self) (length c.settle.new.self) c.soonest-found.result) c.least_of-all.ensures c.soonest-found.ensures) none
