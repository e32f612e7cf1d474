use Rattle.std.proofs.Common.{◌≡◌, ◌+◌, suc, Option, sym, ap, ◌∙◌, subst, ℕ, arith}
use Rattle.group_commit.specs.declared.receipts.Receipt.{Receipt}
use Rattle.group_commit.specs.Ripeness.{flushed_of}
use Rattle.group_commit.specs.Queues.{next_of, queue_of, ripe_first, IsSoonest}
use Rattle.group_commit.proofs.SoonLemmas.{soonest_none, soonest_some, own_log}
use Rattle.group_commit.proofs.unripe.Unripe.soonest.Goals as goal
use Rattle.group_commit.proofs.unripe.Unripe.soonest.Goals.{in-Some, in_default}

pub loop-i-preserved : goal.loop-i-preserved
loop-i-preserved c =
    let next : ℕ → Option Receipt = next_of c.args.flushed.now c.args.all c.args.self.now in
    let n : ℕ = c.loop-i.i in
    let more : suc n ≡ n + 1 = omega arith in
    let one : next (suc n) ≡ c.next_of.result = ap next more ∙ sym c.next_of.ensures in
    subst (λ (m : ℕ). IsSoonest next m c.match-next_of.found) more
    (elim c.match-next_of.branch [
      | in-Some w ↦ subst (IsSoonest next (suc n)) (sym (w.found-is ∙ w.sooner-found.ensures)) (soonest_some next n c.loop-i.found w.in-Some.receipt (one ∙ w.in-Some.is)
          (own_log (suc n) (ripe_first (flushed_of c.args.flushed.now (suc n)) c.args.all (queue_of c.args.self.now (suc n))) w.in-Some.receipt (one ∙ w.in-Some.is)) c.loop-i.invariant)
      | in_default w ↦ subst (IsSoonest next (suc n)) (sym w.found-is) (soonest_none next n c.loop-i.found (one ∙ w.in_default.is) c.loop-i.invariant)
    ])
