use Rattle.std.proofs.Common.{◌≡◌, ℕ, take, sym, subst, arith}
use Rattle.lean_disk.specs.Crashed.{held_at}
use Rattle.lean_disk.proofs.CrashLemmas.{held_synced}
use Rattle.lean_disk.proofs.crash.last_synced.Goals as goal
use Rattle.lean_disk.proofs.crash.last_synced.Goals.{then-is_synced_by, else-is_synced_by}

pub loop-i-preserved : goal.loop-i-preserved
loop-i-preserved c =
    let calls = c.args.calls.now in
    let m = c.args.moment in
    elim c.if-is_synced_by.branch [
      | then-is_synced_by w ↦ record {
        inside = omega (arith, w.last-is, c.loop-i-test.true);
        synced = λ choice first. subst (λ (n : ℕ). (held_at choice m first (take n calls)).left ≡ (held_at choice m first (take n calls)).read) (sym w.last-is)
            (held_synced choice m first calls c.loop-i.i c.index-calls-i.result c.loop-i-test.true c.index-calls-i.is (c.is_synced_by.ensures w.if-is_synced_by.true));
      }
      | else-is_synced_by w ↦ record {
        inside = omega (arith, w.last-is, c.loop-i.invariant.inside);
        synced = λ choice first. subst (λ (n : ℕ). (held_at choice m first (take n calls)).left ≡ (held_at choice m first (take n calls)).read) (sym w.last-is) (c.loop-i.invariant.synced choice first);
      }
    ]
