use Rattle.std.proofs.Common.{◌≡◌, ◌+◌, ◌∙◌, nat_le, true, false, take, sym, ap}
use Rattle.lean_disk.specs.Crashed.{Held, held_at}
use Rattle.lean_disk.proofs.CrashLemmas.{held_more, held_still}
use Rattle.lean_disk.proofs.crash.left_after.Goals as goal
use Rattle.lean_disk.proofs.crash.left_after.Goals.{then-is_by+in_ok-left_on+in_ok-read_on, else-is_by}

pub loop-call-preserved : goal.loop-call-preserved
loop-call-preserved c =
    let calls = c.args.calls.now in
    let m = c.args.moment in
    let choice = c.args.choice in
    let i = c.loop-call.call-index in
    let call = c.call-item.result in
    let start : Held = record { read = c.args.synced.now; left = c.args.synced.now } in
    let before : Held = held_at choice m c.args.synced.now (take i calls) in
    elim c.if-is_by.branch [
      | then-is_by+in_ok-left_on+in_ok-read_on w ↦
          let by_then : nat_le (call.number + call.notes) m ≡ true = sym c.is_by.ensures ∙ w.if-is_by.true in
          let more = held_more choice start m calls i call c.loop-call-test.true c.call-item.is by_then in
          record {
            read = ap (λ (h : Held). h.read) more ∙ w.in_ok-read_on.ensures choice before c.loop-call.invariant.read ∙ sym (ap (λ v. v.items) w.read-is);
            left = ap (λ (h : Held). h.left) more ∙ w.in_ok-left_on.ensures before (c.loop-call.invariant.read ∙ sym w.deref.ensures.value) c.loop-call.invariant.left ∙ sym (ap (λ v. v.items) w.left-is);
          }
      | else-is_by w ↦
          let later : nat_le (call.number + call.notes) m ≡ false = sym c.is_by.ensures ∙ w.if-is_by.false in
          let same = held_still choice start m calls i call c.loop-call-test.true c.call-item.is later in
          record {
            read = ap (λ (h : Held). h.read) same ∙ c.loop-call.invariant.read ∙ sym (ap (λ v. v.items) w.read-is);
            left = ap (λ (h : Held). h.left) same ∙ c.loop-call.invariant.left ∙ sym (ap (λ v. v.items) w.left-is);
          }
    ]
