use Rattle.std.proofs.Common.{◌≡◌, ◌+◌, ◌∙◌, nat_le, true, false, take, sym, ap}
use Rattle.lean_disk.specs.Crashed.{Held, held_at}
use Rattle.lean_disk.proofs.CrashLemmas.{held_more, held_still}
use Rattle.lean_disk.proofs.crash.read_after.Goals as goal
use Rattle.lean_disk.proofs.crash.read_after.Goals.{then-is_by+in_ok-read_on, else-is_by}

pub loop-call-preserved : goal.loop-call-preserved
loop-call-preserved c choice =
    let calls = c.args.calls.now in
    let m = c.args.moment in
    let i = c.loop-call.call-index in
    let call = c.call-item.result in
    let start : Held = record { read = c.args.first.now; left = c.args.first.now } in
    let before : Held = held_at choice m c.args.first.now (take i calls) in
    elim c.if-is_by.branch [
      | then-is_by+in_ok-read_on w ↦
          let by_then : nat_le (call.number + call.notes) m ≡ true = sym c.is_by.ensures ∙ w.if-is_by.true in
          ap (λ (h : Held). h.read) (held_more choice start m calls i call c.loop-call-test.true c.call-item.is by_then)
          ∙ w.in_ok-read_on.ensures choice before (c.loop-call.invariant choice) ∙ sym (ap (λ v. v.items) w.read-is)
      | else-is_by w ↦
          let later : nat_le (call.number + call.notes) m ≡ false = sym c.is_by.ensures ∙ w.if-is_by.false in
          ap (λ (h : Held). h.read) (held_still choice start m calls i call c.loop-call-test.true c.call-item.is later)
          ∙ c.loop-call.invariant choice ∙ sym (ap (λ v. v.items) w.read-is)
    ]
