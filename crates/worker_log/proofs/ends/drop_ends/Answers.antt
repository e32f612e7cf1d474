use Rattle.std.proofs.Common.{◌≡◌, ◌+◌, ◌∙◌, ℕ, List, drop, sym, ap, arith}
use Rattle.std.proofs.lemmas.List.{drop-drop}
use Rattle.circular_buffer.specs.Buffer.{Buffer, buffer}
use Rattle.worker_log.proofs.ends.drop_ends.Goals as goal

pub loop-passed-preserved : goal.loop-passed-preserved
loop-passed-preserved c =
    let was : List ℕ = c.args.ends.now.items in
    let k : ℕ = c.loop-passed._passed in
    c.pop_front.ensures.items ∙ (ap (λ (b : Buffer ℕ). buffer (drop 1 b.items) b.capacity) c.loop-passed.invariant
    ∙ ap (λ (l : List ℕ). buffer l c.args.ends.now.capacity) (drop-drop 1 k was ∙ ap (λ (j : ℕ). drop j was) (let e : k + 1 ≡ k + 1 = omega arith in e)))
