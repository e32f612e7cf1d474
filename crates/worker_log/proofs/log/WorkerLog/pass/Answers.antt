use Rattle.std.proofs.Common.{◌≡◌, ◌∙◌, ◌+◌, ◌-◌, ℕ, List, ap, drop, sym, subst, arith}
use Rattle.circular_buffer.specs.Buffer.{Buffer}
use Rattle.worker_log.specs.contracts.log.WorkerLog.{the_view}
use Rattle.worker_log.specs.Inside.{IsSized}
use Rattle.worker_log.specs.Kept.{IsKept, cut}
use Rattle.worker_log.specs.Logs.{Log}
use Rattle.worker_log.proofs.CutLemmas.{cut_off}
use Rattle.worker_log.proofs.log.WorkerLog.pass.Goals as goal

pub returns-clause-kept : goal.returns-clause-kept
returns-clause-kept c = λ x area le kept.
    let log : Log = c.args.self.now in
    let k : ℕ = c.args.head - log.head in
    let head : log.head + k ≡ c.args.head = omega (arith, c.requires.from) in
    let sized : IsSized log = subst IsSized c.self.view_is c.self.invariant.sized in
    let it = cut_off k x log area sized.ranges le (omega (arith, head, c.requires.low)) kept in
    let now : Log = the_view c.self.inside in
    let same : now ≡ log = c.self.view_is in
    let ends : drop k log.ends ≡ c.drop_ends.new.ends.items = ap (λ (l : Log). drop (c.args.head - l.head) l.ends) (sym same) ∙ sym (ap (λ (b : Buffer ℕ). b.items) c.drop_ends.ensures) in
    subst (λ (l : Log). IsKept (cut k x) (record l { head = c.args.head; ends = c.drop_ends.new.ends.items }) area) (sym same)
    (subst (λ (e : List ℕ). IsKept (cut k x) (record log { head = c.args.head; ends = e }) area) ends
    (subst (λ (h : ℕ). IsKept (cut k x) (record log { head = h; ends = drop k log.ends }) area) head it.kept))
