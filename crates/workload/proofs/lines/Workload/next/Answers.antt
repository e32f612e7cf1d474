use Rattle.std.proofs.Common.{◌+◌, arith}
use Rattle.workload.proofs.LineLemmas.{stands_on, took, took_last}
use Rattle.workload.proofs.lines.Workload.next.Goals as goal

pub returns-then-self-eq-LAST : goal.returns-then-self-eq-LAST
returns-then-self-eq-LAST c =
    let s = c.self.inside in
    took_last s.number s.count s.workers s.done s.place s.words c.call_at-call.result c.args.self.now (s.done + 1) c.self.invariant c.if-self.false c.call_at-call.ensures.call c.self.view_is c.if-self-eq-LAST.true (omega arith)

pub invariant_of-self-2 : goal.invariant_of-self-2
invariant_of-self-2 c =
    let s = c.self.inside in
    stands_on s.number s.count s.workers s.done s.place s.words c.call_at-call.new.words (s.place + 1) c.self.invariant c.if-self-eq-LAST.false c.call_at-call.ensures.words (omega arith)

pub returns : goal.returns
returns c =
    let s = c.self.inside in
    took s.number s.count s.workers s.done s.place s.words c.call_at-call.result c.args.self.now (s.place + 1) c.self.invariant c.if-self.false c.call_at-call.ensures.call c.self.view_is (omega arith)
