use Rattle.std.proofs.Common.{◌≤◌, length, take, ap, ◌∙◌, subst, arith}
use Rattle.buffered_engine.specs.Receipts.{IsRipeness}
use Rattle.buffered_engine.specs.States.{State}
use Rattle.buffered_engine.proofs.DurableLemmas.{flushed_to, seated_in, works_of}
use Rattle.buffered_engine.proofs.engine.Engine.ripe.Goals as goal

pub flushed_numbers-numbers-requires-clause-seated : goal.flushed_numbers-numbers-requires-clause-seated
flushed_numbers-numbers-requires-clause-seated g c =
    seated_in g.D.Disk.story c.self.inside.machine c.self.inside.next c.self.inside.scan c.self.inside.unripe
    (ap (λ s. s.works) c.self.view_is ∙ works_of c.is_working.result c.in_ok-is_working.field-0 c.args.self.now.works c.in_ok-is_working.was c.is_working.ensures.cause) c.self.invariant.0

pub returns-clause-ripeness : goal.returns-clause-ripeness
returns-clause-ripeness g c =
    let m = c.self.inside.machine in
    let numbers = c.flushed_numbers-numbers.result in
    let long : m.machine.work.session.workers ≤ length numbers = (let few = c.self.invariant.0.few in omega arith) in
    subst (λ (s : State g.row.D.Denot). IsRipeness s c.args.receipt.now c.ripe.result) c.self.view_is (record {
      flushed = take m.machine.work.session.workers numbers;
      are = flushed_to g.D.Disk.story m c.self.inside.next c.self.inside.scan c.self.inside.unripe
          (ap (λ s. s.works) c.self.view_is ∙ works_of c.is_working.result c.in_ok-is_working.field-0 c.args.self.now.works c.in_ok-is_working.was c.is_working.ensures.cause) c.self.invariant.0 numbers long c.flushed_numbers-numbers.ensures;
      found_is = c.ripe.ensures;
    })
