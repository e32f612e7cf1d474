use Rattle.std.proofs.Common.{◌≤◌, length, Some, None, refl, sym, ap, ◌∙◌, subst, arith, rules}
use Rattle.buffered_engine.specs.Inside.Asks.{AreNumbers}
use Rattle.buffered_engine.specs.States.{InRun, State, memory_in}
use Rattle.buffered_engine.proofs.CalmLemmas.{calm_found}
use Rattle.buffered_engine.proofs.DurableLemmas.{engine_none, engine_some, tells_none, tells_some}
use Rattle.buffered_engine.proofs.engine.Engine.take_durable.Goals as goal

pub invariant_of-self : goal.invariant_of-self
invariant_of-self g c =
    let m = c.self.inside.machine in
    let numbers = c.args.numbers in
    let long : m.machine.work.session.workers ≤ length numbers = (let few = c.self.invariant.0.few in omega arith) in (
      engine_some g.D.Disk.story m c.self.inside.next c.self.inside.scan c.self.inside.unripe (ap (λ s. s.works) c.self.view_is ∙ c.requires.works) c.self.invariant.0 c.every_take.ensures c.self.inside.next c.take.new.self numbers (Some c.in-Some.receipt) long
          (subst (λ (s : State g.row.D.Denot). AreNumbers s.sessions (memory_in s).log numbers) (sym c.self.view_is) c.requires.numbers) c.in-Some.ensures.takes c.in-Some.receipt refl refl,
      tt,
    )

pub returns-in-Some : goal.returns-in-Some
returns-in-Some g c =
    let m = c.self.inside.machine in
    let numbers = c.args.numbers in
    let long : m.machine.work.session.workers ≤ length numbers = (let few = c.self.invariant.0.few in omega arith) in
    record {
      taken = λ o xs names run. tells_some g.D.Disk.story m c.self.inside.next c.self.inside.scan c.self.inside.unripe (ap (λ s. s.works) c.self.view_is ∙ c.requires.works) c.self.invariant.0 c.every_take.ensures c.self.inside.next c.take.new.self numbers (Some c.in-Some.receipt) long
          (subst (λ (s : State g.row.D.Denot). AreNumbers s.sessions (memory_in s).log numbers) (sym c.self.view_is) c.requires.numbers) c.in-Some.ensures.takes c.in-Some.receipt refl refl
          o xs names (subst (λ (s : State g.row.D.Denot). InRun s o xs names) (sym c.self.view_is) run);
      next = search rules;
      session = search rules;
      fewer = search rules;
      same = search rules;
      sizes = search rules;
    }

pub invariant_of-self-in-None : goal.invariant_of-self-in-None
invariant_of-self-in-None g c =
    let m = c.self.inside.machine in
    let numbers = c.args.numbers in
    let long : m.machine.work.session.workers ≤ length numbers = (let few = c.self.invariant.0.few in omega arith) in (
      engine_none g.D.Disk.story m c.self.inside.next c.self.inside.scan c.self.inside.unripe (ap (λ s. s.works) c.self.view_is ∙ c.requires.works) c.self.invariant.0 c.every_take.ensures c.behind-self-inside.result c.take.new.self numbers None long
          (subst (λ (s : State g.row.D.Denot). AreNumbers s.sessions (memory_in s).log numbers) (sym c.self.view_is) c.requires.numbers) c.in-None.ensures.takes refl c.behind-self-inside.ensures,
      calm_found m.machine.work.session.workers numbers c.take.new.self long (c.in-None.ensures.again refl),
    )

pub returns-in-None : goal.returns-in-None
returns-in-None g c =
    let m = c.self.inside.machine in
    let numbers = c.args.numbers in
    let long : m.machine.work.session.workers ≤ length numbers = (let few = c.self.invariant.0.few in omega arith) in
    record {
      taken = λ o xs names run. tells_none g.D.Disk.story m c.self.inside.next c.self.inside.scan c.self.inside.unripe (ap (λ s. s.works) c.self.view_is ∙ c.requires.works) c.self.invariant.0 c.every_take.ensures c.behind-self-inside.result c.take.new.self numbers None long
          (subst (λ (s : State g.row.D.Denot). AreNumbers s.sessions (memory_in s).log numbers) (sym c.self.view_is) c.requires.numbers) c.in-None.ensures.takes refl c.behind-self-inside.ensures
          o xs names (subst (λ (s : State g.row.D.Denot). InRun s o xs names) (sym c.self.view_is) run);
      next = search rules;
      session = search rules;
      fewer = search rules;
      same = search rules;
      sizes = search rules;
    }
