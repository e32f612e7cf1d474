use Rattle.std.proofs.Common.{None, refl, sym, ap, ◌∙◌, subst, rules}
use Rattle.buffered_engine.specs.Inside.Asks.{AreNumbers}
use Rattle.buffered_engine.specs.States.{InRun, State, memory_in}
use Rattle.paged_scans.specs.session_desks.Parts.{logs}
use Rattle.buffered_engine.proofs.CalmLemmas.{finds_none}
use Rattle.buffered_engine.proofs.DurableLemmas.{engine_none, seated_in, tells_none}
use Rattle.buffered_engine.proofs.engine.Engine.next_durable.Goals as goal

pub is_calm-requires-clause-seated : goal.is_calm-requires-clause-seated
is_calm-requires-clause-seated g c = seated_in g.D.Disk.story c.self.inside.machine c.self.inside.next c.self.inside.scan c.self.inside.unripe (ap (λ s. s.works) c.self.view_is ∙ c.requires.works) c.self.invariant.0

pub flushed_numbers-numbers-requires-clause-seated : goal.flushed_numbers-numbers-requires-clause-seated
flushed_numbers-numbers-requires-clause-seated g c = seated_in g.D.Disk.story c.self.inside.machine c.self.inside.next c.self.inside.scan c.self.inside.unripe (ap (λ s. s.works) c.self.view_is ∙ c.requires.works) c.self.invariant.0

pub take_durable-requires-clause-numbers : goal.take_durable-requires-clause-numbers
take_durable-requires-clause-numbers g c κs within = subst (λ (s : State g.row.D.Denot). AreNumbers s.sessions (memory_in s).log c.flushed_numbers-numbers.result) c.self.view_is c.flushed_numbers-numbers.ensures

pub invariant_of-self : goal.invariant_of-self
invariant_of-self g c =
    let m = c.self.inside.machine in
    let f = finds_none c.self.inside.calm m.machine.work.session.workers (logs m.machine) c.self.inside.unripe (c.is_calm.ensures c.if-not-is_calm.false) c.self.invariant.1 in (
      engine_none g.D.Disk.story m c.self.inside.next c.self.inside.scan c.self.inside.unripe (ap (λ s. s.works) c.self.view_is ∙ c.requires.works) c.self.invariant.0 c.every_take.ensures c.behind-self-inside.result c.self.inside.unripe f.numbers None f.long
          f.are f.takes refl c.behind-self-inside.ensures,
      c.self.invariant.1,
    )

pub returns : goal.returns
returns g c =
    let m = c.self.inside.machine in
    let f = finds_none c.self.inside.calm m.machine.work.session.workers (logs m.machine) c.self.inside.unripe (c.is_calm.ensures c.if-not-is_calm.false) c.self.invariant.1 in
    record {
      taken = λ o xs names run. tells_none g.D.Disk.story m c.self.inside.next c.self.inside.scan c.self.inside.unripe (ap (λ s. s.works) c.self.view_is ∙ c.requires.works) c.self.invariant.0 c.every_take.ensures c.behind-self-inside.result c.self.inside.unripe f.numbers None f.long
          f.are f.takes refl c.behind-self-inside.ensures
          o xs names (subst (λ (s : State g.row.D.Denot). InRun s o xs names) (sym c.self.view_is) run);
      next = search rules;
      session = search rules;
      fewer = search rules;
      same = search rules;
      sizes = search rules;
    }
