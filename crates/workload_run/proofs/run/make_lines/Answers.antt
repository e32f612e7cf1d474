use Rattle.std.proofs.Common.{refl}
use Rattle.engine_front.specs.Fronts.{events_in}
use Rattle.workload_run.proofs.MadeLemmas.{all_made, stopped_made}
use Rattle.workload_run.proofs.run.make_lines.Goals as goal

pub returns-in-Some-clause-runs : goal.returns-in-Some-clause-runs
returns-in-Some-clause-runs g c o run =
    let E = g.E.Calls in
    let D = g.D.Disk in
    let e0 = c.args.engine in
    let e1 = c.execute_all-stop.new.engine.engine in
    stopped_made c.laws.ensures.counts c.args.number c.args.count (E.sessions e0) (E.group e0) o (E.memory e0) (E.memory e1) (D.story (E.disk e0)) (D.story (E.disk e1)) (E.in_run e1 o) c.execute_all-stop.new.engine.tally (events_in c.execute_all-stop.new.events.view)
    c.in-Some.stop (c.in-Some.ensures).stops ((c.in-Some.ensures).runs o run c.new.ensures)

pub returns-in-None-clause-runs : goal.returns-in-None-clause-runs
returns-in-None-clause-runs g c o run =
    let E = g.E.Calls in
    let D = g.D.Disk in
    let e0 = c.args.engine in
    let e1 = c.execute_all-stop.new.engine.engine in
    let t = c.execute_all-stop.new.engine.tally in
    all_made c.laws.ensures.counts c.args.number c.args.count (E.sessions e0) (E.group e0) o (E.memory e0) (E.memory e1) (D.story (E.disk e0)) (D.story (E.disk e1)) (E.in_run e1 o) t (events_in c.execute_all-stop.new.events.view)
    (record { refused = t.refused; pairs = t.pairs; sum = t.sum }) refl refl refl ((c.in-None.ensures).runs o run c.new.ensures)
