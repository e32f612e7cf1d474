use Rattle.buffered_engine.specs.engine_front.Fronts.{events_in}
use Rattle.lean_shell.proofs.CommandLemmas.{unread}
use Rattle.lean_shell.proofs.disk_run.unread.Goals as goal

pub returns : goal.returns
returns g c =
    unread c.every_notice.ensures c.every_tail.ensures (g.D.Disk.story c.args.disk) (g.D.Disk.story c.refuse.result.disk) ((g.met.D.Disk g.world.𝓛 g.world.𝓜 g.world.𝓡 ((λ s x. x), (λ x. x), (λ x. x), (λ x. x))).lawful c.args.disk)
    (g.K.Sink.held c.args.sink.now) (g.K.Sink.held c.refuse.new.sink) (g.K.Sink.faults c.args.sink.now) (g.K.Sink.faults c.refuse.new.sink) (g.D.Disk.faults c.args.disk) (g.D.Disk.faults c.refuse.result.disk)
    c.refuse.result.status c.refuse.ensures.status c.refuse.ensures.put c.refuse.ensures.faults (events_in c.refuse.result.front.view) c.refuse.ensures.front
