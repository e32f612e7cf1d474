use Rattle.std.proofs.Common.{drop}
use Rattle.plain_core.specs.States.{Rest, opening}
use Rattle.plain_core.specs.Events.{events_of}
use Rattle.plain_core.proofs.Runs.{IsRun}
use Rattle.plain_core.proofs.state.Core.run.Given as goal

abbrev pub invariant-loop-event : goal.invariant-loop-event
invariant-loop-event l = (x : Rest l.fn.self.settings) → IsRun (opening l.fn.self.settings x) l.fn.self l.self (events_of l.events) (events_of (drop l.event-index l.events))
