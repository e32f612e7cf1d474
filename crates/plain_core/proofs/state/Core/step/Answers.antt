use Rattle.std.proofs.Common.{◌≡◌, true, arith}
use Rattle.plain_core.specs.Events.{event_of}
use Rattle.plain_core.specs.States.{opening}
use Rattle.plain_core.proofs.Runs.{happened}
use Rattle.plain_core.proofs.state.Core.step.Goals as goal

pub returns-in-Ok-clause-answer : goal.returns-in-Ok-clause-answer
returns-in-Ok-clause-answer c =
    let m : c.may.result ≡ true = grind (arith, c.if-not-may.false) in
    λ x. happened (opening c.args.self.now.settings x) c.args.self.now c.happen.new.self (event_of c.args.event.now) c.may.result m (c.may.ensures x) (c.in-Ok.ensures x)
