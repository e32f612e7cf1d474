use Rattle.std.proofs.Common.{refl, ap, ◌∙◌}
use Rattle.plain_core.specs.States.{state_of}
use Rattle.plain_core.proofs.Updates.{at_end_is}
use Rattle.plain_core.proofs.state.Core.enqueue.Goals as goal

pub returns : goal.returns
returns c = record { settings = refl; state = ap (λ q. record (state_of c.args.self.now) { queue = q }) (c.in_ok-push.ensures.items ∙ at_end_is c.args.self.now.queue.items c.args.page) }
