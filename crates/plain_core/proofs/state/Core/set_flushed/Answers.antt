use Rattle.std.proofs.Common.{refl, ap}
use Rattle.plain_core.specs.States.{state_of}
use Rattle.plain_core.proofs.state.Core.set_flushed.Goals as goal

pub returns : goal.returns
returns c = record { settings = refl; state = ap (λ h. record (state_of c.args.self.now) { flushed = h }) c.in_ok-set.ensures }
