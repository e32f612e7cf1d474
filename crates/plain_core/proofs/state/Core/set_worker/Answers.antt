use Rattle.std.proofs.Common.{refl, ap}
use Rattle.plain_core.specs.States.{worker_of, state_of}
use Rattle.plain_core.specs.Tables.{at}
use Rattle.plain_core.proofs.Updates.{set_meaning}
use Rattle.plain_core.proofs.state.Core.set_worker.Goals as goal

pub returns : goal.returns
returns c = record { settings = refl; state = ap (λ h. record (state_of c.args.self.now) { worker = h }) (set_meaning worker_of (at c.set.new.self) (at c.args.self.now.workers) c.args.place c.args.worker c.in_ok-set.ensures) }
