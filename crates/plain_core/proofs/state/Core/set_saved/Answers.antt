use Rattle.std.proofs.Common.{refl, ap}
use Rattle.plain_core.specs.Records.{page_of}
use Rattle.plain_core.specs.States.{state_of}
use Rattle.plain_core.specs.Tables.{at}
use Rattle.plain_core.proofs.Updates.{set_meaning}
use Rattle.plain_core.proofs.state.Core.set_saved.Goals as goal

pub returns : goal.returns
returns c = record { settings = refl; state = ap (λ h. record (state_of c.args.self.now) { saved = h }) (set_meaning page_of (at c.set.new.self) (at c.args.self.now.saved) c.args.place c.args.page c.in_ok-set.ensures) }
