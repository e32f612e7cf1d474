use Rattle.std.proofs.Common.{refl, ap}
use Rattle.plain_core.specs.States.{row_of, state_of}
use Rattle.plain_core.specs.Tables.{at}
use Rattle.plain_core.proofs.Updates.{set_meaning}
use Rattle.plain_core.proofs.state.Core.set_row.Goals as goal

pub returns : goal.returns
returns c = record { settings = refl; state = ap (λ h. record (state_of c.args.self.now) { row = h }) (set_meaning row_of (at c.set.new.self) (at c.args.self.now.rows) c.args.place c.args.row c.in_ok-set.ensures) }
