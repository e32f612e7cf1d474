use Rattle.std.proofs.Common.{refl, ap}
use Rattle.plain_core.specs.States.{place_of, state_of}
use Rattle.plain_core.specs.Tables.{at}
use Rattle.plain_core.proofs.Updates.{set_meaning}
use Rattle.plain_core.proofs.state.Core.set_place.Goals as goal

pub returns : goal.returns
returns c = record { settings = refl; state = ap (λ h. record (state_of c.args.self.now) { place = h }) (set_meaning place_of (at c.set.new.self) (at c.args.self.now.places) c.args.page c.args.place c.in_ok-set.ensures) }
