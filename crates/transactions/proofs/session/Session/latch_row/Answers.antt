use Rattle.std.proofs.Common.{◌≡◌, false, rules, arith}
use Rattle.std.proofs.lemmas.Grind.{common_steps}
use Rattle.transactions.specs.Kinds.{in_any}
use Rattle.transactions.specs.Memory.{has_row}
use Rattle.transactions.proofs.LoopLemmas.{latch_free}
use Rattle.transactions.proofs.session.Session.latch_row.Goals as goal

pub returns-clause-does : goal.returns-clause-does
returns-clause-does g c o es latched s k =
    let e : has_row c.args.self.now.held.items c.args.row ≡ false = first_of (search rules, grind (arith, common_steps)) in
    latch_free g.T.Place.stands g.T.Place.leaves g.T.Place.alone in_any g.T.Place.cause o (g.met.T.Place.rests o) (g.met.T.Place.joins o) es c.args.self.now.session c.args.self.now.held.items c.args.row latched c.args.place.now e s
