use Rattle.std.proofs.Common.{◌≡◌, false, rules, arith}
use Rattle.std.proofs.lemmas.Grind.{common_steps}
use Rattle.transactions.specs.Kinds.{in_any}
use Rattle.transactions.specs.Memory.{has_row}
use Rattle.transactions.proofs.LoopLemmas.{unlatch_free}
use Rattle.transactions.proofs.session.Session.unlatch_row.Goals as goal

pub returns-else-index-clause-does : goal.returns-else-index-clause-does
returns-else-index-clause-does g c o es latched s =
    let e : has_row c.args.self.now.held.items c.args.row ≡ false = first_of (search rules, grind (arith, common_steps)) in
    unlatch_free g.T.Place.stands g.T.Place.leaves g.T.Place.alone in_any g.T.Place.cause o (g.met.T.Place.rests o) (g.met.T.Place.joins o) es c.args.self.now.session c.args.self.now.held.items c.args.row latched c.args.place.now e s
