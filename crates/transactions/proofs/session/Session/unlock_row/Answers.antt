use Rattle.std.proofs.Common.{◌≡◌, ◌∙◌, true, false, rules, arith}
use Rattle.std.proofs.lemmas.Grind.{common_steps}
use Rattle.transactions.specs.Kinds.{in_any}
use Rattle.transactions.specs.Memory.{memory_of, has_row}
use Rattle.transactions.proofs.LoopLemmas.{unlock_held, unlock_free}
use Rattle.transactions.proofs.session.Session.unlock_row.Goals as goal

pub returns-then-not-index-clause-does : goal.returns-then-not-index-clause-does
returns-then-not-index-clause-does g c o es latched s k z =
    let e : has_row c.args.self.now.held.items c.args.row ≡ false = first_of (search rules, grind (arith, common_steps)) in
    unlock_free g.T.Place.stands g.T.Place.leaves g.T.Place.alone in_any g.T.Place.cause o (g.met.T.Place.rests o) (g.met.T.Place.joins o) es latched c.args.place.now (memory_of c.args.self.now) c.args.row e k s

pub returns-clause-does : goal.returns-clause-does
returns-clause-does g c o es latched s k z =
    let e : has_row c.args.self.now.held.items c.args.row ≡ true = first_of (search rules, grind (arith, common_steps)) in
    unlock_held g.T.Place.stands g.T.Place.leaves g.T.Place.alone in_any g.T.Place.cause o (g.met.T.Place.rests o) (g.met.T.Place.joins o) es latched c.args.place.now c.unlock.new.self (memory_of c.args.self.now) c.args.row e k c.requires.within s (λ t h. c.unlock.ensures.does o es latched t (k.is_open ∙ z) h)
