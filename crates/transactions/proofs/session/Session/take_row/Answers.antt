use Rattle.std.proofs.Common.{◌≡◌, ◌∙◌, ◌<◌, ◌%◌, ℕ, length, ap, arith}
use Rattle.transactions.specs.Kinds.{in_any}
use Rattle.transactions.specs.Memory.{memory_of}
use Rattle.transactions.proofs.CallLemmas.{locked_now, lock_hindered}
use Rattle.transactions.proofs.session.Session.take_row.Goals as goal

pub returns-in-Ok-clause-does : goal.returns-in-Ok-clause-does
returns-in-Ok-clause-does g c o es s k =
    let e : c.len.result ≡ length c.args.self.now.held.items = omega (arith, c.len.ensures, c.args.self.now.held.ok.0) in
    let sized = c.args.self.now.sized in
    let below : c.args.key % c.len.result < length c.args.self.now.held.items = omega arith in
    locked_now g.T.Place.stands g.T.Place.leaves g.T.Place.alone in_any g.T.Place.cause o (g.met.T.Place.rests o) (g.met.T.Place.joins o) es c.args.place.now c.lock.new.self (memory_of c.args.self.now) c.args.key (c.args.key % c.len.result) c.args.mode
    k (ap (λ (n : ℕ). c.args.key % n) e) below (c.in-Ok.ensures.does o es s (k.is_open ∙ c.requires.open))

pub returns-in-Err-clause-does : goal.returns-in-Err-clause-does
returns-in-Err-clause-does g c o es s k =
    let e : c.len.result ≡ length c.args.self.now.held.items = omega (arith, c.len.ensures, c.args.self.now.held.ok.0) in
    lock_hindered g.T.Place.stands g.T.Place.leaves g.T.Place.alone in_any g.T.Place.cause o (g.met.T.Place.rests o) (g.met.T.Place.joins o) es c.args.place.now c.lock.new.self (memory_of c.args.self.now) c.args.key (c.args.key % c.len.result) c.args.mode c.in-Err.hindrance k (ap (λ (n : ℕ). c.args.key % n) e)
    (c.in-Err.ensures.does o es s (k.is_open ∙ c.requires.open))
