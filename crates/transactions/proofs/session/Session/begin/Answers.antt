use Rattle.std.proofs.Common.{◌≡◌, refl, None, false}
use Rattle.transactions.specs.Kinds.{in_flushes}
use Rattle.transactions.specs.Memory.{memory_of}
use Rattle.transactions.specs.Calls.{IsNoStep, IsBeginsFirst, log_refusal}
use Rattle.transactions.proofs.CallLemmas.{leads_still, begin_all, ok_both, no_begin, refused_first}
use Rattle.transactions.proofs.session.Session.begin.Goals as goal

pub returns-then-self-clause-does : goal.returns-then-self-clause-does
returns-then-self-clause-does g c o es s k = leads_still g.T.Place.stands g.T.Place.leaves g.T.Place.alone in_flushes g.T.Place.cause o (g.met.T.Place.rests o) (g.met.T.Place.joins o) es c.args.place.now (memory_of c.args.self.now) s k

pub returns-in-Ok-clause-does : goal.returns-in-Ok-clause-does
returns-in-Ok-clause-does g c o es s k =
    let i = c.in-Ok.ensures.does o es s in
    begin_all g.T.Place.stands g.T.Place.leaves g.T.Place.alone g.T.Place.cause o (g.met.T.Place.rests o) (g.met.T.Place.joins o) es c.args.place.now c.ready.new.self c.begin_ready.new.place c.begin_ready.new.self c.args.self.now
    (λ p. (log_refusal (g.T.Journal.used p c.args.self.now.session) (g.T.Journal.limit p c.args.self.now.session) (g.T.Journal.clock_of p c.args.self.now.session) ≡ None) × (g.T.Journal.is_due p c.args.self.now.session ≡ false))
    (IsBeginsFirst c.args.self.now.session) c.begin_ready.result k i (λ kn. c.begin_ready.ensures.does o _ i.goes.stands kn) (ok_both ((log_refusal (g.T.Journal.used c.ready.new.self c.args.self.now.session) (g.T.Journal.limit c.ready.new.self c.args.self.now.session) (g.T.Journal.clock_of c.ready.new.self c.args.self.now.session)) ≡ None) (g.T.Journal.is_due c.ready.new.self c.args.self.now.session ≡ false) c.begin_ready.result c.begin_ready.ensures.passes c.in-Ok.ensures.done) c.begin_ready.ensures.same

pub returns-in-Err-clause-does : goal.returns-in-Err-clause-does
returns-in-Err-clause-does g c o es s k =
    refused_first g.T.Place.stands g.T.Place.leaves g.T.Place.alone in_flushes g.T.Place.cause o (g.met.T.Place.rests o) (g.met.T.Place.joins o) es c.args.place.now c.ready.new.self (memory_of c.args.self.now) IsNoStep IsNoStep (IsBeginsFirst c.args.self.now.session) c.in-Err.hindrance refl (no_begin c.args.self.now.session) s k
    (c.in-Err.ensures.does o es s)
