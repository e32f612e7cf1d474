use Rattle.std.proofs.Common.{[], ◌∙◌, sym, refl}
use Rattle.transactions.specs.Kinds.{in_any, in_flushes}
use Rattle.transactions.specs.Memory.{memory_of}
use Rattle.transactions.specs.Calls.{IsNoStep, IsBeginsFirst}
use Rattle.transactions.proofs.KindLemmas.{hindered_as, wider_flushes}
use Rattle.transactions.proofs.CallLemmas.{declines_still, starts_now, refused_first, log_tests}
use Rattle.transactions.proofs.session.Session.begin_ready.Goals as goal

pub returns-in-Some-clause-does : goal.returns-in-Some-clause-does
returns-in-Some-clause-does g c o es s k =
    declines_still g.T.Place.stands g.T.Place.leaves g.T.Place.alone in_flushes g.T.Place.cause o (g.met.T.Place.rests o) (g.met.T.Place.joins o) es c.args.place.now (memory_of c.args.self.now) IsNoStep (IsBeginsFirst c.args.self.now.session) c.in-Some.refusal
    (log_tests (g.T.Journal.used c.args.place.now c.args.self.now.session) (g.T.Journal.limit c.args.place.now c.args.self.now.session) (g.T.Journal.clock_of c.args.place.now c.args.self.now.session) c.in-Some.refusal (sym c.log_refusal.ensures ∙ c.in-Some.is)) s k

pub returns-in-Ok-clause-does : goal.returns-in-Ok-clause-does
returns-in-Ok-clause-does g c o es s k =
    starts_now g.T.Place.stands g.T.Place.leaves g.T.Place.alone in_any g.T.Place.cause o (g.met.T.Place.rests o) (g.met.T.Place.joins o) es c.args.place.now c.begin.new.self (memory_of c.args.self.now)
    c.in-Ok.number k (c.in-Ok.ensures.does o es s (k.ties.is_open ∙ c.requires.closed))

pub returns-in-Err-clause-does : goal.returns-in-Err-clause-does
returns-in-Err-clause-does g c o es s k =
    refused_first g.T.Place.stands g.T.Place.leaves g.T.Place.alone in_flushes g.T.Place.cause o (g.met.T.Place.rests o) (g.met.T.Place.joins o) es c.args.place.now c.begin.new.self (memory_of c.args.self.now) IsNoStep (IsBeginsFirst c.args.self.now.session) (IsBeginsFirst c.args.self.now.session) c.in-Err.hindrance refl (λ l f. f) s k
    (hindered_as g.T.Place.stands g.T.Place.leaves g.T.Place.alone in_any in_flushes wider_flushes g.T.Place.cause o es c.args.self.now.session (IsBeginsFirst c.args.self.now.session) [] c.in-Err.hindrance c.args.place.now c.begin.new.self (c.in-Err.ensures.does o es s (k.ties.is_open ∙ c.requires.closed)))

pub returns-in-Ok-clause-passes : goal.returns-in-Ok-clause-passes
returns-in-Ok-clause-passes g c = sym c.log_refusal.ensures ∙ c.in_default.is
