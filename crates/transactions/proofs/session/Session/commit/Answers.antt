use Rattle.std.proofs.Common.{[], ◌∷◌, ◌∙◌, length, sym, true}
use Rattle.core_state.specs.Events.{Event}
use Rattle.transactions.specs.Kinds.{in_any, in_flushes}
use Rattle.transactions.specs.Memory.{memory_of, held_rows}
use Rattle.transactions.specs.Calls.{unlocks, IsNoStep, IsEndsFirst, IsCommitsFirst}
use Rattle.transactions.proofs.CallLemmas.{declines_still, closed_tests, refused_as}
use Rattle.transactions.proofs.PathLemmas.{first_more}
use Rattle.transactions.proofs.KindLemmas.{refused_may, wider_flushes}
use Rattle.transactions.proofs.EndLemmas.{commits_all, commit_unflushed}
use Rattle.transactions.proofs.session.Session.commit.Goals as goal

pub returns-in-Some-clause-does : goal.returns-in-Some-clause-does
returns-in-Some-clause-does g c o es s k =
    declines_still g.T.Place.stands g.T.Place.leaves g.T.Place.alone in_flushes g.T.Place.cause o (g.met.T.Place.rests o) (g.met.T.Place.joins o) es c.args.place.now (memory_of c.args.self.now) IsNoStep (IsCommitsFirst (memory_of c.args.self.now)) c.in-Some.refusal
    (closed_tests c.args.self.now.is_open c.args.self.now.is_half c.in-Some.refusal (sym c.closed_refusal.ensures ∙ c.in-Some.is)) s k

pub returns-in-Ok-flush_group-clause-does : goal.returns-in-Ok-flush_group-clause-does
returns-in-Ok-flush_group-clause-does g c o es s k =
    let l = c.in-Ok.ensures.does o es s k in
    commits_all g.T.Place.stands g.T.Place.leaves g.T.Place.alone g.T.Place.cause o (g.met.T.Place.rests o) (g.met.T.Place.joins o) es c.args.place.now c.finish.new.place c.flush_group.new.self (memory_of c.args.self.now) (memory_of c.finish.new.self) (λ st w. g.T.Journal.group_waits c.flush_group.new.self st w) c.in-Ok.receipt
    c.in-Ok.ensures.after.session l (c.in-Ok-flush_group.ensures.does o _ l.leads.did.goes.stands)

pub returns-in-Err-flush_group-clause-does : goal.returns-in-Err-flush_group-clause-does
returns-in-Err-flush_group-clause-does g c o es s k =
    let l = c.in-Ok.ensures.does o es s k in
    commit_unflushed g.T.Place.stands g.T.Place.leaves g.T.Place.alone g.T.Place.cause o (g.met.T.Place.rests o) (g.met.T.Place.joins o) es c.args.place.now c.finish.new.place c.flush_group.new.self (memory_of c.args.self.now) (memory_of c.finish.new.self) c.in-Ok.receipt c.in-Err-flush_group.hindrance c.in-Ok.ensures.after.session l
    (c.in-Err-flush_group.ensures.does o _ l.leads.did.goes.stands)

pub returns-in-Err-clause-does : goal.returns-in-Err-clause-does
returns-in-Err-clause-does g c o es s k =
    let m = memory_of c.args.self.now in
    refused_as g.T.Place.stands g.T.Place.leaves g.T.Place.alone in_flushes g.T.Place.cause o (g.met.T.Place.rests o) (g.met.T.Place.joins o) es c.args.place.now c.finish.new.place m (memory_of c.finish.new.self) IsNoStep (IsEndsFirst c.args.self.now.session true) (IsCommitsFirst m) c.in-Err.hindrance
    (λ l f. (f.0, first_more (Event.End c.args.self.now.session true f.0 ∷ []) (unlocks c.args.self.now.session (held_rows m.held (length m.held))) l f.1))
    (refused_may g.T.Place.stands g.T.Place.leaves g.T.Place.alone in_any in_flushes wider_flushes g.T.Place.cause o es c.args.place.now c.finish.new.place m (memory_of c.finish.new.self) IsNoStep (IsEndsFirst c.args.self.now.session true) c.in-Err.hindrance (c.in-Err.ensures.does o es s k))
