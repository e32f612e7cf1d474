use Rattle.std.proofs.Common.{[], ◌∷◌, length, refl}
use Rattle.transactions.specs.Kinds.{in_any}
use Rattle.transactions.specs.Memory.{memory_of, held_rows}
use Rattle.core_state.specs.Events.{Event}
use Rattle.transactions.specs.Calls.{IsEndsFirst}
use Rattle.transactions.proofs.CallLemmas.{knows_more}
use Rattle.transactions.proofs.EndLemmas.{ends_after, latch_refused}
use Rattle.transactions.proofs.session.Session.finish.Goals as goal

pub returns-in-Ok-clause-does : goal.returns-in-Ok-clause-does
returns-in-Ok-clause-does g c o es s k =
    let old = c.args.self.now in
    let i = c.in-Ok.ensures.does o es s k.ties in
    ends_after g.T.Place.stands g.T.Place.leaves g.T.Place.alone in_any g.T.Place.cause o (g.met.T.Place.rests o) (g.met.T.Place.joins o) es c.args.place.now c.latch_rows.new.place c.end_latched.new.place (memory_of old) (memory_of c.end_latched.new.self) (held_rows old.held.items (length old.held.items)) c.args.commit (IsEndsFirst old.session c.args.commit) c.end_latched.result i
    (c.end_latched.ensures.does o _ i.goes.stands (knows_more o es i.more (memory_of old) k i.goes.met i.quiet))

pub returns-in-Err-clause-does : goal.returns-in-Err-clause-does
returns-in-Err-clause-does g c o es s k =
    latch_refused g.T.Place.stands g.T.Place.leaves g.T.Place.alone in_any g.T.Place.cause o (g.met.T.Place.rests o) (g.met.T.Place.joins o) es c.args.place.now c.latch_rows.new.place (memory_of c.args.self.now) (IsEndsFirst c.args.self.now.session c.args.commit) c.in-Err.hindrance (0, (Event.End c.args.self.now.session c.args.commit 0 ∷ [], refl)) k (c.in-Err.ensures.does o es s k.ties)
