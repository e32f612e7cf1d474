use Rattle.std.proofs.Common.{◌∙◌, refl, length}
use Rattle.core_state.specs.Steps.{state_after}
use Rattle.transactions.specs.Kinds.{in_any}
use Rattle.transactions.specs.Memory.{memory_of, held_rows}
use Rattle.transactions.specs.Calls.{IsEndsFirst}
use Rattle.transactions.proofs.EndLemmas.{ends_now, end_failed, no_changes}
use Rattle.transactions.proofs.session.Session.end_latched.Goals as goal

pub returns-in-Ok-clause-does : goal.returns-in-Ok-clause-does
returns-in-Ok-clause-does g c o es s k =
    let old = c.args.self.now in
    let t = c.in-Ok.ensures.does o es (held_rows old.held.items (length old.held.items)) s (k.ties.is_open ∙ c.requires.open)
    (λ e. no_changes ((state_after o es).worker old.session).changes old.count old.undo.items k.ties.undo (c.requires.back e)) in
    ends_now g.T.Place.stands g.T.Place.leaves g.T.Place.alone in_any g.T.Place.cause o (g.met.T.Place.rests o) (g.met.T.Place.joins o) es c.args.place.now c.end.new.self c.unlock_rows.new.place (memory_of old) (memory_of c.unlock_rows.new.self) c.args.commit c.in-Ok.receipt k.ties c.unlock_rows.ensures.none t
    (λ kt. c.unlock_rows.ensures.does o _ t.1.goes.stands kt refl)

pub returns-in-Err-clause-does : goal.returns-in-Err-clause-does
returns-in-Err-clause-does g c o es s k =
    let old = c.args.self.now in
    end_failed g.T.Place.stands g.T.Place.leaves g.T.Place.alone in_any g.T.Place.cause o (g.met.T.Place.rests o) (g.met.T.Place.joins o) es c.args.place.now c.end.new.self (memory_of old) (held_rows old.held.items (length old.held.items)) (IsEndsFirst old.session c.args.commit) c.in-Err.hindrance s
    (c.in-Err.ensures.does o es (held_rows old.held.items (length old.held.items)) s (k.ties.is_open ∙ c.requires.open)
    (λ e. no_changes ((state_after o es).worker old.session).changes old.count old.undo.items k.ties.undo (c.requires.back e)))
