use Rattle.std.proofs.Common.{◌∙◌, ◌∷◌, ◌+◌, ap, sym, drop, refl}
use Rattle.std.proofs.lemmas.List.{drop_all, drop_more}
use Rattle.plain_core.specs.Events.{event_of, events_of}
use Rattle.plain_core.specs.States.{opening}
use Rattle.plain_core.proofs.Runs.{run_start, run_step, run_done, run_spent, if_number}
use Rattle.plain_core.proofs.state.Core.run.Goals as goal

pub loop-event-init : goal.loop-event-init
loop-event-init c = λ x. run_start (opening c.args.self.now.settings x) c.args.self.now (events_of c.args.events.now) _ refl

pub loop-event-preserved : goal.loop-event-preserved
loop-event-preserved c =
    let h = ap events_of (drop_more c.args.events.now c.loop-event.event-index c.event-item.result c.loop-event-test.true)
    ∙ ap (λ e. event_of e ∷ events_of (drop (c.loop-event.event-index + 1) c.args.events.now)) (sym c.event-item.is) in
    λ x. run_step c.args.self.now c.loop-event.self c.step.new.self x _ c.in-Ok.field-0 (events_of c.args.events.now) _ _ (c.loop-event.invariant x) h c.in-Ok.ensures.answer

pub returns-clause-after : goal.returns-clause-after
returns-clause-after c = λ x. run_done (opening c.args.self.now.settings x) c.args.self.now c.loop-event.self (events_of c.args.events.now) _ (c.loop-event.invariant x) (ap events_of (drop_all c.loop-event.event-index c.args.events.now c.loop-event-test.false))

pub returns-in-Err-clause-cause : goal.returns-in-Err-clause-cause
returns-in-Err-clause-cause c =
    let h = ap events_of (drop_more c.args.events.now c.loop-event.event-index c.event-item.result c.loop-event-test.true)
    ∙ ap (λ e. event_of e ∷ events_of (drop (c.loop-event.event-index + 1) c.args.events.now)) (sym c.event-item.is) in
    if_number c.in-Err.refusal _ _ (λ f x. run_spent c.args.self.now c.loop-event.self x _ (events_of c.args.events.now) _ _ (c.loop-event.invariant x) h f) c.in-Err.ensures.cause
