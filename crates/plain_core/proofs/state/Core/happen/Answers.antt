use Rattle.std.proofs.Common.{sym, subst, IfOk}
use Rattle.core_state.specs.Steps as steps
use Rattle.plain_core.specs.declared.event.Event.{Event}
use Rattle.plain_core.specs.Events.{event_of}
use Rattle.plain_core.specs.States.{Rest, Becomes, opening, state_of}
use Rattle.plain_core.proofs.state.Core.happen.Goals as goal

pub returns-in-Read : goal.returns-in-Read
returns-in-Read c =
    let P : Event → Type 0 = λ e. IfOk c.read.result (λ _. (x : Rest c.args.self.now.settings) → Becomes c.args.self.now c.read.new.self (steps.happens (opening c.args.self.now.settings x) (state_of c.args.self.now) (event_of e))) in
    subst P (sym c.in-Read.is) c.read.ensures

pub returns-in-Change : goal.returns-in-Change
returns-in-Change c =
    let P : Event → Type 0 = λ e. IfOk c.change.result (λ _. (x : Rest c.args.self.now.settings) → Becomes c.args.self.now c.change.new.self (steps.happens (opening c.args.self.now.settings x) (state_of c.args.self.now) (event_of e))) in
    subst P (sym c.in-Change.is) c.change.ensures

pub returns-in-PutBack : goal.returns-in-PutBack
returns-in-PutBack c =
    let P : Event → Type 0 = λ e. IfOk c.put_back.result (λ _. (x : Rest c.args.self.now.settings) → Becomes c.args.self.now c.put_back.new.self (steps.happens (opening c.args.self.now.settings x) (state_of c.args.self.now) (event_of e))) in
    subst P (sym c.in-PutBack.is) c.put_back.ensures

pub returns-in-Next : goal.returns-in-Next
returns-in-Next c =
    let P : Event → Type 0 = λ e. IfOk c.follow.result (λ _. (x : Rest c.args.self.now.settings) → Becomes c.args.self.now c.follow.new.self (steps.happens (opening c.args.self.now.settings x) (state_of c.args.self.now) (event_of e))) in
    subst P (sym c.in-Next.is) c.follow.ensures

pub returns-in-Cut : goal.returns-in-Cut
returns-in-Cut c =
    let P : Event → Type 0 = λ e. IfOk c.cut_off.result (λ _. (x : Rest c.args.self.now.settings) → Becomes c.args.self.now c.cut_off.new.self (steps.happens (opening c.args.self.now.settings x) (state_of c.args.self.now) (event_of e))) in
    subst P (sym c.in-Cut.is) c.cut_off.ensures
