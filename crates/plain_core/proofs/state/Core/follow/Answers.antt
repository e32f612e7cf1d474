use Rattle.std.proofs.Common.{sym, subst, IfOk}
use Rattle.core_state.specs.Steps as steps
use Rattle.plain_core.specs.declared.event.Following.{Following}
use Rattle.plain_core.specs.Events.{answer_of}
use Rattle.plain_core.specs.States.{Rest, Becomes, opening, state_of}
use Rattle.plain_core.proofs.state.Core.follow.Goals as goal

pub returns-in-Pair : goal.returns-in-Pair
returns-in-Pair c =
    let P : Following → Type 0 = λ a. IfOk c.read.result (λ _. (x : Rest c.args.self.now.settings) → Becomes c.args.self.now c.read.new.self (steps.follows (opening c.args.self.now.settings x) (state_of c.args.self.now) c.args.worker c.args.page (answer_of a))) in
    subst P (sym c.in-Pair.is) c.read.ensures
