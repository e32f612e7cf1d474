use Rattle.std.proofs.Common.{◌≡◌, ◌&&◌, not}
use Rattle.page_model.specs.Check as check
use Rattle.core_state.specs.Lists as lists
use Rattle.core_state.specs.States as states
use Rattle.plain_core.specs.States.{state_of}
use Rattle.plain_core.proofs.state.Core.has_hot_child.Given as goal

abbrev pub invariant-loop-child : goal.invariant-loop-child
invariant-loop-child l = l.none ≡ lists.all_below l.child (λ c. not (check.names_page ((state_of l.self).page l.page).node c && states.is_hot ((state_of l.self).place c)))
