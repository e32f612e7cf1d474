use Rattle.std.proofs.Common.{◌≡◌, ◌||◌, not}
use Rattle.page_model.specs.Check as check
use Rattle.core_state.specs.Lists as lists
use Rattle.core_state.specs.States as states
use Rattle.plain_core.specs.States.{state_of}
use Rattle.plain_core.proofs.state.Core.has_hot_parent.Given as goal

abbrev pub invariant-loop-parent : goal.invariant-loop-parent
invariant-loop-parent l = l.hot ≡ lists.all_below l.parent (λ q. not (check.names_page ((state_of l.self).page q).node l.page) || states.is_hot ((state_of l.self).place q))
