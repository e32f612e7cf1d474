use Rattle.std.proofs.Common.{◌≡◌, not}
use Rattle.core_state.specs.Lists as lists
use Rattle.core_state.specs.States as states
use Rattle.plain_core.specs.States.{state_of}
use Rattle.plain_core.proofs.state.Core.is_empty_frame.Given as goal

abbrev pub invariant-loop-page : goal.invariant-loop-page
invariant-loop-page l = l.none ≡ lists.all_below l.page (λ p. not (states.in_frame ((state_of l.self).place p) l.frame))
