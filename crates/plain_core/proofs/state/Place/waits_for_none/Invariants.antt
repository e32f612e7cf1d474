use Rattle.std.proofs.Common.{◌≡◌, not}
use Rattle.core_state.specs.Lists as lists
use Rattle.core_state.specs.States as states
use Rattle.plain_core.specs.States.{place_of}
use Rattle.plain_core.proofs.state.Place.waits_for_none.Given as goal

abbrev pub invariant-loop-worker : goal.invariant-loop-worker
invariant-loop-worker l = l.none ≡ lists.all_below l.worker (λ w. not (states.waits_for (place_of l.self) w))
