use Rattle.std.proofs.Common.{◌≡◌, ◌++◌, drop}
use Rattle.core_state.specs.Lists as lists
use Rattle.plain_core.proofs.frames.without.Given as goal

abbrev pub invariant-loop-waiting : goal.invariant-loop-waiting
invariant-loop-waiting l = l.others.items ++ lists.without l.page (drop l.waiting-index l.queue) ≡ lists.without l.page l.queue
