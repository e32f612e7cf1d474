use Rattle.std.proofs.Common.{◌≡◌, drop}
use Rattle.core_state.specs.Needs.{are_hot}
use Rattle.plain_core.specs.States.{state_of}
use Rattle.plain_core.proofs.state.Core.are_hot.Given as goal

abbrev pub invariant-loop-page : goal.invariant-loop-page
invariant-loop-page l = are_hot (state_of l.self) l.pages ≡ are_hot (state_of l.self) (drop l.page-index l.pages)
