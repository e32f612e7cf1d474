use Rattle.std.proofs.Common.{◌≡◌, ◌++◌, map, drop}
use Rattle.core_state.specs.Steps.{refs_of}
use Rattle.plain_core.specs.Records.{ref_of}
use Rattle.plain_core.specs.States.{state_of}
use Rattle.plain_core.proofs.state.Core.refs_of.Given as goal

abbrev pub invariant-loop-page : goal.invariant-loop-page
invariant-loop-page l = map ref_of l.refs.items ++ refs_of (state_of l.self) (drop l.page-index l.pages) ≡ refs_of (state_of l.self) l.pages
