use Rattle.std.proofs.Common.{◌≡◌, ◌++◌, map, drop}
use Rattle.plain_core.specs.Structure.{placed_by, placing_of}
use Rattle.plain_core.specs.Records.{ref_of, entry_of}
use Rattle.plain_core.specs.States.{state_of}
use Rattle.plain_core.proofs.state.Core.placed_by.Given as goal

abbrev pub invariant-loop-one : goal.invariant-loop-one
invariant-loop-one l =
    let page = (state_of l.self).page in
    let r = entry_of l.entry in
    map placing_of l.placed.items ++ placed_by page r (map ref_of (drop l.one-index l.entry.refs.items)) ≡ placed_by page r r.refs
