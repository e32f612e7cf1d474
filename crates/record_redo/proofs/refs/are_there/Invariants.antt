use Rattle.std.proofs.Common.{◌≡◌, drop}
use Rattle.record_redo.specs.Inside.{model_refs, are_below}
use Rattle.record_redo.proofs.refs.are_there.Given as goal

abbrev pub invariant-loop-i : goal.invariant-loop-i
invariant-loop-i l = are_below l.count (model_refs (drop l.i l.refs)) ≡ are_below l.count (model_refs l.refs)
