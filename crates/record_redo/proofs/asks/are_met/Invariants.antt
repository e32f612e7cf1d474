use Rattle.std.proofs.Common.{◌≡◌, drop}
use Rattle.record_redo.specs.Pages.{pages_of}
use Rattle.record_redo.specs.Inside.{model_refs, are_met}
use Rattle.record_redo.proofs.asks.are_met.Given as goal

abbrev pub invariant-loop-i : goal.invariant-loop-i
invariant-loop-i l = are_met (pages_of l.pages) l.number (model_refs (drop l.i l.refs)) ≡ are_met (pages_of l.pages) l.number (model_refs l.refs)
