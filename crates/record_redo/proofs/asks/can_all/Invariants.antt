use Rattle.std.proofs.Common.{◌≡◌, drop}
use Rattle.record_redo.specs.Pages.{pages_of}
use Rattle.record_redo.specs.Inside.{model_refs, can_all}
use Rattle.record_redo.proofs.asks.can_all.Given as goal

abbrev pub invariant-loop-i : goal.invariant-loop-i
invariant-loop-i l = can_all l.body (pages_of l.pages) (model_refs (drop l.i l.refs)) ≡ can_all l.body (pages_of l.pages) (model_refs l.refs)
