use Rattle.std.proofs.Common.{drop}
use Rattle.disk_image.specs.Records.{entry_of}
use Rattle.record_redo.specs.Inside.{model_refs}
use Rattle.record_redo.proofs.WriteLemmas.{IsWriting}
use Rattle.record_redo.proofs.apply.write_all.Given as goal

abbrev pub invariant-loop-i : goal.invariant-loop-i
invariant-loop-i l = IsWriting l.fn.pages l.pages l.fn.changed l.changed (entry_of l.log l.entry) l.entry.body (model_refs l.refs) (model_refs (drop l.i l.refs))
