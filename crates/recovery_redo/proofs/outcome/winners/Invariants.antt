use Rattle.std.proofs.Common.{◌≡◌, ◌≤◌, take, length}
use Rattle.disk_image.specs.image_model.Ends as ends
use Rattle.recovery_scan.specs.Records.{entries_of}
use Rattle.recovery_redo.proofs.outcome.winners.Given as goal

abbrev pub invariant-loop-i : goal.invariant-loop-i
invariant-loop-i l = (l.winners ≡ length (ends.winners l.far (entries_of (take l.i l.index)))) × (l.winners ≤ l.i)
