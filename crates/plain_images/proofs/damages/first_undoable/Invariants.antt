use Rattle.std.proofs.Common.{length, drop}
use Rattle.plain_images.specs.Pages.{format_of}
use Rattle.plain_images.specs.Records.{entries_of}
use Rattle.plain_images.specs.Images.{bases_of}
use Rattle.plain_images.specs.Damages.{told, undoable_in}
use Rattle.plain_images.proofs.LoopFacts.{IsFirst}
use Rattle.plain_images.proofs.damages.first_undoable.Given as goal

abbrev pub invariant-loop-left : goal.invariant-loop-left
invariant-loop-left l = IsFirst (length l.records) l.left (told l.first) (undoable_in (format_of (length l.bases)) (bases_of l.bases) (entries_of (drop l.left l.records)))

abbrev pub decreases-loop-left : goal.decreases-loop-left
decreases-loop-left l = l.left
