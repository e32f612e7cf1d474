use Rattle.std.proofs.Common.{ℕ, length, drop}
use Rattle.page_model.specs.Tree as tree
use Rattle.page_model.specs.Redo.{is_some}
use Rattle.image_model.specs.Undo.{nodes_of}
use Rattle.plain_images.specs.Records.{entries_of}
use Rattle.plain_images.specs.Images.{redone_of}
use Rattle.plain_images.specs.Replayed.{lost_in}
use Rattle.plain_images.specs.Damages.{told, without_in}
use Rattle.plain_images.proofs.LoopFacts.{IsFirst}
use Rattle.plain_images.proofs.damages.first_lacking.Given as goal

abbrev pub invariant-loop-left : goal.invariant-loop-left
invariant-loop-left l =
    let records = l.replayed.records.items in
    let node = nodes_of (redone_of l.bases l.replayed.redone) in
    IsFirst (length records) l.left (told l.first) (without_in (lost_in l.replayed) (λ (k : ℕ). is_some (tree.entry (length l.bases) node k)) (entries_of (drop l.left records)))

abbrev pub decreases-loop-left : goal.decreases-loop-left
decreases-loop-left l = l.left
