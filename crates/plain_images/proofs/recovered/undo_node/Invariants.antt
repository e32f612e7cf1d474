use Rattle.std.proofs.Common.{◌≡◌, drop}
use Rattle.image_model.specs.Undo.{undo_node}
use Rattle.plain_images.specs.Pages.{node_of}
use Rattle.plain_images.specs.Records.{entries_of}
use Rattle.plain_images.specs.Replayed.{lost_in}
use Rattle.plain_images.proofs.recovered.undo_node.Given as goal

abbrev pub invariant-loop-entry : goal.invariant-loop-entry
invariant-loop-entry l =
    undo_node (lost_in l.replayed) (entries_of l.replayed.records.items) (node_of l.initial.undone) ≡ undo_node (lost_in l.replayed) (entries_of (drop l.entry-index l.replayed.records.items)) (node_of l.undone)
