use Rattle.std.proofs.Common.{◌≡◌}
use Rattle.page_model.specs.Tree.{entry}
use Rattle.image_model.specs.Undo.{nodes_of}
use Rattle.plain_images.specs.Images.{redone_of}
use Rattle.plain_images.proofs.leaves.entry.Given as goal

abbrev pub invariant-loop-place : goal.invariant-loop-place
invariant-loop-place l = l.found ≡ entry l.place (nodes_of (redone_of l.bases l.redone)) l.key
