use Rattle.std.proofs.Common.{◌≡◌, map}
use Rattle.image_model.specs.Undo.{nodes_of}
use Rattle.plain_images.specs.Pages.{node_of}
use Rattle.plain_images.specs.Images.{redone_of}
use Rattle.plain_images.specs.Damages.{taken}
use Rattle.plain_images.proofs.damages.nodes_in.Given as goal

abbrev pub invariant-loop-place : goal.invariant-loop-place
invariant-loop-place l = map node_of l.nodes.items ≡ taken l.place (nodes_of (redone_of l.bases l.redone))
