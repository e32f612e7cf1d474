use Rattle.std.proofs.Common.{◌≡◌}
use Rattle.image_model.specs.Undo.{nodes_of}
use Rattle.plain_images.specs.Pages.{pairs_of}
use Rattle.plain_images.specs.Images.{redone_of}
use Rattle.plain_images.specs.Words as listed
use Rattle.plain_images.proofs.words.words_in.Given as goal

abbrev pub invariant-loop-place : goal.invariant-loop-place
invariant-loop-place l = pairs_of l.words.items ≡ listed.words_in l.place (nodes_of (redone_of l.bases l.redone))
