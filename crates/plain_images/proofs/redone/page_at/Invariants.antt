use Rattle.std.proofs.Common.{◌≡◌, drop}
use Rattle.plain_images.specs.Images.{pages_of}
use Rattle.plain_images.proofs.redone.page_at.Given as goal

abbrev pub invariant-loop-one : goal.invariant-loop-one
invariant-loop-one l = pages_of l.bases l.placed l.page ≡ pages_of l.bases (drop l.one-index l.placed) l.page
