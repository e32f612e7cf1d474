use Rattle.std.proofs.Common.{◌≡◌, ℕ}
use Rattle.page_model.specs.Check as check
use Rattle.image_model.specs.Images as images
use Rattle.plain_images.specs.Images.{base_of}
use Rattle.plain_images.proofs.damages.least_missing.Given as goal

abbrev pub invariant-loop-page : goal.invariant-loop-page
invariant-loop-page l = l.first ≡ check.first_bad l.page (λ (p : ℕ). images.has_base (base_of l.bases p))
