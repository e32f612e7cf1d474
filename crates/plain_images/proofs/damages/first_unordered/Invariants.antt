use Rattle.std.proofs.Common.{◌≡◌, ℕ}
use Rattle.image_model.specs.Damage as rules
use Rattle.plain_images.specs.Images.{log_of}
use Rattle.plain_images.specs.Damages.{told, unordered_in}
use Rattle.plain_images.proofs.damages.first_unordered.Given as goal

abbrev pub invariant-loop-place : goal.invariant-loop-place
invariant-loop-place l = told l.first ≡ rules.first_in_logs (λ (w : ℕ). unordered_in (log_of l.logs w)) l.place
