use Rattle.std.proofs.Common.{refl, suc}
use Rattle.std.proofs.Math.Numerals.{add-one}
use Rattle.plain_images.specs.Images.{log_of}
use Rattle.plain_images.specs.Damages.{told, unordered_in}
use Rattle.plain_images.proofs.DamageLemmas.{first_log_more}
use Rattle.plain_images.proofs.damages.first_unordered.Goals as goal

pub loop-place-preserved : goal.loop-place-preserved
loop-place-preserved c =
    first_log_more (λ w. unordered_in (log_of c.args.logs.now w)) c.loop-place.place _ (told c.loop-place.first) (told c.unordered_of.result) (told c.or_first-first.result)
    (add-one c.loop-place.place) c.loop-place.invariant (c.unordered_of.ensures (suc c.loop-place.place) refl) c.or_first-first.ensures
