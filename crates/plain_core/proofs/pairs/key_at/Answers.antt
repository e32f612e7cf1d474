use Rattle.std.proofs.Common.{◌∙◌, ap, map}
use Rattle.std.proofs.lemmas.List.{drop_more}
use Rattle.plain_images.specs.Pages.{pair_of}
use Rattle.plain_core.proofs.Placings.{key_more}
use Rattle.plain_core.proofs.pairs.key_at.Goals as goal

pub loop-pair-preserved : goal.loop-pair-preserved
loop-pair-preserved c =
    c.loop-pair.invariant ∙ key_more c.loop-pair.left _ _ _ c.if-left-eq0.false (ap (λ xs. map pair_of xs) (drop_more c.args.pairs.now c.loop-pair.pair-index (record { key = 0; word = 0 }) c.loop-pair-test.true))
