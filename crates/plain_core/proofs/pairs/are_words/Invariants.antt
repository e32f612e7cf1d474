use Rattle.std.proofs.Common.{◌≡◌, leb, map, drop}
use Rattle.map_model.specs.Lists.{all}
use Rattle.page_model.specs.Pairs as paired
use Rattle.plain_images.specs.Pages.{pair_of}
use Rattle.plain_core.proofs.pairs.are_words.Given as goal

abbrev pub invariant-loop-pair : goal.invariant-loop-pair
invariant-loop-pair l =
    let g = λ (x : paired.Pair). leb x.word l.dead in
    all g (map pair_of l.pairs) ≡ all g (map pair_of (drop l.pair-index l.pairs))
