use Rattle.std.proofs.Common.{◌≡◌, ltb, drop}
use Rattle.map_model.specs.Lists.{all}
use Rattle.image_model.specs.Entries.{Entry}
use Rattle.plain_images.specs.Records.{entries_of}
use Rattle.plain_images.proofs.damages.is_above.Given as goal

abbrev pub invariant-loop-other : goal.invariant-loop-other
invariant-loop-other l =
    let g = λ (x : Entry). ltb x.number l.entry.number in
    all g (entries_of l.before) ≡ all g (entries_of (drop l.other-index l.before))
