use Rattle.std.proofs.Common.{◌≡◌, ◌||◌, ◌==◌, leb, drop}
use Rattle.map_model.specs.Lists.{all}
use Rattle.page_model.specs.Records as records
use Rattle.plain_images.specs.Records.{refs_of}
use Rattle.plain_images.specs.Images.{pages_of}
use Rattle.plain_images.proofs.redone.stands.Given as goal

abbrev pub invariant-loop-one : goal.invariant-loop-one
invariant-loop-one l =
    let page = pages_of l.bases l.placed in
    let g = λ (f : records.Ref). ((page f.page).gsn == f.prev) || leb l.entry.number (page f.page).gsn in
    all g (refs_of l.entry.refs.items) ≡ all g (refs_of (drop l.one-index l.entry.refs.items))
