use Rattle.std.proofs.Common.{drop}
use Rattle.plain_images.specs.Records.{entry_of, refs_of}
use Rattle.plain_images.specs.Images.{pages_of, placed_by}
use Rattle.plain_images.proofs.LoopFacts.{HasPlaced}
use Rattle.plain_images.proofs.redone.place.Given as goal

abbrev pub invariant-loop-one : goal.invariant-loop-one
invariant-loop-one l =
    let page = pages_of l.bases l.placed in
    HasPlaced l.newer.items (placed_by page (entry_of l.entry) (refs_of (drop l.one-index l.entry.refs.items))) (placed_by page (entry_of l.entry) (refs_of l.entry.refs.items))
