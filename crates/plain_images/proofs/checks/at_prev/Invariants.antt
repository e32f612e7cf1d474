use Rattle.std.proofs.Common.{◌≡◌, ◌&&◌, ◌==◌, drop}
use Rattle.map_model.specs.Lists.{any}
use Rattle.page_model.specs.Records as records
use Rattle.plain_images.specs.Records.{refs_of}
use Rattle.plain_images.proofs.checks.at_prev.Given as goal

abbrev pub invariant-loop-one : goal.invariant-loop-one
invariant-loop-one l =
    let g = λ (x : records.Ref). (x.page == l.page) && (l.number == x.prev) in
    any g (refs_of l.entry.refs.items) ≡ any g (refs_of (drop l.one-index l.entry.refs.items))
