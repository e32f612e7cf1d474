use Rattle.std.proofs.Common.{◌≡◌, ltb, drop}
use Rattle.map_model.specs.Lists.{all}
use Rattle.page_model.specs.Records as records
use Rattle.plain_images.specs.Records.{refs_of}
use Rattle.plain_images.proofs.checks.names_pages.Given as goal

abbrev pub invariant-loop-one : goal.invariant-loop-one
invariant-loop-one l =
    let g = λ (x : records.Ref). ltb x.page l.pages in
    all g (refs_of l.entry.refs.items) ≡ all g (refs_of (drop l.one-index l.entry.refs.items))
