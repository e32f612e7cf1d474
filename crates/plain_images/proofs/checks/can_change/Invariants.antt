use Rattle.std.proofs.Common.{◌≡◌, ◌||◌, not, drop}
use Rattle.map_model.specs.Lists.{all}
use Rattle.page_model.specs.Records as records
use Rattle.page_model.specs.Redo.{can_be}
use Rattle.image_model.specs.Entries.{page_kind}
use Rattle.image_model.specs.Redo.{at_prev}
use Rattle.plain_images.specs.Pages.{format_of}
use Rattle.plain_images.specs.Records.{kind_of, record_of, entry_of, refs_of}
use Rattle.plain_images.specs.Images.{pages_of}
use Rattle.plain_images.proofs.checks.can_change.Given as goal

abbrev pub invariant-loop-one : goal.invariant-loop-one
invariant-loop-one l =
    let page = pages_of l.bases l.placed in
    let g = λ (x : records.Ref). not (at_prev (entry_of l.entry) x.page (page x.page)) || can_be (format_of 0) (page_kind (kind_of l.entry.kind)) (record_of l.entry) x.page (page x.page).node in
    all g (refs_of l.entry.refs.items) ≡ all g (refs_of (drop l.one-index l.entry.refs.items))
