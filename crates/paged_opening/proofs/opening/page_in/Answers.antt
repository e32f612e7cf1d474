use Rattle.std.proofs.Common.{◌<◌, ℕ, List, length, refl, subst, sym}
use Rattle.page_model.specs.Page.{Page}
use Rattle.cold_pages.specs.Kept.{AreWithin}
use Rattle.session_state.specs.row_opening.Opened.{page_at}
use Rattle.session_state.specs.row_words.Moments.{format_of}
use Rattle.paged_opening.proofs.BeginLemmas.{paged}
use Rattle.paged_opening.proofs.ColdLemmas.{within}
use Rattle.paged_opening.proofs.opening.page_in.Goals as goal

pub returns : goal.returns
returns g c =
    let rows = c.in_ok-rows.ensures in
    paged c.every_opened.ensures c.every_fresh.ensures c.every_kept.ensures c.every_new.ensures g.F.Faith.faithful c.args.frames c.args.locks c.args.recovered c.requires.whole c.are_pages.ensures c.requires.frames _
    _ c.as_slice.result.now c.as_slice-2.result.now c.as_slice-3.result.now c.in_ok-marks.marks c.in_ok-slots.slots c.as_slice-4.result.now c.in_ok-kept.kept c.as_slice-5.result.now
    c.logs-workers.ensures.answer c.as_slice.ensures.value c.as_slice-2.ensures.value c.as_slice-3.ensures.value c.as_slice-4.ensures.value c.as_slice-5.ensures.value
    c.in_ok-marks.ensures c.in_ok-slots.ensures c.in_ok-kept.ensures
    rows.sizes rows.picture rows.view rows.opened c.in_ok-pager.ensures.made c.in_ok-free.ensures refl refl refl

pub cold_pages_of-requires-clause-within : goal.cold_pages_of-requires-clause-within
cold_pages_of-requires-clause-within g c =
    let pages = c.args.recovered.pages.items in
    subst (λ (xs : List Page). (p : ℕ) → p < length xs → AreWithin (length xs) (page_at xs p).node) (sym c.as_slice-4.ensures.value)
    (within c.every_kept.ensures c.every_new.ensures (format_of (length pages)) pages c.are_pages.ensures.tree refl)
