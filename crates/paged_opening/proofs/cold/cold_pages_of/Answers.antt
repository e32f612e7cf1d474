use Rattle.std.proofs.Common.{◌≡◌, ℕ, List, length, sym, ap, ◌∙◌, subst, arith}
use Rattle.page_model.specs.Page.{Page}
use Rattle.session_state.specs.row_opening.Opened.{page_or}
use Rattle.cold_pages.specs.declared.kept.Kept.{Kept}
use Rattle.cold_pages.specs.Kept.{AreWithin, left}
use Rattle.paged_opening.specs.Opened.{cold_to}
use Rattle.paged_opening.proofs.ColdLemmas.{cold_end, cold_length, cold_next}
use Rattle.paged_opening.proofs.FreeLemmas.{at_page}
use Rattle.paged_opening.proofs.cold.cold_pages_of.Goals as goal

pub leave-requires-clause-page : goal.leave-requires-clause-page
leave-requires-clause-page c =
    let e = ap (λ (t : List Kept). length t) c.loop-page.invariant.1 in
    let l = cold_length c.args.pages.now c.loop-page.page in
    let more = c.loop-page-test.true in
    omega arith

pub leave-requires-clause-within : goal.leave-requires-clause-within
leave-requires-clause-within c =
    let pages = c.args.pages.now in
    let n = c.loop-page.page in
    let long : length c.loop-page.kept ≡ length pages = ap (λ (t : List Kept). length t) c.loop-page.invariant.1 ∙ cold_length pages n in
    let at = ap page_or (at_page pages n c.index-pages-page.result c.loop-page-test.true c.index-pages-page.is) in
    subst (λ (m : ℕ). AreWithin m c.index-pages-page.result.node) (sym long) (subst (λ (x : Page). AreWithin (length pages) x.node) at (c.requires.within n c.loop-page-test.true))

pub loop-page-preserved : goal.loop-page-preserved
loop-page-preserved c =
    let pages = c.args.pages.now in
    let n = c.loop-page.page in
    let some = c.loop-page.invariant.0 in
    let at = ap page_or (at_page pages n c.index-pages-page.result c.loop-page-test.true c.index-pages-page.is) in (
      omega arith,
      c.leave.ensures ∙ (ap (λ (t : List Kept). left t n c.index-pages-page.result) c.loop-page.invariant.1 ∙ (ap (λ (x : Page). left (cold_to pages n) n x) (sym at) ∙ sym (cold_next pages n some))),
    )

pub returns : goal.returns
returns c =
    let past = c.loop-page-test.false in
    c.loop-page.invariant.1 ∙ cold_end c.args.pages.now c.loop-page.page (omega arith) c.loop-page.auto.page-end
