use Rattle.std.proofs.Common.{◌≡◌, true, length, set, sym, ap, ◌∙◌, arith}
use Rattle.paged_opening.proofs.FreeLemmas.{at_page, free_next, free_to, live_next, to_all, to_length}
use Rattle.paged_opening.proofs.free.free_pages_of.Goals as goal
use Rattle.paged_opening.proofs.free.free_pages_of.Goals.{then-not-is_live, else-not-is_live}

pub insert-requires : goal.insert-requires
insert-requires c =
    let e = ap length c.loop-page.invariant in
    let l = to_length c.loop-page.page c.args.pages.now in
    let more = c.loop-page-test.true in
    omega arith

pub loop-page-preserved : goal.loop-page-preserved
loop-page-preserved c =
    let pages = c.args.pages.now in
    let n = c.loop-page.page in
    let at = at_page pages n c.index-pages-page.result c.loop-page-test.true c.index-pages-page.is in
    elim c.if-not-is_live.branch [
      | then-not-is_live w ↦ w.free-is ∙ (w.insert.ensures ∙ (ap (λ ys. set ys n true) c.loop-page.invariant ∙ sym (free_next n pages c.index-pages-page.result at (sym c.is_live.ensures ∙ w.if-not-is_live.true))))
      | else-not-is_live w ↦ w.free-is ∙ (c.loop-page.invariant ∙ sym (live_next n pages c.index-pages-page.result at (sym c.is_live.ensures ∙ w.if-not-is_live.false)))
    ]

pub returns : goal.returns
returns c =
    let pages = c.args.pages.now in
    let past = c.loop-page-test.false in
    let few = c.loop-page.auto.page-end in
    let last : c.loop-page.page ≡ length pages = omega arith in
    c.loop-page.invariant ∙ (ap (λ n. free_to n pages) last ∙ to_all pages)
