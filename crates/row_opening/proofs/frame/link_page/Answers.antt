use Rattle.std.proofs.Common.{◌<◌, ◌≤◌, ◌^◌, ◌∷◌, ℕ, List, [], length, take, drop, sym, ap, subst, ◌∙◌, arith}
use Rattle.std.proofs.lemmas.Bool.{lt-ltb, le-ltb}
use Rattle.row_opening.specs.Inside.{turned, ArePlain, page_row}
use Rattle.row_opening.proofs.Links.{pairs_of_row, linked_row, row_long, leaf_page, inner_page}
use Rattle.row_opening.proofs.frame.link_page.Goals as goal

pub link-requires-clause-room : goal.link-requires-clause-room
link-requires-clause-room c = let b = c.count.ensures.bound in omega arith

pub link-requires-clause-plain : goal.link-requires-clause-plain
link-requires-clause-plain c =
    let p = c.args.page.now in
    let room : length p.node.pairs ≤ 60 = let a = c.count.ensures.answer in let b = c.count.ensures.bound in omega arith in
    let pairs = pairs_of_row p (2 ^ 63 ∷ p.gsn ∷ []) c.args.row.now room c.requires.page in
    let inner = lt-ltb 0 p.node.level (subst (λ n. 0 < n) c.level.ensures.answer c.if-level-gt0.true) in
    let P : ℕ × List ℕ → Type 0 = λ z. ArePlain z.0 z.1 in
    subst P (λ i. (sym c.count.ensures.answer i, sym pairs i)) (c.requires.children inner)

pub slice_bounds-link-end : goal.slice_bounds-link-end
slice_bounds-link-end c = let long = ap length c.requires.page in let wide = row_long c.args.page.now in omega arith

pub returns-then-level-gt0 : goal.returns-then-level-gt0
returns-then-level-gt0 c =
    let p = c.args.page.now in
    let row = c.args.row.now in
    let room : length p.node.pairs ≤ 60 = let a = c.count.ensures.answer in let b = c.count.ensures.bound in omega arith in
    let inner = lt-ltb 0 p.node.level (subst (λ n. 0 < n) c.level.ensures.answer c.if-level-gt0.true) in
    linked_row p (2 ^ 63 ∷ p.gsn ∷ []) row c.link.new.pairs room c.requires.page (c.link.ensures ∙ ap (λ n. turned n (take 120 (drop 7 row))) c.count.ensures.answer)
    ∙ ap page_row (sym (inner_page p inner))

pub returns-else-level-gt0 : goal.returns-else-level-gt0
returns-else-level-gt0 c =
    let p = c.args.page.now in
    let leaf = le-ltb 0 p.node.level (subst (λ n. n ≤ 0) c.level.ensures.answer c.if-level-gt0.false) in
    c.requires.page ∙ ap page_row (sym (leaf_page p leaf))
