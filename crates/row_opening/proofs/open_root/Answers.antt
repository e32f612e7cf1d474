use Rattle.std.proofs.Common.{◌+◌, ◌*◌, refl, subst, ◌∙◌}
use Rattle.row_opening.specs.Inside.{root_row, AreTiled}
use Rattle.row_opening.specs.Rooted.{rooted_of}
use Rattle.row_opening.proofs.Openings.{here_at, rooted}
use Rattle.row_opening.proofs.Shows.{all_words, rooted_framed}
use Rattle.row_opening.proofs.open_root.Goals as goal

pub returns-in_err-rows-clause-opened : goal.returns-in_err-rows-clause-opened
returns-in_err-rows-clause-opened g c = rooted c.args.pages.now c.args.workers c.args.base c.requires.pages g.F.Faith.faithful c.args.frames c.args.locks

pub returns-clause-opened : goal.returns-clause-opened
returns-clause-opened g c = rooted c.args.pages.now c.args.workers c.args.base c.requires.pages g.F.Faith.faithful c.args.frames c.args.locks

pub seat_of-seat-requires-clause-words : goal.seat_of-seat-requires-clause-words
seat_of-seat-requires-clause-words g c =
    let r = c.in_ok-rows.rows in
    let are = c.in_ok-rows.ensures in
    let old = c.deref_mut.result.now in
    let new = c.set_root.new.words in
    let framed = rooted_framed c.args.pages.now c.args.workers c.args.base c.requires.pages c.args.frames c.args.locks c.requires.workers g.F.Faith.faithful c.requires.some in
    let root = c.index-pages-0.is ∙ here_at c.args.pages.now 0 c.index-pages-0.result c.requires.pages.tree.some in
    let rows = subst (λ x. AreTiled (root_row x) (2 + 4 * c.args.workers) 129 c.args.frames old new) root c.set_root.ensures in
    all_words (rooted_of g.F.Faith.faithful c.args.frames c.args.locks c.args.workers c.args.base c.args.pages.now) _ _ framed
    (λ frames locks workers. rooted_of g.F.Faith.faithful frames locks workers c.args.base c.args.pages.now) refl r.frames r.locks r.workers are.0 are.1 are.2
    r.words.items r.words.len old new c.deref_mut-2.result.now c.set_workers.new.words
    (c.deref_mut.ensures.value ∙ are.3) c.deref_mut.ensures.len c.deref_mut-2.ensures.value rows c.set_workers.ensures
