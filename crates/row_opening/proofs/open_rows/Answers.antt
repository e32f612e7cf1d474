use Rattle.std.proofs.Common.{refl, ◌∙◌, arith}
use Rattle.row_opening.specs.Opened.{given_of}
use Rattle.row_opening.proofs.Openings.{plain_children, opened}
use Rattle.row_opening.proofs.Shows.{all_words, opened_framed}
use Rattle.row_opening.proofs.open_rows.Goals as goal

pub returns-in_err-rows-clause-opened : goal.returns-in_err-rows-clause-opened
returns-in_err-rows-clause-opened c = opened c.args.pages.now c.args.workers c.args.base c.requires.pages c.args.frames c.args.locks c.requires.frames

pub set_frames-requires-clause-children : goal.set_frames-requires-clause-children
set_frames-requires-clause-children c = plain_children c.args.pages.now c.args.workers c.args.base c.requires.pages (let a = c.requires.frames in let b = c.requires.few in omega arith)

pub returns-clause-opened : goal.returns-clause-opened
returns-clause-opened c = opened c.args.pages.now c.args.workers c.args.base c.requires.pages c.args.frames c.args.locks c.requires.frames

pub seat_of-seat-requires-clause-words : goal.seat_of-seat-requires-clause-words
seat_of-seat-requires-clause-words c =
    let r = c.in_ok-rows.rows in
    let are = c.in_ok-rows.ensures in
    let framed = opened_framed c.args.pages.now c.args.workers c.args.base c.requires.pages c.args.frames c.args.locks c.requires.workers c.requires.frames in
    all_words (given_of c.args.frames c.args.locks c.args.workers c.args.base c.args.pages.now) _ _ framed
    (λ frames locks workers. given_of frames locks workers c.args.base c.args.pages.now) refl r.frames r.locks r.workers are.0 are.1 are.2
    r.words.items r.words.len c.deref_mut.result.now c.set_frames.new.words c.deref_mut-2.result.now c.set_workers.new.words
    (c.deref_mut.ensures.value ∙ are.3) c.deref_mut.ensures.len c.deref_mut-2.ensures.value c.set_frames.ensures c.set_workers.ensures
