use Rattle.std.proofs.Common.{◌+◌, ◌*◌, ◌-◌, length, refl, ap, ◌∙◌, arith}
use Rattle.row_opening.specs.Inside.{root_row}
use Rattle.row_opening.proofs.Tiles.{untiled, empty_at, tiled_zeros, tiled_more}
use Rattle.row_opening.proofs.frame.set_root.Goals as goal

pub set_page-requires : goal.set_page-requires
set_page-requires c =
    let size = c.requires.size in let some = c.requires.some in
    let words = c.args.words.now in
    record { zeros = tiled_zeros (root_row c.args.root.now) c.args.first 0 words words (untiled (root_row c.args.root.now) c.args.first words) c.requires.zeros _ _ (omega arith) (omega arith) (omega arith) }

pub loop-frame-init : goal.loop-frame-init
loop-frame-init c =
    let size = c.requires.size in let some = c.requires.some in
    let words = c.args.words.now in
    let none = untiled (root_row c.args.root.now) c.args.first words in
    tiled_more (root_row c.args.root.now) c.args.first 0 words words c.set_page.new.row none _ _ (omega arith) (omega arith) (omega arith) c.set_page.ensures
    (c.set_page.auto.row ∙ ap length (tiled_zeros (root_row c.args.root.now) c.args.first 0 words words none c.requires.zeros c.args.first (c.args.first + 129 - c.args.first) (omega arith) (omega arith) (omega arith)))

pub set_empty-requires : goal.set_empty-requires
set_empty-requires c =
    let i = c.loop-frame.invariant in
    let long = i.long in let size = c.requires.size in let l = c.loop-frame-test.true in
    record { zeros = tiled_zeros (root_row c.args.root.now) c.args.first c.loop-frame.frame c.args.words.now c.loop-frame.words i c.requires.zeros _ _ refl (omega arith) (omega arith) }

pub loop-frame-preserved : goal.loop-frame-preserved
loop-frame-preserved c =
    let i = c.loop-frame.invariant in
    let long = i.long in let size = c.requires.size in let l = c.loop-frame-test.true in let some = c.loop-frame.auto.frame in
    let at = c.args.first + 129 * c.loop-frame.frame in
    tiled_more (root_row c.args.root.now) c.args.first c.loop-frame.frame c.args.words.now c.loop-frame.words c.set_empty.new.row i _ _ refl (omega arith) (omega arith)
    (c.set_empty.ensures ∙ empty_at c.args.root.now c.loop-frame.frame some)
    (c.set_empty.auto.row ∙ ap length (tiled_zeros (root_row c.args.root.now) c.args.first c.loop-frame.frame c.args.words.now c.loop-frame.words i c.requires.zeros at (at + 129 - at) refl (omega arith) (omega arith)))
