use Rattle.std.proofs.Common.{length, slice_get, refl, ap, ◌∙◌, arith}
use Rattle.row_opening.specs.Inside.{frame_row}
use Rattle.row_opening.proofs.Tiles.{tiled_zeros, tiled_more}
use Rattle.row_opening.proofs.frame.set_frames.Goals as goal

pub set_frame-requires-clause-zeros : goal.set_frame-requires-clause-zeros
set_frame-requires-clause-zeros c =
    let i = c.loop-frame.invariant in
    let long = i.long in let size = c.requires.size in let l = c.loop-frame-test.true in
    tiled_zeros (λ p. frame_row (slice_get c.args.pages.now p)) c.args.first c.loop-frame.frame c.args.words.now c.loop-frame.words i c.requires.zeros _ _ refl (omega arith) (omega arith)

pub loop-frame-preserved : goal.loop-frame-preserved
loop-frame-preserved c =
    let i = c.loop-frame.invariant in
    let long = i.long in let size = c.requires.size in let l = c.loop-frame-test.true in
    tiled_more (λ p. frame_row (slice_get c.args.pages.now p)) c.args.first c.loop-frame.frame c.args.words.now c.loop-frame.words c.set_frame.new.row i _ _ refl (omega arith) (omega arith) c.set_frame.ensures (c.set_frame.auto.row ∙ ap length (tiled_zeros (λ p. frame_row (slice_get c.args.pages.now p)) c.args.first c.loop-frame.frame c.args.words.now c.loop-frame.words i c.requires.zeros _ _ refl (omega arith) (omega arith)))
