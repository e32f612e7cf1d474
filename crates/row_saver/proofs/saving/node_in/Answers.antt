use Rattle.std.proofs.Common.{◌∙◌, [], ap, subst}
use Rattle.btree_descent.specs.row_words.Moments.{Moment, pager}
use Rattle.btree_descent.specs.rows_trait.Turns.{Ran}
use Rattle.row_image.specs.Images.{written}
use Rattle.row_saver.proofs.FrameLemmas.{still}
use Rattle.row_saver.proofs.RunLemmas.{acts, stays}
use Rattle.row_saver.proofs.saving.node_in.Goals as goal

pub image-requires-clause-actor : goal.image-requires-clause-actor
image-requires-clause-actor g c = acts (g.R.Rows.shape c.args.rows.now) (g.R.Rows.view c.args.seat.now) pager c.requires.alone

pub image-requires-clause-stays : goal.image-requires-clause-stays
image-requires-clause-stays g c = (c.requires.stands.0, stays c.every_stay.ensures c.requires.alone c.requires.stands.1)

pub unreachable-requires : goal.unreachable-requires
unreachable-requires g c = c.in-Err.ensures.quiet c.requires.alone c.requires.held

pub returns-clause-looks : goal.returns-clause-looks
returns-clause-looks g c = record {
  ran = subst (λ b. Ran b (g.R.Rows.view c.args.seat.now) [] (g.R.Rows.view c.image.new.seat)) c.requires.alone c.in-Ok.ensures.answer.ran;
  held = c.in-Ok.ensures.fits.2 ∙ c.requires.held;
}

pub returns-clause-written : goal.returns-clause-written
returns-clause-written g c = λ p here.
    let r = subst (λ b. Ran b (g.R.Rows.view c.args.seat.now) [] (g.R.Rows.view c.image.new.seat)) c.requires.alone c.in-Ok.ensures.answer.ran in
    (c.in-Ok.ensures.answer.written p (stays c.every_stay.ensures c.requires.alone here)).page ∙ ap (λ (m : Moment). written m.core p c.args.generation) (still r)
