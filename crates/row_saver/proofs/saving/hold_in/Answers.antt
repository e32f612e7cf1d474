use Rattle.std.proofs.Common.{◌<◌, [], sym, subst, arith}
use Rattle.btree_descent.specs.row_words.Moments.{pager}
use Rattle.btree_descent.specs.rows_trait.Turns.{Ran}
use Rattle.held_rows.specs.Latching as latching
use Rattle.held_rows.specs.declared.latching.Refusal.{Refusal}
use Rattle.page_provider.proofs.Glances.{takes}
use Rattle.row_saver.proofs.RunLemmas.{acts, missed, spent}
use Rattle.row_saver.proofs.saving.hold_in.Goals as goal

pub latch-requires-clause-row : goal.latch-requires-clause-row
latch-requires-clause-row g c = let low : c.args.frame < (g.R.Rows.shape c.args.rows.now).sizes.frames = subst (λ n. c.args.frame < n) (sym c.requires.sized.shape) c.requires.frame in omega arith

pub latch-requires-clause-actor : goal.latch-requires-clause-actor
latch-requires-clause-actor g c = acts (g.R.Rows.shape c.args.rows.now) (g.R.Rows.view c.args.seat.now) pager c.requires.alone

pub returns-in-Ok-clause-ok : goal.returns-in-Ok-clause-ok
returns-in-Ok-clause-ok g c = let o = c.in-Ok.ensures.ok in (o.0, (takes c.args.frame c.args.frames c.requires.sized c.requires.frame c.requires.held o.1).one)

pub returns-in-Ok-clause-ran : goal.returns-in-Ok-clause-ran
returns-in-Ok-clause-ran g c = subst (λ b. Ran b (g.R.Rows.view c.args.seat.now) [] (g.R.Rows.view c.latch.new.seat)) c.requires.alone c.in-Ok.ensures.ok.1.ran

pub returns-in-Err-RowSpent-clause-missed : goal.returns-in-Err-RowSpent-clause-missed
returns-in-Err-RowSpent-clause-missed g c = λ _. missed c.requires.alone c.requires.held c.in-Err-RowSpent.ensures.err

pub returns-in-Err-RowSpent-clause-spent : goal.returns-in-Err-RowSpent-clause-spent
returns-in-Err-RowSpent-clause-spent g c = λ _.
    let v = g.R.Rows.view c.args.seat.now in
    let w = g.R.Rows.view c.latch.new.seat in
    spent c.requires.frame (subst (λ (q : Refusal). latching.Caused c.args.frame v q w) c.in-Err-RowSpent.field-0-is c.in-Err-RowSpent.ensures.cause)
