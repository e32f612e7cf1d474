use Rattle.std.proofs.Common.{◌≡◌, ◌<◌, inl, true, false, sym, ap, subst, arith}
use Rattle.btree_descent.specs.rows_trait.Views.{holds}
use Rattle.held_rows.specs.Latching as latching
use Rattle.held_rows.specs.declared.latching.Refusal.{Refusal}
use Rattle.page_provider.proofs.Glances.{refused, spent_taken, takes}
use Rattle.page_provider.proofs.Loaded.{latched_loaded, moved_loaded}
use Rattle.page_provider.proofs.taking.take.Goals as goal

pub latch-requires-clause-row : goal.latch-requires-clause-row
latch-requires-clause-row g c = let low : c.args.frame < (g.R.Rows.shape c.args.rows.now).sizes.frames = subst (λ n. c.args.frame < n) (sym c.requires.sized.shape) c.requires.frame in omega arith

pub returns-in-Ok-clause-ok : goal.returns-in-Ok-clause-ok
returns-in-Ok-clause-ok g c = let o = c.in-Ok.ensures.ok in (o.0, takes c.args.frame c.args.frames c.requires.sized c.requires.frame c.requires.held o.1)

pub returns-in-Err-Moved-clause-err : goal.returns-in-Err-Moved-clause-err
returns-in-Err-Moved-clause-err g c =
    let z = g.R.Rows.shape c.args.rows.now in
    let v = g.R.Rows.view c.args.seat.now in
    let w = g.R.Rows.view c.latch.new.seat in
    let cause = subst (λ (q : Refusal). latching.Caused c.args.frame v q w) c.in-Err-Moved.field-0-is c.in-Err-Moved.ensures.cause in
    let quiet = subst (λ (q : Refusal). z.alone ≡ true → holds v.held c.args.frame ≡ false → latching.IsUndisturbed q) c.in-Err-Moved.field-0-is c.in-Err-Moved.ensures.quiet in
    refused c.in-Err-Moved.ensures.err tt (moved_loaded cause.1) (λ alone none _. quiet alone (ap (λ hs. holds hs c.args.frame) none))

pub returns-in-Err-Latched-clause-err : goal.returns-in-Err-Latched-clause-err
returns-in-Err-Latched-clause-err g c =
    let z = g.R.Rows.shape c.args.rows.now in
    let v = g.R.Rows.view c.args.seat.now in
    let w = g.R.Rows.view c.latch.new.seat in
    let cause = subst (λ (q : Refusal). latching.Caused c.args.frame v q w) c.in-Err-Latched.field-0-is c.in-Err-Latched.ensures.cause in
    let quiet = subst (λ (q : Refusal). z.alone ≡ true → holds v.held c.args.frame ≡ false → latching.IsUndisturbed q) c.in-Err-Latched.field-0-is c.in-Err-Latched.ensures.quiet in
    refused c.in-Err-Latched.ensures.err tt (latched_loaded cause.1) (λ alone none _. quiet alone (ap (λ hs. holds hs c.args.frame) none))

pub returns-in-Err-RowSpent-clause-err : goal.returns-in-Err-RowSpent-clause-err
returns-in-Err-RowSpent-clause-err g c =
    let v = g.R.Rows.view c.args.seat.now in
    let w = g.R.Rows.view c.latch.new.seat in
    let cause = subst (λ (q : Refusal). latching.Caused c.args.frame v q w) c.in-Err-RowSpent.field-0-is c.in-Err-RowSpent.ensures.cause in
    refused c.in-Err-RowSpent.ensures.err tt (inl (spent_taken c.requires.sized c.requires.frame c.in-Err-RowSpent.ensures.err cause).1) (λ _ _ o. o)

pub returns-in-Err-RowSpent-clause-spent : goal.returns-in-Err-RowSpent-clause-spent
returns-in-Err-RowSpent-clause-spent g c =
    let v = g.R.Rows.view c.args.seat.now in
    let w = g.R.Rows.view c.latch.new.seat in
    let cause = subst (λ (q : Refusal). latching.Caused c.args.frame v q w) c.in-Err-RowSpent.field-0-is c.in-Err-RowSpent.ensures.cause in
    spent_taken c.requires.sized c.requires.frame c.in-Err-RowSpent.ensures.err cause
