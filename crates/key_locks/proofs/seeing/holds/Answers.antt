use Rattle.std.proofs.Common.{◌∙◌, ◌+◌, ◌%◌, ℕ, Bool, [], ap, subst}
use Rattle.std.proofs.lemmas.Result.{IfOk-weaker, IfErr-weaker}
use Rattle.lean_proto.specs.rows_trait.declared.view.View.{View}
use Rattle.lean_proto.specs.rows_trait.Views.{Shape, may}
use Rattle.lean_proto.specs.rows_trait.Causes.{HasFound}
use Rattle.lean_proto.specs.rows_trait.Turns.{Ran}
use Rattle.lean_proto.proofs.rows_trait.Causes.{found_after}
use Rattle.key_locks.specs.declared.seeing.Unseen.{Unseen}
use Rattle.key_locks.specs.Seeing.{Sees, NotSeen}
use Rattle.lean_proto.proofs.version_latch.Naming.{missed_silent}
use Rattle.key_locks.proofs.Taking.{taken_by, kept_ran}
use Rattle.key_locks.proofs.seeing.holds.Goals as goal

pub start-requires-clause-event : goal.start-requires-clause-event
start-requires-clause-event g c n =
    let v = g.R.Rows.view c.args.seat.now in missed_silent (may (g.R.Rows.shape c.args.rows.now).alone v) v.given c.args.worker n c.requires.actor

pub returns-in-Err-clause-err : goal.returns-in-Err-clause-err
returns-in-Err-clause-err g c =
    let e = c.in-Err.ensures.err in
    taken_by (g.R.Rows.shape c.args.rows.now) c.args.worker (c.args.frames + c.args.key % c.args.locks) (g.R.Rows.view c.args.seat.now) (g.R.Rows.view c.start.new.seat) c.in-Err.latched c.requires.actor e.0 e.1 e.2 c.in-Err.ensures.cause

pub returns-clause-ok : goal.returns-clause-ok
returns-clause-ok g c =
    let z = g.R.Rows.shape c.args.rows.now in
    let y = g.R.Rows.shape c.look-words.new.rows in
    let v = g.R.Rows.view c.args.seat.now in
    let u = g.R.Rows.view c.start.new.seat in
    let w = g.R.Rows.view c.look-words.new.seat in
    let x = g.R.Rows.view c.answer.new.seat in
    let i = c.args.key % c.args.locks in
    let o = c.in-Ok.ensures.ok in
    let ran = kept_ran c.args.worker o.1 o.3 c.in-Ok.ensures.fits.1 c.look-words.ensures.kept in
    let same = ap (λ (s : Shape). s.alone) (c.look-words.ensures.fits.1 ∙ c.in-Ok.ensures.fits.1) in
    IfOk-weaker c.answer.result (λ (b : Bool). (f : View) → Ran y.alone f [] w → Sees y.alone c.args.worker i b f x) (λ (b : Bool). Sees z.alone c.args.worker i b v x)
    (λ b f. subst (λ (t : Bool). Ran t v [] w → Sees t c.args.worker i b v x) same (f v) ran) c.answer.ensures.ok

pub returns-clause-err : goal.returns-clause-err
returns-clause-err g c =
    let z = g.R.Rows.shape c.args.rows.now in
    let y = g.R.Rows.shape c.look-words.new.rows in
    let v = g.R.Rows.view c.args.seat.now in
    let u = g.R.Rows.view c.start.new.seat in
    let w = g.R.Rows.view c.look-words.new.seat in
    let x = g.R.Rows.view c.answer.new.seat in
    let i = c.args.key % c.args.locks in
    let row = c.args.frames + i in
    let q = c.in-Ok.glimpse.row in
    let n = c.in-Ok.glimpse.version in
    let o = c.in-Ok.ensures.ok in
    let kept = c.look-words.ensures.kept in
    let ran = kept_ran c.args.worker o.1 o.3 c.in-Ok.ensures.fits.1 kept in
    let found = found_after row n v u w c.in-Ok.ensures.since.1 kept.loads in
    let same = ap (λ (s : Shape). s.alone) (c.look-words.ensures.fits.1 ∙ c.in-Ok.ensures.fits.1) in
    IfErr-weaker c.answer.result (λ (e : Unseen). (f : View) → Ran y.alone f [] w → HasFound q n f w → NotSeen y.alone c.args.worker q f e x) (λ (e : Unseen). NotSeen z.alone c.args.worker row v e x)
    (λ e f. subst (λ (t : Bool × ℕ). Ran t.0 v [] w → HasFound t.1 n v w → NotSeen t.0 c.args.worker t.1 v e x) (λ j. (same j, o.0 j)) (f v) ran found) c.answer.ensures.err
