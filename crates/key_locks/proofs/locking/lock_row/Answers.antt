use Rattle.std.proofs.Common.{◌∙◌, ◌+◌, ℕ, Bool, [], sym, ap, subst, arith}
use Rattle.std.proofs.lemmas.Result.{IfOk-weaker, IfErr-weaker}
use Rattle.lean_proto.specs.row_words.Openings.{opening}
use Rattle.lean_proto.specs.rows_trait.declared.view.View.{View}
use Rattle.lean_proto.specs.rows_trait.Views.{Shape, may}
use Rattle.lean_proto.specs.rows_trait.Causes.{HasFound}
use Rattle.lean_proto.specs.rows_trait.Turns.{Ran}
use Rattle.lean_proto.proofs.rows_trait.Causes.{found_after}
use Rattle.key_locks.specs.declared.locking.Stamp.{Stamp}
use Rattle.key_locks.specs.declared.locking.Refusal.{Refusal}
use Rattle.key_locks.specs.Rows.{IsWorker}
use Rattle.key_locks.specs.Locking.{HasLock, Refuses}
use Rattle.lean_proto.proofs.version_latch.Naming.{missed_silent}
use Rattle.key_locks.proofs.Calls.{workers_given}
use Rattle.key_locks.proofs.Staying.{worker_ran}
use Rattle.key_locks.proofs.Taking.{taken_by, kept_ran}
use Rattle.key_locks.proofs.locking.lock_row.Goals as goal

pub start-requires-clause-event : goal.start-requires-clause-event
start-requires-clause-event g c n =
    let v = g.R.Rows.view c.args.seat.now in missed_silent (may (g.R.Rows.shape c.args.rows.now).alone v) v.given c.args.worker n c.requires.actor

pub returns-in-Err-clause-err : goal.returns-in-Err-clause-err
returns-in-Err-clause-err g c =
    let e = c.in-Err.ensures.err in
    taken_by (g.R.Rows.shape c.args.rows.now) c.args.worker (c.args.frames + c.args.row) (g.R.Rows.view c.args.seat.now) (g.R.Rows.view c.start.new.seat) c.in-Err.latched c.requires.actor e.0 e.1 e.2 c.in-Err.ensures.cause

pub take-requires-clause-worker : goal.take-requires-clause-worker
take-requires-clause-worker g c =
    let z = g.R.Rows.shape c.args.rows.now in
    let v = g.R.Rows.view c.args.seat.now in
    let u = g.R.Rows.view c.start.new.seat in
    let w = g.R.Rows.view c.look-words.new.seat in
    let o = c.in-Ok.ensures.ok in
    let ran = kept_ran c.args.worker o.1 o.3 c.in-Ok.ensures.fits.1 c.look-words.ensures.kept in
    (subst (λ (n : ℕ). IsWorker n c.args.worker) (sym (workers_given v w ran.given)) c.requires.sized.works, ap (λ y. y.is_open) (worker_ran z.alone v w c.args.worker c.requires.actor ran) ∙ c.requires.open_is)

pub take-requires-clause-free : goal.take-requires-clause-free
take-requires-clause-free g c o is said =
    let z = g.R.Rows.shape c.args.rows.now in
    let v = g.R.Rows.view c.args.seat.now in
    let u = g.R.Rows.view c.start.new.seat in
    let w = g.R.Rows.view c.look-words.new.seat in
    let n = workers_given v w (c.look-words.ensures.kept.ran.given ∙ c.in-Ok.ensures.ok.3.goes.given) in
    let few = c.requires.sized.few in
    c.in-None.ensures (opening w.given).workers o (omega arith) (subst (λ (k : ℕ). IsWorker k c.args.worker) (sym n) c.requires.sized.works) is said

pub refuse-requires-clause-blocked : goal.refuse-requires-clause-blocked
refuse-requires-clause-blocked g c o is said =
    let v = g.R.Rows.view c.args.seat.now in
    let w = g.R.Rows.view c.look-words.new.seat in
    let n = workers_given v w (c.look-words.ensures.kept.ran.given ∙ c.in-Ok.ensures.ok.3.goes.given) in
    let few = c.requires.sized.few in
    c.in-Some.ensures (opening w.given).workers o (omega arith) (subst (λ (k : ℕ). IsWorker k c.args.worker) (sym n) c.requires.sized.works) is said

pub returns-in-None-clause-ok : goal.returns-in-None-clause-ok
returns-in-None-clause-ok g c =
    let z = g.R.Rows.shape c.args.rows.now in
    let y = g.R.Rows.shape c.look-words.new.rows in
    let v = g.R.Rows.view c.args.seat.now in
    let u = g.R.Rows.view c.start.new.seat in
    let w = g.R.Rows.view c.look-words.new.seat in
    let x = g.R.Rows.view c.take.new.seat in
    let i = c.args.row in
    let o = c.in-Ok.ensures.ok in
    let ran = kept_ran c.args.worker o.1 o.3 c.in-Ok.ensures.fits.1 c.look-words.ensures.kept in
    let same = ap (λ (s : Shape). s.alone) (c.look-words.ensures.fits.1 ∙ c.in-Ok.ensures.fits.1) in
    IfOk-weaker c.take.result (λ (s : Stamp). (f : View) → Ran y.alone f [] w → HasLock y.alone c.args.worker i c.args.mode f s x) (λ (s : Stamp). HasLock z.alone c.args.worker i c.args.mode v s x)
    (λ s f. subst (λ (b : Bool). Ran b v [] w → HasLock b c.args.worker i c.args.mode v s x) same (f v) ran) c.take.ensures.ok

pub returns-in-None-clause-err : goal.returns-in-None-clause-err
returns-in-None-clause-err g c =
    let z = g.R.Rows.shape c.args.rows.now in
    let y = g.R.Rows.shape c.look-words.new.rows in
    let v = g.R.Rows.view c.args.seat.now in
    let u = g.R.Rows.view c.start.new.seat in
    let w = g.R.Rows.view c.look-words.new.seat in
    let x = g.R.Rows.view c.take.new.seat in
    let i = c.args.row in
    let row = c.args.frames + i in
    let q = c.in-Ok.glimpse.row in
    let n = c.in-Ok.glimpse.version in
    let o = c.in-Ok.ensures.ok in
    let kept = c.look-words.ensures.kept in
    let ran = kept_ran c.args.worker o.1 o.3 c.in-Ok.ensures.fits.1 kept in
    let found = found_after row n v u w c.in-Ok.ensures.since.1 kept.loads in
    let same = ap (λ (s : Shape). s.alone) (c.look-words.ensures.fits.1 ∙ c.in-Ok.ensures.fits.1) in
    IfErr-weaker c.take.result (λ (r : Refusal). (f : View) → Ran y.alone f [] w → HasFound q n f w → Refuses y.alone c.args.worker q i c.args.mode f r x) (λ (r : Refusal). Refuses z.alone c.args.worker row i c.args.mode v r x)
    (λ r f. subst (λ (t : Bool × ℕ). Ran t.0 v [] w → HasFound t.1 n v w → Refuses t.0 c.args.worker t.1 i c.args.mode v r x) (λ j. (same j, o.0 j)) (f v) ran found) c.take.ensures.err

pub returns-in-Some-clause-err : goal.returns-in-Some-clause-err
returns-in-Some-clause-err g c =
    let z = g.R.Rows.shape c.args.rows.now in
    let v = g.R.Rows.view c.args.seat.now in
    let u = g.R.Rows.view c.start.new.seat in
    let w = g.R.Rows.view c.look-words.new.seat in
    let x = g.R.Rows.view c.refuse.new.seat in
    let i = c.args.row in
    let row = c.args.frames + i in
    let n = c.in-Ok.glimpse.version in
    let o = c.in-Ok.ensures.ok in
    let kept = c.look-words.ensures.kept in
    let ran = kept_ran c.args.worker o.1 o.3 c.in-Ok.ensures.fits.1 kept in
    let found = found_after row n v u w c.in-Ok.ensures.since.1 kept.loads in
    let same = ap (λ (s : Shape). s.alone) (c.look-words.ensures.fits.1 ∙ c.in-Ok.ensures.fits.1) in
    subst (λ (t : Bool × ℕ). Ran t.0 v [] w → HasFound t.1 n v w → Refuses t.0 c.args.worker t.1 i c.args.mode v c.refuse.result x) (λ j. (same j, o.0 j)) (c.refuse.ensures.refused v) ran found
