use Rattle.std.proofs.Common.{◌+◌, ℕ, false, ◌≡◌, IfErr, IfOk, subst, true}
use Rattle.lean_proto.specs.rows_trait.Views.{holds}
use Rattle.key_locks.specs.declared.locking.Stamp.{Stamp}
use Rattle.key_locks.specs.declared.locking.Refusal.{Refusal}
use Rattle.key_locks.specs.Locking.{HasLock, IsUnmet, Refuses}
use Rattle.key_locks.proofs.locking.lock.Goals as goal

pub returns-clause-ok : goal.returns-clause-ok
returns-clause-ok g c =
    subst (λ (i : ℕ). IfOk c.lock_row.result (λ (s : Stamp). HasLock (g.R.Rows.shape c.args.rows.now).alone c.args.worker i c.args.mode (g.R.Rows.view c.args.seat.now) s (g.R.Rows.view c.lock_row.new.seat))) c.row_of.ensures c.lock_row.ensures.ok

pub returns-clause-err : goal.returns-clause-err
returns-clause-err g c =
    subst (λ (i : ℕ). IfErr c.lock_row.result (λ (r : Refusal). Refuses (g.R.Rows.shape c.args.rows.now).alone c.args.worker (c.args.frames + i) i c.args.mode (g.R.Rows.view c.args.seat.now) r (g.R.Rows.view c.lock_row.new.seat))) c.row_of.ensures c.lock_row.ensures.err

pub returns-clause-quiet : goal.returns-clause-quiet
returns-clause-quiet g c =
    subst (λ (i : ℕ). IfErr c.lock_row.result (λ (r : Refusal). (g.R.Rows.shape c.args.rows.now).alone ≡ true → holds (g.R.Rows.view c.args.seat.now).held (c.args.frames + i) ≡ false → IsUnmet r)) c.row_of.ensures c.lock_row.ensures.quiet
