-- What two workers need that lock keys.
use Rattle.std.specs.Prelude.{◌≡◌, ◌+◌, ◌<◌, ◌≤◌, ◌^◌, ℕ, true}
use Rattle.btree_descent.specs.row_words.Openings.{opening}
use Rattle.btree_descent.specs.rows_trait.Views.{state}
use Rattle.btree_descent.specs.rows_trait.declared.plain.PlainRows.{PlainRows}
use Rattle.btree_descent.specs.rows_trait.declared.trace.Trace.{Trace}
use Rattle.key_locks.specs.Rows as keys
use Rattle.shared_rows.specs.declared.rows.SharedRows.{SharedRows}
use Rattle.shared_peeks.specs.declared.peeks.Desk.{Desk}
use Rattle.shared_peeks.specs.Peeked.{CanPeek, CanShare, shape_of}

-- what a thread needs to lock a key: its worker is in a transaction
pub record CanLock (r : SharedRows) (frames locks : ℕ) (d : Desk) : Type 0 where
  pub can : CanPeek r frames d
  pub sized : keys.Sized (shape_of r) d.seat.me.0 d.worker frames locks
  pub sound : keys.IsSound d.seat.me.0.given
  pub is_open : ((state d.seat.me.0).core.worker d.worker).is_open ≡ true

-- plain rows that may be shared among two workers, both of which are in a transaction
pub record CanLockBoth (plain : PlainRows) (seat : Trace) : Type 0 where
  pub share : CanShare plain seat
  pub some : 0 < plain.locks
  pub small : plain.frames + plain.locks < 2 ^ 32
  pub rows : seat.view.given.rows ≡ plain.locks
  pub two : 2 ≤ (opening seat.view.given).workers
  pub few : (opening seat.view.given).workers ≤ 16
  pub sound : keys.IsSound seat.view.given
  pub first : ((state seat.view).core.worker 1).is_open ≡ true
  pub second : ((state seat.view).core.worker 2).is_open ≡ true
