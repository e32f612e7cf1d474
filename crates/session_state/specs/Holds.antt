-- What an engine has in memory of a session between two calls, by the moment that its seat has seen.
use Rattle.std.specs.Prelude.{◌≡◌, ◌↔◌, ◌≤◌, ◌<◌, ◌+◌, ◌^◌, ℕ, suc, true, false, [], length}
use Rattle.page_model.specs.Limits.{most_sessions, transaction_changes}
use Rattle.map_model.specs.Lists.{Has}
use Rattle.btree_descent.specs.core_state.States.{Worker, flushed_by_all}
use Rattle.btree_descent.specs.core_state.Needs.{holds_row}
use Rattle.core_covers.specs.Firsts.{first_of}
use Rattle.engine_calls.specs.core_calls.LogEvents.{behind}
use Rattle.engine_calls.specs.core_calls.Room.{free_list}
use Rattle.btree_descent.specs.row_words.Openings.{opening}
use Rattle.btree_descent.specs.rows_trait.declared.view.View.{View}
use Rattle.btree_descent.specs.rows_trait.Views.{Shape, state}
use Rattle.btree_descent.specs.Descents as descents
use Rattle.btree_descent.specs.Known as pages
use Rattle.key_locks.specs.Rows as locking
use Rattle.engine_calls.specs.worker_log.Logs.{Log, used}
use Rattle.session_state.specs.declared.session.Session.{Session}
use Rattle.session_state.specs.Numbers.{AreClocked, AreNumbered}
use Rattle.session_state.specs.Undo.{HasHand, HasRoomToUndo, kept_blocks, undo_of}

-- it is the same session: by its number, of so many, whose commits are flushed in such groups
abbrev pub IsSameSession : (x y : Session) → Type 0
IsSameSession x y = (y.own ≡ x.own) × (y.workers ≡ x.workers) × (y.group ≡ x.group)

-- the session has what the core's worker has
pub record IsOf (x : Session) (a : Worker) : Type 0 where
  pub is_open : a.is_open ≡ x.is_open
  pub txn : a.txn ≡ x.txn
  pub clock : a.clock ≡ x.clock.clock
  pub floor : a.floor ≡ x.clock.floor
  pub debt : a.debt ≡ x.clock.debt
  pub end : a.end ≡ x.end
  pub undo : undo_of a.changes ≡ x.undo

-- the numbers of a session, and those of its log
pub record AreNumbers (x : Session) (log : Log) : Type 0 where
  -- a session's clock rises by what it meets, and by its own records
  pub last : log.last ≤ x.clock.clock
  pub order : log.flushed ≤ log.last
  pub end : x.end ≤ x.clock.clock
  -- an open transaction finds a block for its end
  pub room : x.is_open ≡ true → used log + 1 ≤ log.blocks
  -- behind all that it puts back
  pub undo_room : 0 < length x.undo → HasRoomToUndo log (length x.undo)
  -- and while no abort is half done, all blocks that are kept for that are left, also where its log is flushed before
  pub flush_room : x.is_half_aborted ≡ false → 0 < length x.undo → used log + kept_blocks ≤ log.blocks
  pub hand : HasHand log
  -- each transaction but an open one took a number for its end
  pub closed_txn : x.is_open ≡ false → x.txn ≤ x.clock.clock
  pub txn : x.txn ≤ suc x.clock.clock
  pub few : length x.undo ≤ transaction_changes
  -- so few of its commits wait for a flush
  pub behind : x.unflushed < x.group

-- the rows are those of the opening, with so many workers, and of no more pages than a session may have free; the tree, the locks and the entries' numbers are sound at each moment that can come, and numbers
-- where the rows began
pub record AreRows (z : Shape) (v : View) (own many frames count : ℕ) : Type 0 where
  pub tree : descents.Sized z v frames
  pub tree_sound : pages.IsSound v.given
  pub locks : locking.Sized z v own frames count
  pub locks_sound : locking.IsSound v.given
  pub clocked : AreClocked v.given
  pub numbered : AreNumbered v.given
  pub workers : (opening v.given).workers ≡ many
  pub sized : z.sizes.workers ≡ many
  pub low : 0 < own
  pub high : own ≤ many
  pub most : many ≤ most_sessions
  pub few : count ≤ 2 ^ 16
  pub few_pages : (opening v.given).format.pages ≤ 2 ^ 16

-- Nobody else steps, and no row is latched. The session is the worker's at the moment that the seat has seen, where its log is flushed as it says, the
-- lock rows that the worker holds are those that the session has, and so are the free pages. It says nothing of where pages stand,
-- nor whether a page that was read again has its pairs still.
pub record Holds (z : Shape) (v : View) (x : Session) (log : Log) : Type 0 where
  pub alone : z.alone ≡ true
  pub idle : v.held ≡ []
  pub rows : AreRows z v x.own x.workers x.frames x.held.count
  pub session : IsOf x ((state v).core.worker x.own)
  pub first : first_of (state v).core x.own ≡ x.first
  pub numbers : AreNumbers x log
  pub flushed : (state v).core.flushed x.own ≡ log.flushed
  pub floor : x.clock.floor ≤ flushed_by_all (opening v.given) (state v).core
  pub behind : behind (state v).core x.own ≡ x.unflushed
  pub held : (i : ℕ) → holds_row ((state v).core.row i) x.own ≡ true ↔ Has i x.held.rows
  pub within : (i : ℕ) → Has i x.held.rows → i < x.held.count
  pub fewer : length x.held.rows ≤ x.held.count
  pub none : x.is_open ≡ false → x.held.rows ≡ []
  pub free : x.free ≡ free_list (opening v.given) (state v).core
  pub spare : length x.free ≤ 2 ^ 16
