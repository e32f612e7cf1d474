-- What holds of sessions between any two calls.
use Rattle.std.specs.Prelude.{◌≡◌, ◌+◌, ◌<◌, ◌≤◌, ℕ, true, false, List, [], length, slice_index_or, replicate, max, ◌%◌, ◌^◌}
use Rattle.rfa_model.specs.Stamps.{owed}
use Rattle.btree_descent.specs.core_state.States.{Worker}
use Rattle.btree_descent.specs.core_state.Needs.{is_held_by, holds_row}
use Rattle.btree_descent.specs.row_words.Moments.{Moment}
use Rattle.btree_descent.specs.row_words.Openings.{opening}
use Rattle.btree_descent.specs.rows_trait.Plain.{sizes}
use Rattle.btree_descent.specs.rows_trait.Rule.{IsPicture, plan}
use Rattle.btree_descent.specs.rows_trait.Views.{state}
use Rattle.btree_descent.specs.Known.{IsSound}
use Rattle.key_locks.specs.Rows as locks
use Rattle.page_model.specs.Page.{Page}
use Rattle.page_model.specs.Tree.{IsTree}
use Rattle.row_opening.specs.Opened.{page_at}
use Rattle.btree_descent.specs.row_words.Moments.{format_of}
use Rattle.row_sessions.specs.declared.session.Session.{Session}
use Rattle.row_sessions.specs.declared.sessions.Sessions.{Sessions}

-- the session has what the core's worker has, its floor is the base, and no record of its log is above its clock
pub record IsOf (base : ℕ) (s : Session) (a : Worker) : Type 0 where
  pub is_open : a.is_open ≡ s.is_open
  pub clock : a.clock ≡ s.clock
  pub floor : a.floor ≡ s.floor
  pub debt : a.debt ≡ s.debt
  pub txn : a.txn ≡ s.txn
  pub end : a.end ≡ s.end
  pub changes : length a.changes ≡ s.changes
  pub low : s.floor ≡ base
  pub last : s.last ≤ s.clock

-- the session of no worker
abbrev pub no_session : Session
no_session = record { is_open = false; clock = 0; floor = 0; debt = 0; txn = 0; end = 0; last = 0; changes = 0 }

-- the session of a worker that has done nothing
abbrev pub first_session : ℕ → Session
first_session base = record { is_open = false; clock = base; floor = base; debt = 0; txn = 0; end = base; last = base; changes = 0 }

-- the session of a worker that met a stamp
abbrev pub touched_session : ℕ → Session → (number log : ℕ) → Session
touched_session worker s number log = record s { clock = max s.clock number; debt = owed worker s.floor s.debt number log }

-- the session after a change for which another was drawn
abbrev pub changed_session : Session → Session → Session
changed_session s drawn = record s { clock = drawn.clock; debt = drawn.debt; last = drawn.last; changes = s.changes + 1 }

-- the session after a change of the tree's structure for which another was drawn
abbrev pub drawn_session : Session → Session → Session
drawn_session s drawn = record s { clock = drawn.clock; debt = drawn.debt; last = drawn.last }

-- the session of worker w; that of the main actor stands at 0
abbrev pub session_at : List Session → ℕ → Session
session_at sessions w = slice_index_or sessions w no_session

-- each session is its worker's, the main actor has none open, and no log is flushed beyond the base
pub record AreSessions (workers base : ℕ) (sessions : List Session) (m : Moment) : Type 0 where
  pub count : length sessions ≡ workers + 1
  pub each : (w : ℕ) → w ≤ workers → IsOf base (session_at sessions w) (m.core.worker w)
  pub idle : (m.core.worker 0).is_open ≡ false
  pub flushed : (w : ℕ) → 0 < w → w ≤ workers → m.core.flushed w ≡ base

-- the sizes that the sessions know are those of the rows
pub record AreSizes (s : Sessions) : Type 0 where
  pub frames : s.rows.frames ≡ s.frames
  pub locks : s.rows.locks ≡ s.locks
  pub some : 0 < s.frames
  pub some_lock : 0 < s.locks
  pub few : s.rows.workers ≤ 16
  pub given : (opening s.seat.view.given).frames ≡ s.frames
  pub rows : s.seat.view.given.rows ≡ s.locks
  pub workers : (opening s.seat.view.given).workers ≡ s.rows.workers

-- the nodes of pages are a tree
abbrev pub IsTreeOf : List Page → Type 0
IsTreeOf pages = IsTree (format_of (length pages)) (λ p. (page_at pages p).node)

-- each of the first n pages bears its own number, and its last change has a number up to the base and the log of a worker, or of none
pub record AreNumbered (pages : List Page) (workers base n : ℕ) : Type 0 where
  pub numbers : (p : ℕ) → p < n → (page_at pages p).number ≡ p
  pub low : (p : ℕ) → p < n → (page_at pages p).gsn ≤ base
  pub logs : (p : ℕ) → p < n → (page_at pages p).last_log ≤ workers

-- Between two calls no row is held.
pub record Stands (s : Sessions) : Type 0 where
  pub picture : IsPicture (plan (sizes s.rows.frames s.rows.locks s.rows.workers) s.seat.view.given) s.rows.words.items s.seat.view
  pub held : s.seat.view.held ≡ []
  pub sized : AreSizes s
  pub sound : IsSound s.seat.view.given
  pub locks_sound : locks.IsSound s.seat.view.given
  pub unmarked : s.latches ≡ replicate s.locks false
  pub sessions : AreSessions s.rows.workers s.base s.sessions.items (state s.seat.view)

-- the session may make a change
pub record IsPutter (s : Session) : Type 0 where
  pub is_open : s.is_open ≡ true
  pub few : s.changes < 64
  pub room : s.clock < 2 ^ 62

-- the session may draw a number
pub record IsDrawer (s : Session) : Type 0 where
  pub is_open : s.is_open ≡ true
  pub room : s.clock < 2 ^ 62

-- the worker holds the key's lock row alone
abbrev pub HoldsAlone : Sessions → (worker key : ℕ) → Type 0
HoldsAlone s worker key = is_held_by ((state s.seat.view).core.row (key % s.locks)).holder worker ≡ true

-- the worker holds the key's lock row, alone or with others
abbrev pub HoldsRow : Sessions → (worker key : ℕ) → Type 0
HoldsRow s worker key = holds_row ((state s.seat.view).core.row (key % s.locks)) worker ≡ true

-- how many workers there are
abbrev pub workers_of : Sessions → ℕ
workers_of s = s.rows.workers
