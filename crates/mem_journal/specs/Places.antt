-- For which events a place in memory stands.
use Rattle.std.specs.Prelude.{◌≡◌, ◌≤◌, ◌<◌, ◌^◌, ℕ, suc, Bool, true, ltb, List, [], length}
use Rattle.core_commit.specs.core_state.States.{State, is_hot}
use Rattle.core_commit.specs.core_state.Openings.{Opening}
use Rattle.core_commit.specs.core_state.Events.{Event, Mode}
use Rattle.core_commit.specs.core_state.Steps.{state_after}
use Rattle.transactions.specs.declared.hindrance.Hindrance.{Hindrance}
use Rattle.transactions.specs.declared.hindrance.Hindrance.TheVariants.{Conflict, NoPages, DiskFault}
use Rattle.mem_journal.specs.declared.place.MemJournal.{MemJournal}
use Rattle.mem_journal.specs.Rows.{IsRow, IsInTheWay}
use Rattle.mem_journal.specs.Workers.{IsWorker, committed}
use Rattle.mem_journal.specs.Logs.{count_of}
use Rattle.mem_journal.specs.Views.{View, view_of, worker_at, log_at, row_at}

-- It has the core's state: its tree is the one leaf 0. A log has as many records as are entered of it. The journal is of the commits
-- that are entered, and grows by whole ones.
pub record Pictures (g : Opening) (s : State) (v : View) : Type 0 where
  pub workers : length v.workers ≡ suc g.workers
  pub logs : length v.logs ≡ suc g.workers
  pub few : length v.workers ≤ 17
  pub pages : 0 < g.format.pages
  pub room : g.format.room ≡ v.places
  pub dead : g.format.dead ≡ 2 ^ 63
  pub live : (s.page 0).node.live ≡ true
  pub level : (s.page 0).node.level ≡ 0
  pub low : (s.page 0).node.low ≡ 0
  pub high : (s.page 0).node.high ≡ v.keys
  pub pairs : (s.page 0).node.pairs ≡ v.pairs
  pub number : (s.page 0).gsn ≡ v.number
  pub log : (s.page 0).last ≡ v.log
  pub hot : is_hot (s.place 0) ≡ true
  pub row : (i : ℕ) → i < length v.rows → IsRow (s.row i) (row_at v i)
  pub worker : (w : ℕ) → w < length v.workers → IsWorker s w (worker_at v w)
  pub other : (w : ℕ) → length v.workers ≤ w → (s.worker w).clock ≡ v.base
  pub records : (w : ℕ) → w < length v.logs → length (log_at v w) ≡ count_of s.entries w
  pub journal : v.journal ≡ committed s.entries

-- Nobody steps but by its calls, so there are no latches to speak of.
abbrev pub Stands : Opening → List Event → List ℕ → MemJournal → Type 0
Stands g es latched a = Pictures g (state_after g es) (view_of a)

-- A crash leaves nothing of it.
abbrev pub Leaves : Opening → List Event → List Event → MemJournal → MemJournal → Type 0
Leaves g es more a b = Unit {0}

abbrev pub Alone : MemJournal → Bool
Alone a = true

-- a row is held so that a worker may not have it, by this one; the leaf has no room or no such key; or memory or numbers were wanting
abbrev pub Cause : Hindrance → Opening → List Event → MemJournal → MemJournal → Type 0
Cause (Conflict v) g es a b = (i w : ℕ) × (mode : Mode) × IsInTheWay ((state_after g es).row i) w mode v
Cause NoPages g es a b = Unit {0}
Cause DiskFault g es a b = Unit {0}
Cause _ g es a b = ⊥

-- an empty leaf, for so many workers
pub record IsEmpty (g : Opening) (sessions base keys room : ℕ) : Type 0 where
  pub workers : g.workers ≡ sessions
  pub base_is : g.base ≡ base
  pub pages : 0 < g.format.pages
  pub room_is : g.format.room ≡ room
  pub dead : g.format.dead ≡ 2 ^ 63
  pub live : (g.node 0).live ≡ true
  pub level : (g.node 0).level ≡ 0
  pub low : (g.node 0).low ≡ 0
  pub high : (g.node 0).high ≡ keys
  pub pairs : (g.node 0).pairs ≡ []
  pub number : g.gsn 0 ≡ 0
  pub log : g.last 0 ≡ 0

-- the last end of w is not flushed
abbrev pub Waits : MemJournal → State → ℕ → Bool
Waits a s w = ltb (s.flushed w) (s.worker w).end
