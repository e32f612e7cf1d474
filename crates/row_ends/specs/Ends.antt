-- The end of a transaction: its lock rows are latched, its end is stored, the rows are given back, and its log is flushed.
use Rattle.std.specs.Prelude.{◌≡◌, ◌⊎◌, ◌+◌, ◌≤◌, ◌<◌, ◌^◌, ℕ, Bool, true, false, List, [], ◌∷◌, ◌++◌, length, drop, None}
use Rattle.map_model.specs.Lists.{Has}
use Rattle.session_state.specs.core_state.Needs.{holds_row, may}
use Rattle.session_state.specs.core_state.Steps.{AllMet, run}
use Rattle.session_state.specs.core_state.Events as happening
use Rattle.session_state.specs.engine_calls.Commits.{unlocks}
use Rattle.session_state.specs.row_words.declared.event.Event.{Event}
use Rattle.session_state.specs.row_words.declared.event.Event.TheVariants.{End, Flush, Unlock}
use Rattle.session_state.specs.row_words.Openings.{opening}
use Rattle.session_state.specs.rows_trait.declared.view.Hold.{Hold}
use Rattle.session_state.specs.rows_trait.declared.view.View.{View}
use Rattle.session_state.specs.rows_trait.Views.{Shape, holds, state}
use Rattle.session_state.specs.key_locks.Latching.{AreLatched, is_marked}
use Rattle.session_state.specs.key_locks.Rows.{Sized}
use Rattle.session_state.specs.lean_proto.Controls.{CanEnd}
use Rattle.lean_disk.specs.Story.{Story}
use Rattle.session_state.specs.log_calls.Calls.{FlushesOn}
use Rattle.session_state.specs.worker_log.Calls.{flushed_log}
use Rattle.session_state.specs.worker_log.Logs.{Log}
use Rattle.held_rows.specs.Steps.{AreMisses}
use Rattle.session_state.specs.Held.{Held}
use Rattle.session_state.specs.Holds.{Holds}
use Rattle.session_state.specs.Numbers.{HaveRoom}
use Rattle.session_state.specs.declared.session.Session.{Session}

-- ## Latches

-- of so many lock rows those that are marked are latched, and no other row is
pub record AreMine (frames count : ℕ) (marks : List Bool) (held : List Hold) : Type 0 where
  pub many : length marks ≡ count
  pub latched : AreLatched frames marks held
  pub only : (row : ℕ) → holds held row ≡ true → (j : ℕ) × (row ≡ frames + j) × (is_marked marks j ≡ true)

-- each row that is marked is one of these
abbrev pub AreAmong : List Bool → List ℕ → Type 0
AreAmong marks rows = (i : ℕ) → is_marked marks i ≡ true → Has i rows

-- each of these is marked, but for those that come later
abbrev pub AreMarkedTo : (at : ℕ) → List ℕ → List Bool → Type 0
AreMarkedTo at rows marks = (i : ℕ) → Has i rows → (is_marked marks i ≡ true) ⊎ Has i (drop at rows)

-- the seat has latched the rows that are marked, and has seen nothing more
pub record Latching (frames : ℕ) (h : Held) (marks : List Bool) (v w : View) : Type 0 where
  pub given : w.given ≡ v.given
  pub seen : w.seen ≡ v.seen
  pub mine : AreMine frames h.count marks w.held
  pub among : AreAmong marks h.rows

-- as between two calls, but the rows that the session holds are latched, and its next number fits
pub record Latched (z : Shape) (v : View) (x : Session) (log : Log) (marks : List Bool) : Type 0 where
  pub before : View
  pub holds : Holds z before x log
  pub room : HaveRoom before
  pub latching : Latching x.frames x.held marks before v
  pub all : (i : ℕ) → Has i x.held.rows → is_marked marks i ≡ true

-- ## Latches that are given back

-- no row is latched, and all that was seen are so many misses at most
pub record Missed (most : ℕ) (v w : View) : Type 0 where
  pub given : w.given ≡ v.given
  pub misses : List Event
  pub are_misses : AreMisses misses
  pub few : length misses ≤ most
  pub seen : w.seen ≡ v.seen ++ misses
  pub idle : w.held ≡ []

-- and so far, where the rows that are latched still come at this place or later
pub record Missing (frames : ℕ) (h : Held) (at : ℕ) (marks : List Bool) (v w : View) : Type 0 where
  pub given : w.given ≡ v.given
  pub misses : List Event
  pub are_misses : AreMisses misses
  pub few : length misses ≤ at
  pub seen : w.seen ≡ v.seen ++ misses
  pub mine : AreMine frames h.count marks w.held
  pub left : AreAmong marks (drop at h.rows)

-- ## Rows that are given back

-- the events of it
abbrev pub gives : (own : ℕ) → List ℕ → List Event
gives own [] = []
gives own (i ∷ rows) = Unlock own i ∷ gives own rows

-- they were given back, each behind its need, and nothing else happened
pub record Gives (own : ℕ) (v : View) (rows : List ℕ) (w : View) : Type 0 where
  pub given : w.given ≡ v.given
  pub seen : w.seen ≡ v.seen ++ gives own rows
  pub met : AllMet (opening v.given) (state v).core (unlocks own rows)
  pub core : (state w).core ≡ run (opening v.given) (state v).core (unlocks own rows)

-- the session holds just the rows that are marked
abbrev pub AreHeld : (own : ℕ) → View → List Bool → Type 0
AreHeld own v marks = (i : ℕ) → holds_row ((state v).core.row i) own ≡ is_marked marks i

-- so far, where the rows that are latched still come at this place or later
pub record Giving (own frames : ℕ) (h : Held) (at : ℕ) (marks : List Bool) (v w : View) : Type 0 where
  pub rows : List ℕ
  pub few : length rows ≤ at
  pub gives : Gives own v rows w
  pub mine : AreMine frames h.count marks w.held
  pub left : AreAmong marks (drop at h.rows)
  pub held : AreHeld own w marks

-- all of them were given back, so many at most
pub record Gave (own most : ℕ) (v w : View) : Type 0 where
  pub rows : List ℕ
  pub few : length rows ≤ most
  pub gives : Gives own v rows w
  pub idle : w.held ≡ []
  pub free : (i : ℕ) → holds_row ((state w).core.row i) own ≡ false

-- ## The end

-- the session may end, and the rows that it holds are latched
pub record MayEnd (z : Shape) (v : View) (x : Session) (commit : Bool) (floor : ℕ) (marks : List Bool) : Type 0 where
  pub alone : z.alone ≡ true
  pub locks : Sized z v x.own x.frames x.held.count
  pub workers : z.sizes.workers ≡ x.workers
  pub high : x.own ≤ x.workers
  pub can : CanEnd (opening v.given) (state v).core x.own commit floor
  pub clock : ((state v).core.worker x.own).clock ≡ x.clock.clock
  pub small : x.clock.clock + 1 < 2 ^ 64
  pub mine : AreMine x.frames x.held.count marks v.held
  pub among : AreAmong marks x.held.rows
  pub held : AreHeld x.own v marks

-- a commit or an abort, behind which these rows are given back
abbrev pub end_of : (own : ℕ) → Bool → (floor : ℕ) → List ℕ → List happening.Event
end_of own commit floor rows = happening.Event.End own commit floor ∷ unlocks own rows

-- it has ended, where all logs were found flushed up to this number, and has given its rows back, so many at most
pub record Ended (own most : ℕ) (v : View) (commit : Bool) (floor : ℕ) (w : View) : Type 0 where
  pub given : w.given ≡ v.given
  pub rows : List ℕ
  pub few : length rows ≤ most
  pub seen : w.seen ≡ v.seen ++ End own commit floor ∷ gives own rows
  pub met : AllMet (opening v.given) (state v).core (end_of own commit floor rows)
  pub core : (state w).core ≡ run (opening v.given) (state v).core (end_of own commit floor rows)
  pub idle : w.held ≡ []
  pub free : (i : ℕ) → holds_row ((state w).core.row i) own ≡ false

-- a session whose transaction has ended by this number
abbrev pub ended_session : Session → ℕ → Session
ended_session x number = record x { is_open = false; clock = record x.clock { clock = number }; end = number; first = None; undo = []; is_half_aborted = false; held = record { count = x.held.count; rows = [] } }

-- one that ended by a commit, so many of which wait for a flush then
abbrev pub waiting_session : Session → (number waiting : ℕ) → Session
waiting_session x number waiting = record (ended_session x number) { unflushed = waiting }

-- ## The flush

-- the session's log may be flushed up to its clock, which is the number of its last record
pub record MayFlush (z : Shape) (v : View) (x : Session) (log : Log) : Type 0 where
  pub alone : z.alone ≡ true
  pub sized : z.sizes.workers ≡ x.workers
  pub low : 0 < x.own
  pub high : x.own ≤ x.workers
  pub last : log.last ≡ x.clock.clock
  pub small : x.clock.clock < 2 ^ 64
  pub met : may (opening v.given) (state v).core (happening.Event.Flush x.own x.clock.clock) ≡ true

-- it was flushed so far, and none of its commits waits any more
pub record HasFlushed (v w : View) (x y : Session) (was is : Log) (old new : Story) : Type 0 where
  pub given : w.given ≡ v.given
  pub seen : w.seen ≡ v.seen ++ Flush x.own x.clock.clock ∷ []
  pub met : may (opening v.given) (state v).core (happening.Event.Flush x.own x.clock.clock) ≡ true
  pub held : w.held ≡ v.held
  pub session : y ≡ record x { unflushed = 0 }
  pub after : is ≡ flushed_log was
  pub stands : FlushesOn x.own was is old new
