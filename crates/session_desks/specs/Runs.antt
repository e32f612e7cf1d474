-- A part of a call in each run, from wherever the call has come to: how the disk goes on, and what is in memory of it then.
use Rattle.std.specs.Prelude.{◌≡◌, ◌≤◌, ◌<◌, ◌++◌, ℕ, true, List}
use Rattle.session_state.specs.core_state.Openings.{Opening}
use Rattle.session_state.specs.core_state.Events.{Event}
use Rattle.session_state.specs.core_calls.Fronts.{Done, front}
use Rattle.lean_disk.specs.Moments.{LeavesOnly}
use Rattle.lean_disk.specs.Story.{Crash, Story}
use Rattle.session_state.specs.disk_slots.declared.master.Master.{Master}
use Rattle.session_state.specs.disk_runs.MasterLaws.{IsAllSynced}
use Rattle.session_state.specs.disk_runs.Stands.{Known, Stands}
use Rattle.session_state.specs.engine_calls.Moves.{Moved}
use Rattle.session_state.specs.engine_calls.Parts.{Passes}
use Rattle.session_state.specs.engine_trait.Areas.{Beside}
use Rattle.session_state.specs.engine_trait.Calls.{IsOf, Memory}
use Rattle.session_state.specs.rows_trait.declared.view.View.{View}
use Rattle.session_state.specs.worker_log.Logs.{Log}
use Rattle.session_state.specs.Ties.{Behind}

-- these logs, and the master that counts
abbrev pub memory_with : (log : ℕ → Log) → Master → Memory
memory_with log master = record { log = log; master = master }

-- Behind the first events of a call, in a run of so many logs: the view has seen them, the disk stands for them, and what is known of it is in memory.
pub record IsAt (many : ℕ) (v : View) (memory : Memory) (g : Opening) (xs : List Done) (first : List Event) (s0 : Crash) (a : Known) (now : Story) : Type 0 where
  pub many_is : g.workers ≡ many
  pub behind : Behind g xs first v
  pub stands : Stands g (front xs ++ first) s0 a now
  pub is_of : IsOf g memory a

-- From there it went on by more events: what is known of the disk then is in memory, and of its pages the same is known. At every moment a crash leaves the
-- areas beside the logs and the masters as they were.
pub record Goes (g : Opening) (xs : List Done) (first more : List Event) (s0 : Crash) (a : Known) (is : Memory) (old new : Story) : Type 0 where
  pub known : Known
  pub moved : Moved g xs first more s0 a known old new
  pub is_of : IsOf g is known
  pub firm : known.firm ≡ a.firm
  pub late : known.late ≡ a.late
  pub within : LeavesOnly old new (Beside g.workers true old)

-- And of the first logs, so many, nothing is left to flush.
pub record GoesFlushed (count : ℕ) (g : Opening) (xs : List Done) (first more : List Event) (s0 : Crash) (a : Known) (is : Memory) (old new : Story) : Type 0 where
  pub goes : Goes g xs first more s0 a is old new
  pub synced : (w : ℕ) → 0 < w → w ≤ count → IsAllSynced (goes.known.account w)

-- A device failed: at every moment a crash leaves what one behind the first events and some of these does, and those areas as they were.
pub record Breaks (g : Opening) (xs : List Done) (first more : List Event) (s0 : Crash) (a : Known) (old new : Story) : Type 0 where
  pub passes : Passes g xs first more s0 a old new
  pub within : LeavesOnly old new (Beside g.workers true old)

-- ## In each run

-- with that in memory it went on so
abbrev pub EachGoes : (many : ℕ) → View → (was is : Memory) → List Event → (old new : Story) → Type 0
EachGoes many v was is more old new = (g : Opening) (xs : List Done) (first : List Event) (s0 : Crash) (a : Known) → IsAt many v was g xs first s0 a old → Goes g xs first more s0 a is old new

-- whatever the master is
abbrev pub EachFlushes : (count many : ℕ) → View → (was is : ℕ → Log) → List Event → (old new : Story) → Type 0
EachFlushes count many v was is more old new = (m : Master) (g : Opening) (xs : List Done) (first : List Event) (s0 : Crash) (a : Known) → IsAt many v (memory_with was m) g xs first s0 a old → GoesFlushed count g xs first more s0 a (memory_with is m) old new

-- or a device failed
abbrev pub EachBreaks : (many : ℕ) → View → (was : Memory) → List Event → (old new : Story) → Type 0
EachBreaks many v was more old new = (g : Opening) (xs : List Done) (first : List Event) (s0 : Crash) (a : Known) → IsAt many v was g xs first s0 a old → Breaks g xs first more s0 a old new
