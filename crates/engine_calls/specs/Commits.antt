-- A commit.
use Rattle.std.specs.Prelude.{◌≡◌, ◌≤◌, ◌<◌, ℕ, suc, Bool, true, false, leb, List, [], ◌∷◌, ◌++◌, if◌then◌else◌}
use Rattle.run_crashes.specs.image_model.Entries.{Kind}
use Rattle.map_model.specs.Lists.{any}
use Rattle.run_crashes.specs.core_state.Openings.{Opening}
use Rattle.run_crashes.specs.core_state.States.{State, flushed_by_all}
use Rattle.run_crashes.specs.core_state.Events.{Event}
use Rattle.run_crashes.specs.core_state.Needs.{holds_row}
use Rattle.run_crashes.specs.core_state.Steps.{AllMet, end_entry, state_after}
use Rattle.lean_disk.specs.Story.{Crash, Story}
use Rattle.run_crashes.specs.log_record.declared.record.Record.{Record}
use Rattle.run_crashes.specs.disk_image.Records.{entry_of}
use Rattle.run_crashes.specs.worker_log.Logs.{Log}
use Rattle.run_crashes.specs.core_calls.Deeds.{Committed, marks_by}
use Rattle.run_crashes.specs.core_calls.Fronts.{Done, front, outcomes}
use Rattle.run_crashes.specs.core_calls.LogEvents.{behind, is_log}
use Rattle.run_crashes.specs.core_calls.Marks.{is_half}
use Rattle.run_crashes.specs.core_calls.Refusals.{Limits}
use Rattle.run_crashes.specs.core_calls.Steps.{is_step, is_structure}
use Rattle.run_crashes.specs.disk_runs.Stands.{Known}
use Rattle.log_calls.specs.Calls.{FlushesOn, StagesOn}
use Rattle.engine_calls.specs.Clauses.{Between, CallAnswers, CallStops, IsNewLine, OnLog}
use Rattle.engine_calls.specs.Parts.{Gone, behind_first}

-- the rows are given back
abbrev pub unlocks : ℕ → List ℕ → List Event
unlocks w [] = []
unlocks w (i ∷ rows) = Event.Unlock w i ∷ unlocks w rows

-- the end, and the rows that are given back behind it
abbrev pub ending : (w f : ℕ) → List ℕ → List Event
ending w f rows = Event.End w true f ∷ unlocks w rows

-- a flush of log w, where one is due
abbrev pub flush_if : Bool → (w at : ℕ) → List Event
flush_if due w at = if due then Event.Flush w at ∷ [] else []

-- behind these events session w committed the transaction of this number by an end with the number at, and flushed its log if that was due
abbrev pub committed_by : List Event → (w number at f : ℕ) → List ℕ → (due : Bool) → Done
committed_by first w number at f rows due = record { outcome = record { session = w; deed = Committed number at; unsaid = [] }; events = (first ++ ending w f rows) ++ flush_if due w at }

-- with one more, as many commits of log w wait to be flushed as make a group
abbrev pub fills : (group : ℕ) → State → ℕ → Bool
fills group s w = leb group (suc (behind s w))

-- What the body shows: it is asked on a new line; before the end there is no step, no change of the tree, and nothing done to logs; the need of each
-- event is met, and no abort is half done; r is the end's record; the log is flushed no further than the session's clock; the rows are those that it holds;
-- and a flush is due exactly where the commit fills the group.
pub record IsCommit (g : Opening) (group : ℕ) (xs : List Done) (first : List Event) (w number at f : ℕ) (rows : List ℕ) (due : Bool) (r : Record) : Type 0 where
  pub line : IsNewLine (outcomes xs)
  pub low : 0 < w
  pub high : w ≤ g.workers
  pub steps : any is_step first ≡ false
  pub structure : any is_structure first ≡ false
  pub logs : any is_log first ≡ false
  pub met : AllMet g (state_after g (front xs)) (first ++ ending w f rows)
  pub flushed : f ≡ flushed_by_all g (behind_first g xs first)
  pub whole : is_half (marks_by w (outcomes xs)) ≡ false
  pub number_is : number ≡ ((behind_first g xs first).worker w).txn
  pub at_is : at ≡ suc ((behind_first g xs first).worker w).clock
  pub entry : entry_of w r ≡ end_entry Kind.Commit w ((behind_first g xs first).worker w) f
  pub below : (behind_first g xs first).flushed w ≤ ((behind_first g xs first).worker w).clock
  pub released : (i : ℕ) → holds_row ((behind_first g xs (first ++ ending w f rows)).row i) w ≡ false
  pub due_is : fills group (behind_first g xs first) w ≡ due

-- the log staged the end
pub record EndStaged (w : ℕ) (r : Record) (was log : Log) (old new : Story) : Type 0 where
  pub stages : StagesOn w r was log old new
  pub last : log.last ≡ r.gsn
  pub stage : OnLog w was old new

-- and was flushed
pub record LogFlushed (w : ℕ) (was log : Log) (old new : Story) : Type 0 where
  pub flushes : FlushesOn w was log old new
  pub flush : OnLog w was old new

-- What follows from what its log says, where the disk stands for the events before the end.
pub record CommitLaws (l : Limits) (g : Opening) (group : ℕ) (xs : List Done) (s0 : Crash) (k a : Known) (x : Done) (w : ℕ) (due : Bool) (r : Record) (old now mid new : Story) : Type 0 where
  -- where a flush is due the end is staged and the log flushed
  pub flushed : due ≡ true → (mid_log log : Log) → EndStaged w r (a.log w) mid_log now mid → LogFlushed w mid_log log mid new → CallAnswers l g group xs x s0 k old new
  -- or the flush failed
  pub unflushed : due ≡ true → (mid_log : Log) → EndStaged w r (a.log w) mid_log now mid → OnLog w mid_log mid new → CallStops l g group xs s0 k old new
  -- where none is due the end is staged
  pub staged : due ≡ false → (log : Log) → EndStaged w r (a.log w) log now new → CallAnswers l g group xs x s0 k old new
  -- in both cases it may not be
  pub unstaged : OnLog w (a.log w) now new → CallStops l g group xs s0 k old new

-- in each run
abbrev pub EveryCommit : (old now mid new : Story) → Type 0
EveryCommit old now mid new = (l : Limits) (g : Opening) (group : ℕ) (xs : List Done) (s0 : Crash) (k a : Known) (first : List Event) (w number at f : ℕ) (rows : List ℕ) (due : Bool) (r : Record)
    → Between l g group xs s0 k old → Gone g xs first s0 k old a now → IsCommit g group xs first w number at f rows due r
    → CommitLaws l g group xs s0 k a (committed_by first w number at f rows due) w due r old now mid new
