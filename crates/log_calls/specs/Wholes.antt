-- A flush of all that a log has, where it has something new, as a sync needs of each log.
use Rattle.std.specs.Prelude.{◌≡◌, ℕ, true, ◌==◌, List, [], ◌∷◌, ◌++◌, if◌then◌else◌}
use Rattle.map_model.specs.Lists.{Has}
use Rattle.disk_runs.specs.image_model.Entries.{Entry, is_record}
use Rattle.disk_runs.specs.core_state.Openings.{Opening}
use Rattle.disk_runs.specs.core_state.States.{State}
use Rattle.disk_runs.specs.core_state.Events.{Event}
use Rattle.disk_runs.specs.core_state.Steps.{AllMet, state_after}
use Rattle.lean_disk.specs.Story.{Crash, Story}
use Rattle.disk_runs.specs.worker_log.Logs.{Log}
use Rattle.disk_runs.specs.MasterLaws.{IsAllSynced}
use Rattle.disk_runs.specs.Stands.{Known, Stands}
use Rattle.log_calls.specs.Calls.{IsLog}

-- the log is flushed as far as it goes, if it is not yet
abbrev pub flush_of : (w : ℕ) → Log → List Event
flush_of w log = if log.last == log.flushed then [] else Event.Flush w log.last ∷ []

-- where something of it is not flushed, its last number is that of a record
abbrev pub EndsInRecord : State → ℕ → Log → Type 0
EndsInRecord s w log = (log.last ≡ log.flushed → ⊥) → (r : Entry) × Has r s.entries × (is_record r.kind ≡ true) × (r.log ≡ w) × (r.number ≡ log.last)

-- The disk stands after that event, if there is one. Nothing of the log is left to flush, as a sync asks, and of all else the same is known.
pub record IsWhole (g : Opening) (es : List Event) (s0 : Crash) (x : Known) (w : ℕ) (was is : Log) (new : Story) : Type 0 where
  pub known : Known
  pub stands : Stands g (es ++ flush_of w was) s0 known new
  pub met : AllMet g (state_after g es) (flush_of w was)
  pub own : known.log w ≡ is
  pub last : is.last ≡ was.last
  pub flushed : is.flushed ≡ is.last
  pub synced : IsAllSynced (known.account w)
  pub logs : (v : ℕ) → (v ≡ w → ⊥) → known.log v ≡ x.log v
  pub accounts : (v : ℕ) → (v ≡ w → ⊥) → known.account v ≡ x.account v
  pub master : known.master ≡ x.master
  pub firm : known.firm ≡ x.firm
  pub late : known.late ≡ x.late

-- so in each run
abbrev pub FlushesWhole : (w : ℕ) → (was is : Log) → (old new : Story) → Type 0
FlushesWhole w was is old new = (s0 : Crash) (g : Opening) (es : List Event) (x : Known) → IsLog g es s0 x w was old → EndsInRecord (state_after g es) w was → IsWhole g es s0 x w was is new
