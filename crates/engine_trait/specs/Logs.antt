-- What events do to the logs of an engine.
use Rattle.std.specs.Prelude.{◌≡◌, ℕ, List, [], ◌∷◌}
use Rattle.disk_runs.specs.core_state.Openings.{Opening}
use Rattle.disk_runs.specs.core_state.Events.{Event}
use Rattle.disk_runs.specs.core_state.States.{State}
use Rattle.disk_runs.specs.core_state.Steps.{step}
use Rattle.disk_runs.specs.log_record.declared.record.Record.{Record}
use Rattle.disk_runs.specs.disk_image.Records.{entry_of}
use Rattle.disk_runs.specs.MasterLaws.{raised}
use Rattle.disk_runs.specs.worker_log.Calls.{After, flushed_log}
use Rattle.disk_runs.specs.worker_log.Logs.{Log}

-- Of an event of session v: what it does to a log that is the session's own, and to another one.
pub record OnOwn (v w : ℕ) (Own Other : Type 0) : Type 0 where
  pub own : v ≡ w → Own
  pub other : (v ≡ w → ⊥) → Other

-- the event enters a record, which log w has behind those that it had
pub record LogsEntry (w : ℕ) (g : Opening) (s : State) (e : Event) (was is : Log) : Type 0 where
  pub record_of : Record
  pub entry : (step g s e).entries ≡ entry_of w record_of ∷ s.entries
  pub after : After record_of was is

-- an event that enters a record of session v
abbrev pub LogsRecord : (v w : ℕ) → Opening → State → Event → (was is : Log) → Type 0
LogsRecord v w g s e was is = OnOwn v w (LogsEntry w g s e was is) (is ≡ was)

-- what an event does to log w
abbrev pub LogsOne : (w : ℕ) → Opening → State → Event → (was is : Log) → Type 0
LogsOne w g s (Event.Change v p k x) was is = LogsRecord v w g s (Event.Change v p k x) was is
LogsOne w g s (Event.Put_back v p) was is = LogsRecord v w g s (Event.Put_back v p) was is
LogsOne w g s (Event.Split v l r q i) was is = LogsRecord v w g s (Event.Split v l r q i) was is
LogsOne w g s (Event.Lift v c) was is = LogsRecord v w g s (Event.Lift v c) was is
LogsOne w g s (Event.Join v l r q) was is = LogsRecord v w g s (Event.Join v l r q) was is
LogsOne w g s (Event.Drop v c) was is = LogsRecord v w g s (Event.Drop v c) was is
LogsOne w g s (Event.Purge v p keys) was is = LogsRecord v w g s (Event.Purge v p keys) was is
LogsOne w g s (Event.End v commit f) was is = LogsRecord v w g s (Event.End v commit f) was is
LogsOne w g s (Event.Flush v n) was is = OnOwn v w (is ≡ flushed_log was) (is ≡ was)
LogsOne w g s (Event.Sync n) was is = is ≡ raised was n
LogsOne w g s _ was is = is ≡ was

-- what events do to it, one after another
abbrev pub Logs : (w : ℕ) → Opening → State → List Event → (was is : Log) → Type 0
Logs w g s [] was is = is ≡ was
Logs w g s (e ∷ es) was is = (mid : Log) × LogsOne w g s e was mid × Logs w g (step g s e) es mid is
