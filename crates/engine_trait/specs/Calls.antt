-- What an engine has in memory of its disk, whether an abort is half done, and what may be asked of an engine and answered.
use Rattle.std.specs.Prelude.{◌≡◌, ◌≤◌, ◌<◌, ℕ, Bool, List}
use Rattle.map_model.specs.declared.call.Answer.{Answer}
use Rattle.map_model.specs.declared.call.Answer.TheVariants as answer
use Rattle.map_model.specs.declared.call.Call.{Call}
use Rattle.map_model.specs.declared.call.Call.TheVariants as call
use Rattle.map_model.specs.Maps.{key_end, value_end}
use Rattle.map_model.specs.declared.call.Refusal.{Refusal}
use Rattle.map_model.specs.declared.call.Refusal.TheVariants as refusal
use Rattle.disk_runs.specs.core_state.Openings.{Opening}
use Rattle.disk_runs.specs.worker_log.Logs.{Log}
use Rattle.core_calls.specs.Deeds.{marks_by}
use Rattle.core_calls.specs.Fronts.{Done, outcomes}
use Rattle.core_calls.specs.Marks.{is_half}
pub use Rattle.core_calls.specs.Steps.{call_behind, due_call}
use Rattle.disk_runs.specs.disk_slots.declared.master.Master.{Master}
use Rattle.disk_runs.specs.Stands.{Known}

-- an abort of session `own` has put changes back, and its transaction has not ended since
abbrev pub is_half_done : (own : ℕ) → List Done → Bool
is_half_done own xs = is_half (marks_by own (outcomes xs))

-- what an engine has in memory of its disk: the log of each session, and the master that counts
pub record Memory : Type 0 where
  pub log : ℕ → Log
  pub master : Master

-- and that is known of a disk
pub record IsOf (g : Opening) (memory : Memory) (k : Known) : Type 0 where
  pub log : (w : ℕ) → 0 < w → w ≤ g.workers → k.log w ≡ memory.log w
  pub master : k.master ≡ memory.master

-- ## What may be asked and answered

-- a call that has come, with its keys and its value in their ranges
abbrev pub IsWithin : Call → Type 0
IsWithin call.Begin = Unit {0}
IsWithin (call.Get key) = key < key_end
IsWithin (call.Put key value) = (key < key_end) × (value < value_end)
IsWithin (call.Del key) = key < key_end
IsWithin (call.Scan from to) = (from < key_end) × (to < key_end)
IsWithin call.Commit = Unit {0}
IsWithin call.Abort = Unit {0}
IsWithin call.Sync = Unit {0}
IsWithin _ = ⊥

-- one of so many sessions asks it; of a sync the session is 0
abbrev pub IsAsked : (sessions session : ℕ) → Call → Type 0
IsAsked sessions session call.Sync = session ≡ 0
IsAsked sessions session c = (0 < session) × (session ≤ sessions) × IsWithin c

-- a refusal that a script is told
abbrev pub IsTold : Refusal → Type 0
IsTold refusal.InTransaction = Unit {0}
IsTold refusal.NoTransaction = Unit {0}
IsTold refusal.TooLong = Unit {0}
IsTold (refusal.LogFull used limit) = Unit {0}
IsTold refusal.ClockSpent = Unit {0}
IsTold refusal.RowSpent = Unit {0}
IsTold refusal.TooTall = Unit {0}
IsTold refusal.NoPages = Unit {0}
IsTold _ = ⊥

-- and, where there are several sessions, a conflict
abbrev pub MayCome : (sessions : ℕ) → Refusal → Type 0
MayCome sessions (refusal.Conflict h) = sessions ≡ 1 → ⊥
MayCome sessions why = IsTold why

-- an answer that has come, where there are so many sessions
abbrev pub HasCome : (sessions : ℕ) → Answer → Type 0
HasCome sessions (answer.Begun number) = Unit {0}
HasCome sessions (answer.Value value) = Unit {0}
HasCome sessions (answer.Was value) = Unit {0}
HasCome sessions (answer.Pair key value) = Unit {0}
HasCome sessions (answer.More from) = Unit {0}
HasCome sessions answer.End = Unit {0}
HasCome sessions (answer.Committed number at) = Unit {0}
HasCome sessions (answer.Aborted number) = Unit {0}
HasCome sessions (answer.Synced at) = Unit {0}
HasCome sessions (answer.Refused why) = MayCome sessions why
HasCome sessions _ = ⊥
