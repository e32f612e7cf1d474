-- Which calls need a sync; and what is named here of the room for a key.
use Rattle.std.specs.Prelude.{ℕ, Bool, true, false, leb, List}
use Rattle.map_model.specs.declared.call.Call.{Call}
use Rattle.map_model.specs.declared.call.Call.TheVariants as call
use Rattle.page_model.specs.Limits.{waiting_ends}
use Rattle.disk_runs.specs.core_state.Openings.{Opening}
use Rattle.disk_runs.specs.core_state.Steps.{state_after}
use Rattle.core_calls.specs.Fronts.{Done, front}
use Rattle.core_calls.specs.Refusals.{waiting}
pub use Rattle.tidy_rules.specs.Growth.{IsLeastFree, IsNextRoom}

-- a sync is asked, or is due before a begin, since too many ends of its session wait
abbrev pub needs_sync : Opening → List Done → (own : ℕ) → Call → Bool
needs_sync g xs own call.Begin = leb waiting_ends (waiting g (state_after g (front xs)) own)
needs_sync g xs own call.Sync = true
needs_sync g xs own _ = false
