-- When a call is refused: by the first of its tests that holds.
use Rattle.std.specs.Prelude.{◌≡◌, ◌⊎◌, ◌==◌, ◌&&◌, ◌^◌, ℕ, Bool, false, not, leb, ltb, min, List, [], ◌∷◌, Option, Some, None, length, if◌then◌else◌}
use Rattle.map_model.specs.declared.call.Call.{Call}
use Rattle.map_model.specs.declared.call.Call.TheVariants as call
use Rattle.map_model.specs.declared.call.Refusal.{Refusal}
use Rattle.map_model.specs.declared.call.Refusal.TheVariants.{ClockSpent, Conflict, InTransaction, LogFull, NoPages, NoTransaction, RowSpent, TooLong, TooTall}
use Rattle.page_model.specs.Limits.{transaction_changes}
use Rattle.disk_runs.specs.core_state.Openings.{Opening}
use Rattle.disk_runs.specs.core_state.States.{State, nodes_of}
use Rattle.disk_runs.specs.core_state.Events.{Mode}
use Rattle.disk_runs.specs.core_state.Needs.{may_hold}
use Rattle.disk_runs.specs.core_state.Steps.{at_row}
use Rattle.core_calls.specs.Room.{free_list, is_all_full, room_takes}
pub use Rattle.tidy_rules.specs.Growth.{is_full_for}
use Rattle.disk_runs.specs.worker_log.Logs.{Log, limit, used}

-- room for the key would take one level more than there can be, or more pages than are free
abbrev pub room_refusal : Opening → State → ℕ → Option Refusal
room_refusal g s k = if is_all_full g s k && ((nodes_of s 0).level == g.format.levels) then Some TooTall else (if ltb (length (free_list g s)) (room_takes g s k) then Some NoPages else None)

-- the clock has reached its end; else what comes later
abbrev pub clock_refusal : (clock : ℕ) → Option Refusal → Option Refusal
clock_refusal clock later = if leb (2 ^ 62) clock then Some ClockSpent else later

-- the blocks for changes are used, or the clock has reached its end
abbrev pub log_refusal : (clock : ℕ) → Log → Option Refusal → Option Refusal
log_refusal clock log later = if leb (limit log) (used log) then Some (LogFull (used log) (limit log)) else clock_refusal clock later

-- a call of session `own` in a transaction, which is open and not half aborted
abbrev pub in_transaction : State → (own : ℕ) → (half : Bool) → Option Refusal → Option Refusal
in_transaction s own half later = if half then Some NoTransaction else (if (s.worker own).is_open then later else Some NoTransaction)

-- the transaction has all its changes
abbrev pub change_refusal : State → (own : ℕ) → Log → Option Refusal → Option Refusal
change_refusal s own log later = if leb transaction_changes (length (s.worker own).changes) then Some TooLong else log_refusal (s.worker own).clock log later

-- the lesser of a number and maybe another
abbrev pub least_with : ℕ → Option ℕ → ℕ
least_with v None = v
least_with v (Some u) = min v u

-- the least of the readers but this one
abbrev pub least_other : (own : ℕ) → List ℕ → Option ℕ
least_other own [] = None
least_other own (v ∷ readers) = if v == own then least_other own readers else Some (least_with v (least_other own readers))

-- who stands in the way: the one who holds the row alone, else the least other reader
abbrev pub blocker_of : Option ℕ → (own : ℕ) → List ℕ → Option ℕ
blocker_of (Some h) own readers = Some h
blocker_of None own readers = least_other own readers

abbrev pub conflict_with : Option ℕ → Option Refusal
conflict_with None = None
conflict_with (Some h) = Some (Conflict h)

-- another session holds the key's row so that this one may not have it
abbrev pub lock_refusal : Opening → State → (own key : ℕ) → Mode → Option Refusal → Option Refusal
lock_refusal g s own key mode later = if may_hold (s.row (g.row_of key)) own mode then later else conflict_with (blocker_of (s.row (g.row_of key)).holder own (s.row (g.row_of key)).readers)

-- what the key's row tells brings the clock to its end
abbrev pub met_refusal : Opening → State → (own key : ℕ) → Option Refusal → Option Refusal
met_refusal g s own key later = clock_refusal (at_row own (s.worker own) (s.row (g.row_of key))).clock later

-- Session `own` asks this at a state of the core, where its log is so. While its abort is half done, nothing else is answered. The log is tested before a row is
-- taken, and no more behind that: a put goes on with the blocks that are kept back.
abbrev pub refusal_in : Opening → State → (own : ℕ) → (half : Bool) → Log → Call → Option Refusal
refusal_in g s own half log call.Begin = if (s.worker own).is_open then Some InTransaction else log_refusal (s.worker own).clock log None
refusal_in g s own half log (call.Get key) = in_transaction s own half (lock_refusal g s own key Mode.Shared None)
refusal_in g s own half log (call.Put key value) = in_transaction s own half (change_refusal s own log (lock_refusal g s own key Mode.Alone (met_refusal g s own key (if is_full_for g s key then room_refusal g s key else None))))
refusal_in g s own half log (call.Del key) = in_transaction s own half (change_refusal s own log (lock_refusal g s own key Mode.Alone (met_refusal g s own key None)))
refusal_in g s own half log (call.Scan from to) = in_transaction s own half None
refusal_in g s own half log call.Commit = in_transaction s own half None
refusal_in g s own half log call.Abort = in_transaction s own false None
refusal_in g s own half log _ = None

-- a scan met a row that another session holds: where, its events tell
abbrev pub IsMetOnWay : Call → Refusal → Type 0
IsMetOnWay (call.Scan from to) (Conflict h) = Unit {0}
IsMetOnWay c why = ⊥

-- so it is refused, or a latch that it needs has reached its end, or a scan came to a row that it may not have
abbrev pub IsRefusedFor : Opening → State → (own : ℕ) → (half : Bool) → Log → Call → Refusal → Type 0
IsRefusedFor g s own half log c why = (refusal_in g s own half log c ≡ Some why) ⊎ ((why ≡ RowSpent) ⊎ IsMetOnWay c why)
