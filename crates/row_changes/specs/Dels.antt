-- What a del does behind the taking of its row, by answer.
use Rattle.std.specs.Prelude.{◌≡◌, ℕ, Option, Some, None, Result, Ok, Err}
use Rattle.map_model.specs.declared.call.Refusal.TheVariants as refusal
use Rattle.session_state.specs.engine_trait.declared.unserved.Unanswered.TheVariants as unanswered
use Rattle.session_state.specs.engine_trait.declared.unserved.Unserved.TheVariants as unserved
use Rattle.lean_disk.specs.Story.{Story}
use Rattle.session_state.specs.rows_trait.declared.view.View.{View}
use Rattle.session_state.specs.btree_descent.declared.descent.TheConstants.{TOMBSTONE}
use Rattle.session_state.specs.worker_log.Logs.{Log}
use Rattle.row_changes.specs.Puts.{IsChanged}
use Rattle.row_changes.specs.Reads.{HasRead}
use Rattle.session_state.specs.Staging.{KeepsLog}
use Rattle.row_changes.specs.Takes.{IsSpent}
use Rattle.row_changes.specs.Ways.{HasMetCold}
use Rattle.row_changes.specs.declared.ways.Unmade.{Unmade}
use Rattle.row_changes.specs.declared.ways.Unmade.TheVariants as unmade

-- The value was taken away by the change to a tombstone; or a read of none was seen, and beside the session's clock all is as it was.
abbrev pub Dels : Result (Option ℕ) Unmade → (own : ℕ) → (v w : View) → (key : ℕ) → (was is : Log) → (old new : Story) → (same same_disk : Type 0) → Type 0
Dels (Ok (Some before)) own v w key was is old new same same_disk = IsChanged own v w key TOMBSTONE (Some before) was is old new
Dels (Ok None) own v w key was is old new same same_disk = HasRead own v w key None × (is ≡ was) × same_disk
Dels (Err (unmade.Unserved (unserved.Refused refusal.RowSpent))) own v w key was is old new same same_disk = IsSpent v w × same
Dels (Err (unmade.Unserved (unserved.Unanswered unanswered.DiskFault))) own v w key was is old new same same_disk = KeepsLog own was old new
Dels (Err (unmade.Cold cold)) own v w key was is old new same same_disk = HasMetCold key cold.page v w × same
Dels (Err why) own v w key was is old new same same_disk = ⊥
