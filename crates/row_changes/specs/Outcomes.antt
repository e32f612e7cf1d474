-- What a try to put does behind the taking of its row, by answer.
use Rattle.std.specs.Prelude.{◌≡◌, ℕ, List, Result, Ok, Err}
use Rattle.map_model.specs.declared.call.Refusal.TheVariants as refusal
use Rattle.session_state.specs.engine_trait.declared.unserved.Unanswered.TheVariants as unanswered
use Rattle.session_state.specs.engine_trait.declared.unserved.Unserved.TheVariants as unserved
use Rattle.lean_disk.specs.Story.{Story}
use Rattle.session_state.specs.rows_trait.declared.view.View.{View}
use Rattle.session_state.specs.worker_log.Logs.{Log}
use Rattle.row_changes.specs.declared.puts.Tried.{Tried}
use Rattle.row_changes.specs.declared.puts.Tried.TheVariants as tried
use Rattle.session_state.specs.declared.session.Session.{Session}
use Rattle.row_changes.specs.Puts.{IsChanged}
use Rattle.session_state.specs.Staging.{KeepsLog}
use Rattle.row_changes.specs.Paths.{LeadsToFull}
use Rattle.row_changes.specs.Takes.{IsSpent}
use Rattle.row_changes.specs.Ways.{HasMetCold}
use Rattle.row_changes.specs.declared.ways.Unmade.{Unmade}
use Rattle.row_changes.specs.declared.ways.Unmade.TheVariants as unmade

-- nothing was seen, and the path leads to the leaf, which has no room for the key
pub record HasNoRoom (v w : View) (frames key : ℕ) (path : List ℕ) : Type 0 where
  pub given : w.given ≡ v.given
  pub seen : w.seen ≡ v.seen
  pub full : LeadsToFull w frames key path

abbrev pub Tries : Result Tried Unmade → (v w : View) → (key value : ℕ) → (x y : Session) → (was is : Log) → (old new : Story) → (path : List ℕ) → (same broken : Type 0) → Type 0
Tries (Ok (tried.Done before)) v w key value x y was is old new path same broken = IsChanged x.own v w key value before was is old new
Tries (Ok tried.Full) v w key value x y was is old new path same broken = HasNoRoom v w x.frames key path × same
Tries (Err (unmade.Unserved (unserved.Refused refusal.RowSpent))) v w key value x y was is old new path same broken = IsSpent v w × same
Tries (Err (unmade.Unserved (unserved.Unanswered unanswered.DiskFault))) v w key value x y was is old new path same broken = KeepsLog x.own was old new × broken
Tries (Err (unmade.Cold cold)) v w key value x y was is old new path same broken = HasMetCold key cold.page v w × same
Tries (Err why) v w key value x y was is old new path same broken = ⊥
