-- What a put does behind the taking of its row.
use Rattle.std.specs.Prelude.{◌≡◌, ◌<◌, ◌%◌, ◌-◌, ◌^◌, ℕ, suc, Bool, ◌++◌, true, false, [], ◌∷◌, length, Option, Result, Ok, Err}
use Rattle.page_model.specs.Limits.{transaction_changes}
use Rattle.session_state.specs.engine_trait.declared.unserved.Unserved.{Unserved}
use Rattle.session_state.specs.engine_trait.declared.unserved.Unserved.TheVariants as unserved
use Rattle.session_state.specs.core_state.Events as happening
use Rattle.session_state.specs.core_state.Needs.{is_held_by, may, value_in}
use Rattle.session_state.specs.core_calls.Room.{room_takes}
use Rattle.lean_disk.specs.Story.{Story}
use Rattle.session_state.specs.log_record.declared.record.Record.{Record}
use Rattle.session_state.specs.row_words.declared.event.Event.TheVariants.{Change}
use Rattle.session_state.specs.row_words.Openings.{opening}
use Rattle.session_state.specs.rows_trait.declared.view.View.{View}
use Rattle.session_state.specs.rows_trait.Views.{state}
use Rattle.session_state.specs.btree_descent.Puts.{change_of}
use Rattle.session_state.specs.worker_log.Calls.{After}
use Rattle.session_state.specs.worker_log.Logs.{Log}
use Rattle.session_state.specs.log_calls.Calls.{StagesOn}
use Rattle.session_state.specs.Staging.{KeepsLog}
use Rattle.session_state.specs.declared.session.Session.{Session}
use Rattle.session_state.specs.Undo.{HasRoomToStage}
use Rattle.row_changes.specs.declared.ways.Unmade.{Unmade}
use Rattle.row_changes.specs.declared.ways.Unmade.TheVariants as unmade

-- No test refuses it, its row is held alone, and the log has room for so many changes of the tree, for the change, and for what it puts back.
pub record MayWrite (many : ℕ) (v : View) (x : Session) (log : Log) (key : ℕ) : Type 0 where
  pub works : x.works ≡ true
  pub is_open : x.is_open ≡ true
  pub whole : x.is_half_aborted ≡ false
  pub few : length x.undo < transaction_changes
  pub small : x.clock.clock < 2 ^ 62
  pub room : HasRoomToStage log (suc many)
  pub row : is_held_by ((state v).core.row (key % x.held.count)).holder x.own ≡ true
  pub key_low : key < 2 ^ 64 - 1

-- so it is for those that room for the key takes
abbrev pub MayChange : View → Session → Log → (key : ℕ) → Type 0
MayChange v x log key = MayWrite (room_takes (opening v.given) (state v).core key) v x log key

-- The change was seen next, at a moment at which the leaf said this of the key, and its record was staged.
pub record IsChanged (own : ℕ) (v w : View) (key value : ℕ) (before : Option ℕ) (was is : Log) (old new : Story) : Type 0 where
  pub page : ℕ
  pub given : w.given ≡ v.given
  pub seen : w.seen ≡ v.seen ++ Change own page key value ∷ []
  pub met : may (opening v.given) (state v).core (happening.Event.Change own page key value) ≡ true
  pub told : before ≡ value_in (opening v.given).format ((state v).core.page page).node key
  pub entry : Record
  pub entry_is : entry ≡ change_of (opening v.given) (state v).core own page key value
  pub after : After entry was is
  pub stands : StagesOn own entry was is old new
  pub keeps : KeepsLog own was old new

-- whether the engine works where a call was not served for this
abbrev pub goes_on : Unserved → Bool
goes_on (unserved.Refused why) = true
goes_on (unserved.Unanswered why) = false

-- and behind this answer
abbrev pub works_after : {A : Type 0} → Result A Unserved → Bool
works_after (Ok a) = true
works_after (Err why) = goes_on why

-- and where a page of the way may not be hot
abbrev pub works_behind : {A : Type 0} → Result A Unmade → Bool
works_behind (Err (unmade.Unserved why)) = goes_on why
works_behind _ = true
