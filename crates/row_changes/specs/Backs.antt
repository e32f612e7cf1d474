-- What the putting back of a change does, by answer.
use Rattle.std.specs.Prelude.{◌≡◌, ◌++◌, ℕ, suc, true, [], ◌∷◌, length, Some, None, Result, Ok, Err}
use Rattle.map_model.specs.declared.call.Refusal.TheVariants as refusal
use Rattle.session_state.specs.engine_trait.declared.unserved.Unanswered.TheVariants as unanswered
use Rattle.session_state.specs.engine_trait.declared.unserved.Unserved.TheVariants as unserved
use Rattle.session_state.specs.core_state.Events as happening
use Rattle.session_state.specs.core_state.Needs.{may}
use Rattle.session_state.specs.core_state.Steps.{happens}
use Rattle.session_state.specs.disk_image.Records.{entry_of}
use Rattle.lean_disk.specs.Story.{Story}
use Rattle.session_state.specs.log_calls.Calls.{StagesOn}
use Rattle.session_state.specs.log_record.declared.record.Record.{Record}
use Rattle.session_state.specs.row_words.declared.event.Event.TheVariants.{PutBack}
use Rattle.session_state.specs.row_words.Openings.{opening}
use Rattle.session_state.specs.rows_trait.declared.view.View.{View}
use Rattle.session_state.specs.rows_trait.Views.{state}
use Rattle.session_state.specs.btree_descent.Puts.{IsLeafAt}
use Rattle.page_model.specs.Pairs.{find}
use Rattle.session_state.specs.worker_log.Calls.{After}
use Rattle.session_state.specs.worker_log.Logs.{Log}
use Rattle.session_state.specs.flush_avoidance.Clocks.{risen}
use Rattle.session_state.specs.declared.session.Session.{Session}
use Rattle.session_state.specs.Staging.{KeepsLog}
use Rattle.row_changes.specs.Takes.{IsSpent}
use Rattle.session_state.specs.Undo.{newest_of, without_newest}
use Rattle.session_state.specs.declared.undo.Undone.{Undone}
use Rattle.row_changes.specs.Ways.{HasMetCold, IsWarm}
use Rattle.row_changes.specs.declared.ways.Unmade.{Unmade}
use Rattle.row_changes.specs.declared.ways.Unmade.TheVariants as unmade

-- The newest change that was left was put back next, in its leaf, and its record was staged.
pub record IsPutBack (v w : View) (x y : Session) (was is : Log) (old new : Story) : Type 0 where
  pub page : ℕ
  pub given : w.given ≡ v.given
  pub seen : w.seen ≡ v.seen ++ PutBack x.own page ∷ []
  pub met : may (opening v.given) (state v).core (happening.Event.Put_back x.own page) ≡ true
  pub entry : Record
  pub entry_is : (happens (opening v.given) (state v).core (happening.Event.Put_back x.own page)).entries ≡ entry_of x.own entry ∷ (state v).core.entries
  pub after : After entry was is
  pub stands : StagesOn x.own entry was is old new
  pub keeps : KeepsLog x.own was old new
  pub session : y ≡ record x { is_half_aborted = true; clock = risen x.clock y.clock; first = y.first; undo = without_newest x.undo }
  pub fewer : suc (length y.undo) ≡ length x.undo

-- nothing was seen, and a page of the way of its key is not hot
pub record IsColdBack (page : ℕ) (v w : View) (x : Session) : Type 0 where
  pub undone : Undone
  pub newest : newest_of x.undo ≡ Some undone
  pub met : HasMetCold undone.key page v w

-- nothing was seen, and the leaf of its key, which is hot, has no entry of it
pub record IsLostBack (v w : View) (x : Session) : Type 0 where
  pub undone : Undone
  pub newest : newest_of x.undo ≡ Some undone
  pub given : w.given ≡ v.given
  pub seen : w.seen ≡ v.seen
  pub page : ℕ
  pub frame : ℕ
  pub leaf : IsLeafAt w.given (state w) frame page undone.key
  pub none : find undone.key ((state w).core.page page).node.pairs ≡ None

-- each page of its way is hot
abbrev pub IsWarmBack : View → Session → Type 0
IsWarmBack v x = (u : Undone) → newest_of x.undo ≡ Some u → IsWarm v u.key

-- by answer
abbrev pub StepsBack : Result (Unit {0}) Unmade → (v w : View) → (x y : Session) → (was is : Log) → (old new : Story) → (same : Type 0) → Type 0
StepsBack (Ok u) v w x y was is old new same = IsPutBack v w x y was is old new
StepsBack (Err (unmade.Unserved (unserved.Refused refusal.RowSpent))) v w x y was is old new same = IsSpent v w × same
StepsBack (Err (unmade.Unserved (unserved.Unanswered unanswered.DiskFault))) v w x y was is old new same = KeepsLog x.own was old new
StepsBack (Err (unmade.Cold cold)) v w x y was is old new same = IsColdBack cold.page v w x × same
StepsBack (Err unmade.Lost) v w x y was is old new same = IsLostBack v w x × same
StepsBack (Err why) v w x y was is old new same = ⊥
