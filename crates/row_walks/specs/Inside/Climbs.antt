-- What the way up from a level does, by answer.
use Rattle.std.specs.Prelude.{◌≡◌, ◌≤◌, ◌<◌, ◌-◌, ◌^◌, ℕ, suc, true, List, [], Option, Some, None, Result, Ok, Err}
use Rattle.map_model.specs.declared.call.Refusal.{Refusal}
use Rattle.map_model.specs.declared.call.Refusal.TheVariants as refusal
use Rattle.row_changes.specs.session_state.engine_trait.declared.unserved.Unanswered.TheVariants as unanswered
use Rattle.row_changes.specs.session_state.engine_trait.declared.unserved.Unserved.TheVariants as unserved
use Rattle.lean_disk.specs.Story.{Story}
use Rattle.row_changes.specs.session_state.row_words.declared.event.Event.{Event}
use Rattle.row_changes.specs.session_state.row_words.Moments.{event_of}
use Rattle.row_changes.specs.session_state.row_words.Openings.{opening}
use Rattle.row_changes.specs.session_state.rows_trait.declared.view.View.{View}
use Rattle.row_changes.specs.session_state.rows_trait.Views.{state}
use Rattle.row_changes.specs.session_state.worker_log.Logs.{Log}
use Rattle.row_changes.specs.session_state.Staging.{KeepsLog}
use Rattle.row_changes.specs.session_state.declared.session.Session.{Session}
use Rattle.row_tidying.specs.tidy_rules.Tidying.{Stage, behind}
use Rattle.row_changes.specs.declared.ways.Unmade.{Unmade}
use Rattle.row_changes.specs.declared.ways.Unmade.TheVariants as unmade
use Rattle.row_tidying.specs.Changes.{IsMade}
use Rattle.row_tidying.specs.Outcomes.{IsSpentWithin}
use Rattle.row_walks.specs.Inside.Nexts.{IsWanted, up_from}
use Rattle.row_walks.specs.Stages.{left_of, stage_of}
use Rattle.row_walks.specs.Steps.{IsShrinkBy, freed}
use Rattle.row_walks.specs.declared.steps.At.{At}
use Rattle.row_walks.specs.declared.steps.Tidied.{Tidied}
use Rattle.row_walks.specs.declared.steps.Tidied.TheVariants as tidied

-- nothing was seen
pub record IsStill (v w : View) : Type 0 where
  pub given : w.given ≡ v.given
  pub seen : w.seen ≡ v.seen

-- The change that is next from this level on was made, and so far the tidying has come then.
pub record IsUpMade (key from : ℕ) (b : At) (v w : View) (x y : Session) (was is : Log) (old new : Story) : Type 0 where
  pub event : Event
  pub by : IsShrinkBy x.own event
  pub made : IsMade event [] (freed event x.free) v w x y was is old new
  pub next : up_from x.own v key from ≡ Some (event_of event)
  pub now : (a : Stage) → stage_of b ≡ behind (state v).core a (event_of event)
  pub fewer : left_of (opening v.given).format.levels b ≤ (opening v.given).format.levels - from

-- or that brought the clock to its end
pub record IsUpStopped (key from : ℕ) (v w : View) (x y : Session) (was is : Log) (old new : Story) : Type 0 where
  pub behind : At
  pub made : IsUpMade key from behind v w x y was is old new
  pub spent : 2 ^ 62 ≤ y.clock.clock

abbrev pub Climbs : Result Tidied Unmade → (key from : ℕ) → (v w : View) → (x y : Session) → (was is : Log) → (old new : Story) → (same : Type 0) → Type 0
Climbs (Ok tidied.Clean) key from v w x y was is old new same = IsStill v w × (up_from x.own v key from ≡ None) × same
Climbs (Ok (tidied.Changed b)) key from v w x y was is old new same = IsUpMade key from b v w x y was is old new × (y.clock.clock < 2 ^ 62)
Climbs (Ok (tidied.Needs page l)) key from v w x y was is old new same = IsStill v w × IsWanted x.own v key from page l × same
Climbs (Err (unmade.Unserved (unserved.Refused refusal.ClockSpent))) key from v w x y was is old new same = IsUpStopped key from v w x y was is old new
Climbs (Err (unmade.Unserved (unserved.Refused refusal.RowSpent))) key from v w x y was is old new same = IsSpentWithin 8 v w × same
Climbs (Err (unmade.Unserved (unserved.Unanswered unanswered.DiskFault))) key from v w x y was is old new same = KeepsLog x.own was old new
Climbs (Err why) key from v w x y was is old new same = ⊥

-- ## The test of the clock

-- what is answered behind a change, by the test
abbrev pub answer_to : Option Refusal → At → Result Tidied Unmade
answer_to None b = Ok (tidied.Changed b)
answer_to (Some why) b = Err (unmade.Unserved (unserved.Refused why))
