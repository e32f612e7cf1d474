-- What a put does behind the taking of its row, step by step, by answer.
use Rattle.std.specs.Prelude.{◌≡◌, ◌≤◌, ◌<◌, ◌^◌, ℕ, Option, Some, Result, Ok, Err}
use Rattle.map_model.specs.declared.call.Refusal.{Refusal}
use Rattle.map_model.specs.declared.call.Refusal.TheVariants as refusal
use Rattle.row_growth.specs.session_state.engine_trait.declared.unserved.Unanswered.TheVariants as unanswered
use Rattle.row_growth.specs.session_state.engine_trait.declared.unserved.Unserved.TheVariants as unserved
use Rattle.lean_disk.specs.Story.{Story}
use Rattle.row_growth.specs.session_state.rows_trait.declared.view.View.{View}
use Rattle.row_growth.specs.session_state.worker_log.Logs.{Log}
use Rattle.row_growth.specs.session_state.Staging.{KeepsLog}
use Rattle.row_growth.specs.session_state.declared.session.Session.{Session}
use Rattle.row_growth.specs.row_changes.Paths.{IsUnfit}
use Rattle.row_growth.specs.row_changes.Puts.{IsChanged, MayChange}
use Rattle.row_growth.specs.row_changes.Ways.{HasMetCold}
use Rattle.row_growth.specs.row_changes.declared.ways.Unmade.{Unmade}
use Rattle.row_growth.specs.row_changes.declared.ways.Unmade.TheVariants as unmade
use Rattle.row_growth.specs.declared.room.Placed.{Placed}
use Rattle.row_tidying.specs.Outcomes.{IsSpentWithin}
use Rattle.row_room.specs.Rooms.{IsNoSpace, IsRoomed, IsWanting}
use Rattle.row_room.specs.declared.steps.Stepped.{Stepped}
use Rattle.row_room.specs.declared.steps.Stepped.TheVariants as stepped

-- the leaf is full, none of its tombstones can go, and there can be no room
pub record Crowded (key : ℕ) (why : Refusal) (v w : View) (clock : ℕ) : Type 0 where
  pub leaf : ℕ
  pub unfit : IsUnfit v key leaf
  pub ready : clock < 2 ^ 62
  pub tight : IsNoSpace key why v w

-- the tree was changed, and that brought the clock to its end
pub record Stopped (key : ℕ) (v w : View) (x y : Session) (was is : Log) (old new : Story) : Type 0 where
  pub roomed : IsRoomed key v w x y was is old new
  pub spent : 2 ^ 62 ≤ y.clock.clock

-- the leaf is full, and a change of the tree takes this page next, which is not the one that was brought into a frame
pub record Wants (key : ℕ) (placed : Option Placed) (page : ℕ) (v w : View) (x : Session) : Type 0 where
  pub leaf : ℕ
  pub unfit : IsUnfit v key leaf
  pub wanting : IsWanting key placed page v w x

abbrev pub Steps : Result Stepped Unmade → (placed : Option Placed) → (v w : View) → (key value : ℕ) → (x y : Session) → (was is : Log) → (old new : Story) → (same : Type 0) → Type 0
Steps (Ok (stepped.Done before)) placed v w key value x y was is old new same = IsChanged x.own v w key value before was is old new
Steps (Ok stepped.Grown) placed v w key value x y was is old new same = IsRoomed key v w x y was is old new × MayChange w y is key
Steps (Ok (stepped.Needs page)) placed v w key value x y was is old new same = Wants key placed page v w x × same
Steps (Err (unmade.Cold cold)) placed v w key value x y was is old new same = HasMetCold key cold.page v w × same
Steps (Err (unmade.Unserved (unserved.Refused refusal.TooTall))) placed v w key value x y was is old new same = Crowded key refusal.TooTall v w x.clock.clock × same
Steps (Err (unmade.Unserved (unserved.Refused refusal.NoPages))) placed v w key value x y was is old new same = Crowded key refusal.NoPages v w x.clock.clock × same
Steps (Err (unmade.Unserved (unserved.Refused refusal.ClockSpent))) placed v w key value x y was is old new same = Stopped key v w x y was is old new
Steps (Err (unmade.Unserved (unserved.Refused refusal.RowSpent))) placed v w key value x y was is old new same = IsSpentWithin 69 v w × same
Steps (Err (unmade.Unserved (unserved.Unanswered unanswered.DiskFault))) placed v w key value x y was is old new same = KeepsLog x.own was old new
Steps (Err why) placed v w key value x y was is old new same = ⊥
