-- What one step of a tidying does, by answer.
use Rattle.std.specs.Prelude.{◌≡◌, ◌≤◌, ◌+◌, ◌++◌, ◌^◌, ℕ, true, List, [], ◌∷◌, length, Some, None, Result, Ok, Err}
use Rattle.map_model.specs.declared.call.Refusal.TheVariants as refusal
use Rattle.row_changes.specs.session_state.engine_trait.declared.unserved.Unanswered.TheVariants as unanswered
use Rattle.row_changes.specs.session_state.engine_trait.declared.unserved.Unserved.TheVariants as unserved
use Rattle.row_changes.specs.session_state.core_state.Needs.{may}
use Rattle.row_changes.specs.session_state.core_state.Steps.{happens}
use Rattle.lean_disk.specs.Story.{Story}
use Rattle.row_changes.specs.session_state.log_record.declared.record.Record.{Record}
use Rattle.row_changes.specs.session_state.log_block.Block.{records_text}
use Rattle.row_changes.specs.session_state.row_words.declared.event.Event.{Event}
use Rattle.row_changes.specs.session_state.row_words.declared.event.Event.TheVariants.{Drop, Join, Purge}
use Rattle.row_changes.specs.session_state.row_words.Moments.{event_of}
use Rattle.row_changes.specs.session_state.row_words.Openings.{opening}
use Rattle.row_changes.specs.session_state.rows_trait.declared.view.View.{View}
use Rattle.row_changes.specs.session_state.rows_trait.Views.{state}
use Rattle.row_changes.specs.session_state.disk_image.Records.{entry_of}
use Rattle.row_tidying.specs.btree_smo.Outcomes.{AreMisses}
use Rattle.row_changes.specs.session_state.worker_log.Calls.{After}
use Rattle.row_changes.specs.session_state.worker_log.Logs.{Log}
use Rattle.row_changes.specs.session_state.log_calls.Calls.{StagesOn}
use Rattle.row_changes.specs.session_state.flush_avoidance.Clocks.{risen}
use Rattle.row_changes.specs.session_state.Staging.{KeepsLog}
use Rattle.row_changes.specs.session_state.declared.session.Session.{Session}
use Rattle.row_tidying.specs.tidy_rules.Laws.{put_in}
use Rattle.row_tidying.specs.tidy_rules.Tidying.{behind, next_tidy}
use Rattle.row_changes.specs.Ways.{HasMetCold, IsWarm}
use Rattle.row_changes.specs.declared.ways.Unmade.{Unmade}
use Rattle.row_changes.specs.declared.ways.Unmade.TheVariants as unmade
use Rattle.row_tidying.specs.Outcomes.{IsSpentWithin}
use Rattle.row_walks.specs.Stages.{IsNeighbour, IsPassed, MayShrink, stage_of}
use Rattle.row_walks.specs.declared.steps.At.{At}
use Rattle.row_walks.specs.declared.steps.Tidied.{Tidied}
use Rattle.row_walks.specs.declared.steps.Tidied.TheVariants as tidied

-- it is a change by which space comes back, by session `own`
abbrev pub IsShrinkBy : (own : ℕ) → Event → Type 0
IsShrinkBy own (Purge w p keys) = w ≡ own
IsShrinkBy own (Join w l r q) = w ≡ own
IsShrinkBy own (Drop w c) = w ≡ own
IsShrinkBy own _ = ⊥

-- the pages that are free behind it
abbrev pub freed : Event → List ℕ → List ℕ
freed (Join w l r q) ps = put_in r ps
freed (Drop w c) ps = put_in c ps
freed _ ps = ps

-- nothing was seen but misses
pub record IsQuietTo (v w : View) : Type 0 where
  pub misses : List Event
  pub are_misses : AreMisses misses
  pub few : length misses ≤ 61
  pub given : w.given ≡ v.given
  pub seen : w.seen ≡ v.seen ++ misses

-- One change of the tree, the next of the tidying, was seen next, with misses before it and behind it; its record was staged. So far the tidying has come
-- then.
pub record IsTidied (key : ℕ) (a b : At) (v w : View) (x y : Session) (was is : Log) (old new : Story) : Type 0 where
  pub event : Event
  pub by : IsShrinkBy x.own event
  pub first : List Event
  pub later : List Event
  pub are_first : AreMisses first
  pub are_later : AreMisses later
  pub few : length first + length later ≤ 61
  pub given : w.given ≡ v.given
  pub seen : w.seen ≡ v.seen ++ (first ++ event ∷ later)
  pub met : may (opening v.given) (state v).core (event_of event) ≡ true
  pub happened : (state w).core ≡ happens (opening v.given) (state v).core (event_of event)
  pub next : next_tidy x.own (opening v.given) (state v).core key (stage_of a) ≡ Some (event_of event)
  pub now : stage_of b ≡ behind (state v).core (stage_of a) (event_of event)
  pub entry : Record
  pub entry_is : (happens (opening v.given) (state v).core (event_of event)).entries ≡ entry_of x.own entry ∷ (state v).core.entries
  pub after : After entry was is
  pub stands : StagesOn x.own entry was is old new
  pub keeps : KeepsLog x.own was old new
  pub short : length (records_text (entry ∷ [])) ≤ 1031
  pub session : y ≡ record x { clock = risen x.clock y.clock; first = y.first; free = freed event x.free }
  -- no page is moved, and the way to the key is hot still
  pub stays : (state w).core.place ≡ (state v).core.place
  pub warm : IsWarm v key → IsWarm w key

-- no change of the tree is left
pub record IsClean (key : ℕ) (a : At) (v w : View) (own : ℕ) : Type 0 where
  pub quiet : IsQuietTo v w
  pub next : next_tidy own (opening v.given) (state v).core key (stage_of a) ≡ None

-- The levels below this one are passed, and there the neighbour, this page, is not hot.
pub record IsWantingNeighbour (key : ℕ) (a : At) (page level : ℕ) (v w : View) (own : ℕ) : Type 0 where
  pub quiet : IsQuietTo v w
  pub passed : IsPassed own (opening v.given) (state v).core key a level
  pub neighbour : IsNeighbour (opening v.given) (state v).core key level page

-- the tree was changed, and that brought the clock to its end
pub record Stopped (key : ℕ) (a : At) (v w : View) (x y : Session) (was is : Log) (old new : Story) : Type 0 where
  pub behind : At
  pub tidied : IsTidied key a behind v w x y was is old new
  pub spent : 2 ^ 62 ≤ y.clock.clock

abbrev pub TidySteps : Result Tidied Unmade → (key : ℕ) → (a : At) → (v w : View) → (x y : Session) → (was is : Log) → (old new : Story) → (same : Type 0) → Type 0
TidySteps (Ok tidied.Clean) key a v w x y was is old new same = IsClean key a v w x.own × same
TidySteps (Ok (tidied.Changed b)) key a v w x y was is old new same = IsTidied key a b v w x y was is old new × MayShrink y is (opening v.given).format.levels b
TidySteps (Ok (tidied.Needs page level)) key a v w x y was is old new same = IsWantingNeighbour key a page level v w x.own × same
TidySteps (Err (unmade.Cold cold)) key a v w x y was is old new same = HasMetCold key cold.page v w × same
TidySteps (Err (unmade.Unserved (unserved.Refused refusal.ClockSpent))) key a v w x y was is old new same = Stopped key a v w x y was is old new
TidySteps (Err (unmade.Unserved (unserved.Refused refusal.RowSpent))) key a v w x y was is old new same = IsSpentWithin 69 v w × same
TidySteps (Err (unmade.Unserved (unserved.Unanswered unanswered.DiskFault))) key a v w x y was is old new same = KeepsLog x.own was old new
TidySteps (Err why) key a v w x y was is old new same = ⊥
