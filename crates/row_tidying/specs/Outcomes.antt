-- What purges, joins and drops do, by answer.
use Rattle.std.specs.Prelude.{◌≡◌, ◌≤◌, ◌<◌, ◌+◌, ◌^◌, ◌++◌, ◌⊎◌, ℕ, true, List, [], length, Result, Ok, Err}
use Rattle.page_model.specs.Nodes.{is_leaf}
use Rattle.map_model.specs.declared.call.Refusal.TheVariants as refusal
use Rattle.row_changes.specs.session_state.engine_trait.declared.unserved.Unanswered.TheVariants as unanswered
use Rattle.row_changes.specs.session_state.engine_trait.declared.unserved.Unserved.{Unserved}
use Rattle.row_changes.specs.session_state.engine_trait.declared.unserved.Unserved.TheVariants as unserved
use Rattle.row_changes.specs.session_state.core_state.States.{Place, nodes_of}
use Rattle.lean_disk.specs.Story.{Story}
use Rattle.row_changes.specs.session_state.row_words.declared.event.Event.{Event}
use Rattle.row_changes.specs.session_state.row_words.declared.event.Event.TheVariants.{Drop, Join, Purge}
use Rattle.row_changes.specs.session_state.row_words.Openings.{opening}
use Rattle.row_changes.specs.session_state.rows_trait.declared.view.View.{View}
use Rattle.row_changes.specs.session_state.rows_trait.Views.{Shape, state}
use Rattle.row_changes.specs.session_state.worker_log.Logs.{Log}
use Rattle.row_changes.specs.session_state.Staging.{KeepsLog}
use Rattle.row_changes.specs.session_state.declared.session.Session.{Session}
use Rattle.tidy_rules.specs.Laws.{gone, put_in}
use Rattle.btree_smo.specs.Outcomes.{AreMisses}
use Rattle.row_tidying.specs.Changes.{IsMade}
use Rattle.row_tidying.specs.declared.purges.Cleared.{Cleared}
use Rattle.row_tidying.specs.declared.purges.Cleared.TheVariants as cleared

-- ## Refusals

-- nothing was seen but misses, at most so many, and 2^61 events were
pub record IsSpentWithin (most : ℕ) (v w : View) : Type 0 where
  pub misses : List Event
  pub are_misses : AreMisses misses
  pub few : length misses ≤ most
  pub given : w.given ≡ v.given
  pub seen : w.seen ≡ v.seen ++ misses
  pub many : 2 ^ 61 ≤ length w.seen

-- ## A purge

-- All tombstones that nobody can need went of the leaf in the frame, with one purge; there were some, and so many entries are left, or fewer. Behind it the
-- lock rows were given up, which are misses.
pub record IsPurged (frame most : ℕ) (v w : View) (x y : Session) (was is : Log) (old new : Story) : Type 0 where
  pub page : ℕ
  pub misses : List Event
  pub few : length misses ≤ 60
  pub stands : (state v).core.place page ≡ Place.Hot frame
  pub made : IsMade (Purge x.own page (gone (opening v.given) (state v).core page)) misses x.free v w x y was is old new
  pub some : 0 < length (gone (opening v.given) (state v).core page)
  pub left : length (nodes_of (state v).core page).pairs ≤ most + length (gone (opening v.given) (state v).core page)

-- Nothing was seen but misses. So many entries would be left of the leaf in the frame; that is all of them, or more than was asked.
pub record IsSpared (frame most left : ℕ) (v w : View) : Type 0 where
  pub misses : List Event
  pub are_misses : AreMisses misses
  pub few : length misses ≤ 61
  pub given : w.given ≡ v.given
  pub seen : w.seen ≡ v.seen ++ misses
  pub page : ℕ
  pub stands : (state v).core.place page ≡ Place.Hot frame
  pub leaf : is_leaf (nodes_of (state v).core page) ≡ true
  pub exact : left + length (gone (opening v.given) (state v).core page) ≡ length (nodes_of (state v).core page).pairs
  pub none : (length (gone (opening v.given) (state v).core page) ≡ 0) ⊎ (most < left)

-- by answer
abbrev pub Clears : Result Cleared Unserved → (frame most : ℕ) → (v w : View) → (x y : Session) → (was is : Log) → (old new : Story) → (same broken : Type 0) → Type 0
Clears (Ok cleared.Done) frame most v w x y was is old new same broken = IsPurged frame most v w x y was is old new
Clears (Ok (cleared.Spared left)) frame most v w x y was is old new same broken = IsSpared frame most left v w × same
Clears (Err (unserved.Refused refusal.RowSpent)) frame most v w x y was is old new same broken = IsSpentWithin 61 v w × same
Clears (Err (unserved.Unanswered unanswered.DiskFault)) frame most v w x y was is old new same broken = KeepsLog x.own was old new × broken
Clears (Err why) frame most v w x y was is old new same broken = ⊥

-- ## A join

-- the pages in the frames a and b were joined under the one in the frame d, and the right one, this page, is free then
pub record IsJoined (a b d page : ℕ) (v w : View) (x y : Session) (was is : Log) (old new : Story) : Type 0 where
  pub left : ℕ
  pub parent : ℕ
  pub left_stands : (state v).core.place left ≡ Place.Hot a
  pub right_stands : (state v).core.place page ≡ Place.Hot b
  pub parent_stands : (state v).core.place parent ≡ Place.Hot d
  pub made : IsMade (Join x.own left page parent) [] (put_in page x.free) v w x y was is old new

abbrev pub Joins : Result ℕ Unserved → (a b d page : ℕ) → (v w : View) → (x y : Session) → (was is : Log) → (old new : Story) → (same broken : Type 0) → Type 0
Joins (Ok freed) a b d page v w x y was is old new same broken = (freed ≡ page) × IsJoined a b d page v w x y was is old new
Joins (Err (unserved.Refused refusal.RowSpent)) a b d page v w x y was is old new same broken = IsSpentWithin 8 v w × same
Joins (Err (unserved.Unanswered unanswered.DiskFault)) a b d page v w x y was is old new same broken = KeepsLog x.own was old new × broken
Joins (Err why) a b d page v w x y was is old new same broken = ⊥

-- ## A drop

-- the root has what the page in the frame had, and this page is free then
pub record IsDropped (frame page : ℕ) (v w : View) (x y : Session) (was is : Log) (old new : Story) : Type 0 where
  pub stands : (state v).core.place page ≡ Place.Hot frame
  pub made : IsMade (Drop x.own page) [] (put_in page x.free) v w x y was is old new

abbrev pub Drops : Result ℕ Unserved → (frame page : ℕ) → (v w : View) → (x y : Session) → (was is : Log) → (old new : Story) → (same broken : Type 0) → Type 0
Drops (Ok freed) frame page v w x y was is old new same broken = (freed ≡ page) × IsDropped frame page v w x y was is old new
Drops (Err (unserved.Refused refusal.RowSpent)) frame page v w x y was is old new same broken = IsSpentWithin 8 v w × same
Drops (Err (unserved.Unanswered unanswered.DiskFault)) frame page v w x y was is old new same broken = KeepsLog x.own was old new × broken
Drops (Err why) frame page v w x y was is old new same broken = ⊥
