-- What a tidying does to the leaf before all else, by answer.
use Rattle.std.specs.Prelude.{◌≡◌, ◌<◌, ◌^◌, ltb, ℕ, Bool, true, false, List, length, Option, Some, None, Result, Ok, Err}
use Rattle.map_model.specs.declared.call.Refusal.TheVariants as refusal
use Rattle.row_changes.specs.session_state.engine_trait.declared.unserved.Unanswered.TheVariants as unanswered
use Rattle.row_changes.specs.session_state.engine_trait.declared.unserved.Unserved.{Unserved}
use Rattle.row_changes.specs.session_state.engine_trait.declared.unserved.Unserved.TheVariants as unserved
use Rattle.page_model.specs.Redo.{is_some}
use Rattle.row_changes.specs.session_state.core_state.Needs.{value_in}
use Rattle.row_changes.specs.session_state.core_state.States.{nodes_of}
use Rattle.lean_disk.specs.Story.{Story}
use Rattle.row_changes.specs.session_state.row_words.Openings.{opening}
use Rattle.row_changes.specs.session_state.rows_trait.declared.view.View.{View}
use Rattle.row_changes.specs.session_state.rows_trait.Views.{state}
use Rattle.row_changes.specs.session_state.worker_log.Logs.{Log}
use Rattle.row_changes.specs.session_state.Staging.{KeepsLog}
use Rattle.row_changes.specs.session_state.declared.session.Session.{Session}
use Rattle.row_tidying.specs.tidy_rules.Tidying.{Stage, next_tidy, page_at}
use Rattle.row_tidying.specs.Outcomes.{IsSpentWithin}
use Rattle.row_walks.specs.Steps.{IsQuietTo, IsTidied}
use Rattle.row_walks.specs.declared.leaves.Leaf.{Leaf}
use Rattle.row_walks.specs.declared.leaves.Leaf.TheVariants as leaf
use Rattle.row_walks.specs.declared.steps.At.TheVariants as at

-- it is a value's word
abbrev pub is_value : Option ℕ → Bool
is_value None = false
is_value (Some w) = ltb w (2 ^ 63)

-- the leaf is not the root, and has a value for the key; or nothing is to be tidied
abbrev pub MayBeThin : Bool → View → (key : ℕ) → List ℕ → Type 0
MayBeThin true v key path = (1 < length path) × ((p : ℕ) → page_at (opening v.given) (state v).core key 0 ≡ Some p → is_some (value_in (opening v.given).format (nodes_of (state v).core p) key) ≡ true)
MayBeThin false v key path = (own : ℕ) → next_tidy own (opening v.given) (state v).core key Stage.Before ≡ None

-- nothing was done, and nothing is to be tidied
pub record IsThickLeaf (own key : ℕ) (v w : View) : Type 0 where
  pub quiet : IsQuietTo v w
  pub next : next_tidy own (opening v.given) (state v).core key Stage.Before ≡ None

-- nothing was done: the leaf is thin, none of its tombstones can go, and what is next is what is so from the leaf's level on
pub record IsThinLeaf (own key : ℕ) (v w : View) : Type 0 where
  pub quiet : IsQuietTo v w
  pub next : next_tidy own (opening v.given) (state v).core key Stage.Before ≡ next_tidy own (opening v.given) (state v).core key (Stage.From 0)

abbrev pub LeafDoes : Result Leaf Unserved → (key : ℕ) → (v w : View) → (x y : Session) → (was is : Log) → (old new : Story) → (same : Type 0) → Type 0
LeafDoes (Ok leaf.Thick) key v w x y was is old new same = IsThickLeaf x.own key v w × same
LeafDoes (Ok leaf.Thin) key v w x y was is old new same = IsThinLeaf x.own key v w × same
LeafDoes (Ok leaf.Purged) key v w x y was is old new same = IsTidied key at.Before (at.From 0) v w x y was is old new
LeafDoes (Err (unserved.Refused refusal.RowSpent)) key v w x y was is old new same = IsSpentWithin 61 v w × same
LeafDoes (Err (unserved.Unanswered unanswered.DiskFault)) key v w x y was is old new same = KeepsLog x.own was old new
LeafDoes (Err why) key v w x y was is old new same = ⊥
