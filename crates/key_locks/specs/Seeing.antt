-- What is seen of who holds a lock row.
use Rattle.std.specs.Prelude.{◌≡◌, ℕ, Bool, []}
use Rattle.lean_proto.specs.core_state.Needs.{holds_row}
use Rattle.lean_proto.specs.rows_trait.declared.view.View.{View}
use Rattle.lean_proto.specs.rows_trait.Views.{state}
use Rattle.lean_proto.specs.rows_trait.Turns.{Ran}
use Rattle.key_locks.specs.declared.seeing.Unseen.{Unseen}
use Rattle.key_locks.specs.declared.seeing.Unseen.TheVariants.{Moved, Latched}
use Rattle.key_locks.specs.Locking.{IsMoved, IsTaken}

-- nothing was appended, and the answer says whether the worker holds row i
pub record Sees (alone : Bool) (worker i : ℕ) (answer : Bool) (v w : View) : Type 0 where
  pub ran : Ran alone v [] w
  pub is : answer ≡ holds_row ((state w).core.row i) worker

-- why a lock row was not seen, and what was appended
abbrev pub NotSeen : Bool → (worker row : ℕ) → View → Unseen → View → Type 0
NotSeen alone worker row v (Moved m) w = IsMoved alone worker row m v w
NotSeen alone worker row v (Latched l) w = IsTaken alone worker row l v w
