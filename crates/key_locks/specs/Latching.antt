-- The lock rows that a session has latched, and what it gives up.
use Rattle.std.specs.Prelude.{◌≡◌, ◌<◌, ◌+◌, ℕ, Bool, true, false, List, length, slice_index_or}
use Rattle.lean_proto.specs.core_state.Steps.{unlocked}
use Rattle.lean_proto.specs.row_words.declared.event.Event.TheVariants.{Unlock}
use Rattle.lean_proto.specs.rows_trait.declared.view.Hold.{Hold}
use Rattle.lean_proto.specs.rows_trait.declared.view.View.{View}
use Rattle.lean_proto.specs.rows_trait.Views.{state, holds, held_at}
use Rattle.key_locks.specs.declared.latches.Unlatched.{Unlatched}
use Rattle.key_locks.specs.declared.latches.Unlatched.TheVariants.{Moved, Latched, RowSpent}
use Rattle.key_locks.specs.Locking.{IsPublished, IsMoved, IsTaken, IsSpent}

-- mark j stands
abbrev pub is_marked : List Bool → ℕ → Bool
is_marked marks j = slice_index_or marks j false

-- a lock row that is held with the words that it has in the core state
pub record IsLatch (held : List Hold) (row : ℕ) : Type 0 where
  pub here : holds held row ≡ true
  pub fresh : (held_at held row).done ≡ false
  pub same : (held_at held row).now ≡ (held_at held row).was
  pub size : length (held_at held row).now ≡ 5

-- lock row j is held so exactly where mark j stands
pub record AreLatched (frames : ℕ) (marks : List Bool) (held : List Hold) : Type 0 where
  pub marked : (j : ℕ) → is_marked marks j ≡ true → IsLatch held (frames + j)
  pub others : (j : ℕ) → j < length marks → is_marked marks j ≡ false → holds held (frames + j) ≡ false

-- no mark stands: the marks of a seat that holds none of so many lock rows
abbrev pub StartsFree : ℕ → List Bool → Type 0
StartsFree count marks = (frames : ℕ) (held : List Hold) → ((j : ℕ) → j < count → holds held (frames + j) ≡ false) → AreLatched frames marks held

-- why a lock row was not latched, and what was appended
abbrev pub NotLatched : Bool → (worker row : ℕ) → View → Unlatched → View → Type 0
NotLatched alone worker row v (Moved m) w = IsMoved alone worker row m v w
NotLatched alone worker row v (Latched l) w = IsTaken alone worker row l v w
NotLatched alone worker row v (RowSpent r) w = IsSpent alone row r v w

-- nobody was met at the row
abbrev pub IsAlone : Unlatched → Type 0
IsAlone (Moved m) = ⊥
IsAlone (Latched l) = ⊥
IsAlone (RowSpent r) = Unit {0}

-- the worker's hold of lock row i is gone, and tells of its end
abbrev pub IsGivenUp : Bool → (worker i end : ℕ) → View → View → Type 0
IsGivenUp alone worker i end v w = IsPublished alone (Unlock worker i) i ((state v).core.row i) (unlocked ((state v).core.row i) worker end) v w
