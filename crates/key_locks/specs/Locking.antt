-- What a lock appends, what holds after it, and why it was refused.
use Rattle.std.specs.Prelude.{◌≡◌, ◌≤◌, ℕ, Bool, true, List, [], ◌∷◌, ◌++◌}
use Rattle.lean_proto.specs.core_state.Events as happening
use Rattle.lean_proto.specs.core_state.States.{Row}
use Rattle.lean_proto.specs.core_state.Needs as core
use Rattle.lean_proto.specs.core_state.Steps.{locked}
use Rattle.lean_proto.specs.row_words.declared.event.Event.{Event}
use Rattle.lean_proto.specs.row_words.declared.event.Event.TheVariants.{Lock, Miss}
use Rattle.lean_proto.specs.row_words.Moments.{event_of}
use Rattle.lean_proto.specs.row_words.Openings.{opening}
use Rattle.lean_proto.specs.rows_trait.declared.view.View.{View}
use Rattle.lean_proto.specs.rows_trait.Views.{after_all, state}
use Rattle.lean_proto.specs.rows_trait.Causes.{HasFound, IsLatched, HasMoved}
use Rattle.lean_proto.specs.rows_trait.Turns.{Ran}
use Rattle.lean_proto.specs.version_latch.declared.glimpse.Moved as versions
use Rattle.lean_proto.specs.version_latch.declared.glimpse.Latched as latches
use Rattle.lean_proto.specs.version_latch.declared.glimpse.TheConstants.{LAST}
use Rattle.key_locks.specs.declared.mode.Mode.{Mode}
use Rattle.key_locks.specs.declared.locking.Stamp.{Stamp}
use Rattle.key_locks.specs.declared.locking.Refusal.{Refusal}
use Rattle.key_locks.specs.declared.locking.Refusal.TheVariants.{Conflict, Moved, Latched, RowSpent}
use Rattle.key_locks.specs.Rows.{IsBlocking, core_mode, event_mode}

-- The event of lock row i was published, and no other of the seat's own: its need was met, the row was o up to then, and is p now.
pub record IsPublished (alone : Bool) (e : Event) (i : ℕ) (o p : Row) (v w : View) : Type 0 where
  pub ran : Ran alone v (e ∷ []) w
  pub between : List Event
  pub seen : w.seen ≡ (v.seen ++ between) ++ (e ∷ [])
  pub met : core.may (opening v.given) (after_all v.given (v.seen ++ between)).core (event_of e) ≡ true
  pub was : (after_all v.given (v.seen ++ between)).core.row i ≡ o
  pub now : (state w).core.row i ≡ p

-- the stamp is that of the row
pub record IsStamp (o : Row) (stamp : Stamp) : Type 0 where
  pub number : stamp.number ≡ o.number
  pub log : stamp.log ≡ o.log
  pub readers : stamp.readers ≡ o.read_end

-- the worker has the lock of row i, which had this stamp
pub record HasLock (alone : Bool) (worker i : ℕ) (mode : Mode) (v : View) (stamp : Stamp) (w : View) : Type 0 where
  pub row : Row
  pub published : IsPublished alone (Lock worker i (event_mode mode)) i row (locked row worker (core_mode mode)) v w
  pub stamped : IsStamp row stamp

-- The worker has the lock in this mode: it may have it, and to take it again leaves the row as it is.
pub record HasAlready (o : Row) (worker : ℕ) (mode : happening.Mode) : Type 0 where
  pub may : core.may_hold o worker mode ≡ true
  pub same : locked o worker mode ≡ o

-- the worker has taken the lock of row i again, by which the row did not change
abbrev pub HasAgain : Bool → (worker i : ℕ) → Mode → View → View → Type 0
HasAgain alone worker i mode v w = IsPublished alone (Lock worker i (event_mode mode)) i ((state v).core.row i) ((state v).core.row i) v w

-- nothing was appended, and b stands in the way
pub record IsRefused (alone : Bool) (worker i : ℕ) (mode : Mode) (b : ℕ) (v w : View) : Type 0 where
  pub ran : Ran alone v [] w
  pub blocked : IsBlocking ((state w).core.row i) worker (core_mode mode) b

-- The row had another version at a later look, and a miss was appended.
pub record IsMoved (alone : Bool) (worker row : ℕ) (m : versions.Moved) (v w : View) : Type 0 where
  pub at : m.row ≡ row
  pub ran : Ran alone v (Miss worker ∷ []) w
  pub cause : HasMoved m.row m.seen m.found v w

-- The row was held by another seat, and a miss was appended.
pub record IsTaken (alone : Bool) (worker row : ℕ) (l : latches.Latched) (v w : View) : Type 0 where
  pub at : l.row ≡ row
  pub ran : Ran alone v (Miss worker ∷ []) w
  pub cause : IsLatched l.row l.word v w

-- The row had a version that is not below the last one, and nothing was appended.
pub record IsSpent (alone : Bool) (row spent : ℕ) (v w : View) : Type 0 where
  pub at : spent ≡ row
  pub ran : Ran alone v [] w
  pub version : ℕ
  pub last : LAST ≤ version
  pub found : HasFound row version v w

-- why the lock of row i was refused, and what was appended
abbrev pub Refuses : Bool → (worker row i : ℕ) → Mode → View → Refusal → View → Type 0
Refuses alone worker row i mode v (Conflict b) w = IsRefused alone worker i mode b v w
Refuses alone worker row i mode v (Moved m) w = IsMoved alone worker row m v w
Refuses alone worker row i mode v (Latched l) w = IsTaken alone worker row l v w
Refuses alone worker row i mode v (RowSpent r) w = IsSpent alone row r v w

-- nobody was met at the row
abbrev pub IsUnmet : Refusal → Type 0
IsUnmet (Conflict b) = Unit {0}
IsUnmet (Moved m) = ⊥
IsUnmet (Latched l) = ⊥
IsUnmet (RowSpent r) = Unit {0}
