-- What holds of a lock row at each moment, and who keeps a worker from a lock of it.
use Rattle.std.specs.Prelude.{◌≡◌, ◌≢◌, ◌≤◌, ◌<◌, ◌+◌, ◌^◌, ℕ, true, false, List, Option, Some, None}
use Rattle.lean_proto.specs.core_state.States.{Row}
use Rattle.lean_proto.specs.core_state.Events as happening
use Rattle.lean_proto.specs.core_state.Needs.{is_held_by, is_reader, may_hold}
use Rattle.lean_proto.specs.row_words.declared.event.Event.{Event}
use Rattle.lean_proto.specs.row_words.declared.event.Mode as told
use Rattle.lean_proto.specs.row_words.declared.event.Mode.TheVariants as told_mode
use Rattle.lean_proto.specs.row_words.declared.given.Given.{Given}
use Rattle.lean_proto.specs.row_words.Openings.{opening}
use Rattle.lean_proto.specs.rows_trait.declared.view.View.{View}
use Rattle.lean_proto.specs.rows_trait.Views.{Shape, after_all}
use Rattle.key_locks.specs.declared.mode.Mode.{Mode}
use Rattle.key_locks.specs.declared.mode.Mode.TheVariants.{Shared, Alone}

-- the core's mode
abbrev pub core_mode : Mode → happening.Mode
core_mode Shared = happening.Mode.Shared
core_mode Alone = happening.Mode.Alone

-- the mode as events tell it
abbrev pub event_mode : Mode → told.Mode
event_mode Shared = told_mode.Shared
event_mode Alone = told_mode.Alone

-- one of n workers
pub record IsWorker (n w : ℕ) : Type 0 where
  pub one : 0 < w
  pub among : w ≤ n

-- its holder and its readers are workers, and so is the log of its stamp, if it has one
pub record IsRow (n : ℕ) (o : Row) : Type 0 where
  pub holder : (w : ℕ) → is_held_by o.holder w ≡ true → IsWorker n w
  pub reader : (w : ℕ) → is_reader w o.readers ≡ true → IsWorker n w
  pub log : o.log ≤ n

-- so it is with each lock row at each moment that can come
abbrev pub IsSound : Given → Type 0
IsSound v = (es : List Event) (i : ℕ) → IsRow (opening v).workers ((after_all v es).core.row i)

-- b is the least of the readers but w
pub record IsFirst (readers : List ℕ) (w b : ℕ) : Type 0 where
  pub reads : is_reader b readers ≡ true
  pub other : b ≢ w
  pub least : (u : ℕ) → is_reader u readers ≡ true → u ≢ w → b ≤ u

-- b stands in the way of w: another holder, or where nobody holds the row alone, the least of the other readers
abbrev pub Stands : Option ℕ → List ℕ → (w b : ℕ) → Type 0
Stands None readers w b = IsFirst readers w b
Stands (Some v) readers w b = (v ≢ w) × (b ≡ v)

-- the lock is not to be had, and b stands in the way
pub record IsBlocking (o : Row) (w : ℕ) (mode : happening.Mode) (b : ℕ) : Type 0 where
  pub refused : may_hold o w mode ≡ false
  pub blocks : Stands o.holder o.readers w b

-- there are so many frame rows, and so many lock rows behind them
pub record Spans (z : Shape) (frames count : ℕ) : Type 0 where
  pub shape : z.sizes.frames ≡ frames
  pub rows : z.sizes.locks ≡ count
  pub some : 0 < count
  pub small : frames + count < 2 ^ 32

-- so the core has it too, with up to sixteen workers, of whom this is one
pub record Sized (z : Shape) (v : View) (worker frames count : ℕ) : Type 0 where
  pub spans : Spans z frames count
  pub given : (opening v.given).frames ≡ frames
  pub locks : v.given.rows ≡ count
  pub few : (opening v.given).workers ≤ 16
  pub works : IsWorker (opening v.given).workers worker
