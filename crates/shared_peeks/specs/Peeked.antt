-- What two workers that peek leave in the front.
use Rattle.std.specs.Prelude.{◌≡◌, ℕ, suc, ◌<◌, Bool, true, false, List, [], ◌∷◌, ◌++◌, length, Some}
use Rattle.btree_descent.specs.row_words.declared.event.Event.{Event}
use Rattle.btree_descent.specs.row_words.declared.event.Event.TheVariants.{Peek}
use Rattle.btree_descent.specs.row_words.Moments.{by}
use Rattle.btree_descent.specs.rows_trait.declared.view.View.{View}
use Rattle.btree_descent.specs.rows_trait.declared.plain.PlainRows.{PlainRows}
use Rattle.btree_descent.specs.rows_trait.declared.trace.Trace.{Trace}
use Rattle.btree_descent.specs.rows_trait.Plain.{sizes}
use Rattle.btree_descent.specs.rows_trait.Rule.{IsPicture, plan}
use Rattle.btree_descent.specs.rows_trait.Turns.{Ran}
use Rattle.btree_descent.specs.rows_trait.Views.{Shape}
use Rattle.btree_descent.specs.Descents.{Sized}
use Rattle.btree_descent.specs.Known.{IsSound}
use Rattle.shared_rows.specs.declared.rows.SharedRows.{SharedRows}
use Rattle.shared_rows.specs.Ruled.{IsLow}
use Rattle.shared_peeks.specs.declared.peeks.Desk.{Desk}
use Rattle.btree_descent.specs.row_words.Openings.{opening}

-- the rows as a trait sees them
abbrev pub shape_of : SharedRows → Shape
shape_of r = record { sizes = sizes r.frames r.locks r.workers; alone = false; place = r.table.shared.table_id }

-- what a thread needs to peek
pub record CanPeek (r : SharedRows) (frames : ℕ) (d : Desk) : Type 0 where
  pub own : d.seat.table_id ≡ r.table.shared.table_id
  pub slots : d.seat.me.1 ≡ []
  pub live : d.seat.me.0.live ≡ true
  pub low : IsLow d.seat.me.0
  pub held : d.seat.me.0.held ≡ []
  pub actor : d.seat.me.0.actor ≡ d.worker
  pub sized : Sized (shape_of r) d.seat.me.0 frames
  pub sound : IsSound d.seat.me.0.given

-- One event or none was appended; where the key was found as its own value, it is the peek that found it.
pub record HasLooked (worker key : ℕ) (good : Bool) (v w : View) : Type 0 where
  pub events : List Event
  pub ran : Ran false v events w
  pub found : good ≡ true → (page : ℕ) × (events ≡ Peek worker page key (Some key) ∷ [])

-- peeks of the keys from one on, each of which found the key as its own value
abbrev pub ArePeeks : (worker from : ℕ) → List Event → Type 0
ArePeeks worker from [] = Unit {0}
ArePeeks worker from (e ∷ es) = (page : ℕ) × (e ≡ Peek worker page from (Some from)) × ArePeeks worker (suc from) es

-- it has found nothing yet
abbrev pub CanStart : SharedRows → ℕ → Desk → Type 0
CanStart r frames d = CanPeek r frames d × (d.good ≡ 0)

-- one, if it is so
abbrev pub bit : Bool → ℕ
bit true = 1
bit false = 0

-- The seat's own events; where all keys were found, they are the peeks of keys 1 to 60, each once.
pub record HasPeeked (r : SharedRows) (frames : ℕ) (d e : Desk) : Type 0 where
  pub can : CanPeek r frames e
  pub worker : e.worker ≡ d.worker
  pub events : List Event
  pub ran : Ran false d.seat.me.0 events e.seat.me.0
  pub good : e.good ≡ 60 → ArePeeks d.worker 1 events × (length events ≡ 60)

-- plain rows that may be shared among two workers
pub record CanShare (plain : PlainRows) (seat : Trace) : Type 0 where
  pub picture : IsPicture (plan (sizes plain.frames plain.locks plain.workers) seat.view.given) plain.words.items seat.view
  pub held : seat.view.held ≡ []
  pub some : 0 < plain.frames
  pub given : (opening seat.view.given).frames ≡ plain.frames
  pub sound : IsSound seat.view.given

-- The front behind v has 120 events: 60 peeks of each worker, one of each key, each of which found the key.
pub record EachPeeked (v w : View) : Type 0 where
  pub front : List Event
  pub seen : w.seen ≡ v.seen ++ front
  pub count : length front ≡ 120
  pub first : ArePeeks 1 1 (by 1 front) × (length (by 1 front) ≡ 60)
  pub second : ArePeeks 2 1 (by 2 front) × (length (by 2 front) ≡ 60)
