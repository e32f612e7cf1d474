-- All seats of shared rows: as they begin, and what is known once all of them have ended.
use Rattle.std.specs.Prelude.{◌≡◌, ℕ, suc, ◌+◌, ◌<◌, ◌⊎◌, true, List, [], ◌∷◌, ◌++◌, length}
use Rattle.atomic_table.specs.Seated.{TableId}
use Rattle.atomic_table.specs.declared.shared.Seat.{Seat}
use Rattle.rows_trait.specs.row_words.declared.event.Event.{Event}
use Rattle.rows_trait.specs.row_words.Moments.{by}
use Rattle.rows_trait.specs.row_words.Sealed.{begun}
use Rattle.rows_trait.specs.declared.view.View.{View}
use Rattle.rows_trait.specs.Views.{AreBelow, AreTame, NoSync, Ends, IsPart}
use Rattle.shared_rows.specs.declared.parts.Parts.{Parts}
use Rattle.shared_rows.specs.Ruled.{newcomer, making}

-- a seat, which takes no bytes
abbrev pub Taker : Type 0
Taker = Seat (Unit {0}) View

-- ## As they begin

-- the seats of the actors from a on, in their order: each has seen what v has, and loaded nothing
abbrev pub AreFresh : TableId → View → ℕ → List Taker → Type 0
AreFresh id v a [] = Unit {0}
AreFresh id v a (s ∷ ss) = ((s.table_id ≡ id) × (s.me ≡ (newcomer a v.given v.seen, []))) × AreFresh id v (suc a) ss

-- Rows of these sizes are shared from where the view v is. What has been seen there is tame, so each seat fits the rows.
pub record IsShared (frames locks workers : ℕ) (v : View) (seats : ℕ) (p : Parts) : Type 0 where
  pub frames_same : p.rows.frames ≡ frames
  pub locks_same : p.rows.locks ≡ locks
  pub workers_same : p.rows.workers ≡ workers
  pub own : p.main.table_id ≡ p.rows.table.shared.table_id
  pub main : p.main.me ≡ (making (1 + seats) (newcomer 0 v.given v.seen), [])
  pub count : length p.seats.items ≡ seats
  pub fresh : AreFresh p.rows.table.shared.table_id v 1 p.seats.items
  pub tame : AreTame v.given (begun v.given) v.seen

-- ## As they end

-- the main actor's seat, in which none has ended
pub record IsFirst (id : TableId) (s : Taker) : Type 0 where
  pub own : s.table_id ≡ id
  pub slots : s.me.1 ≡ []
  pub live : s.me.0.live ≡ true
  pub held : s.me.0.held ≡ []
  pub makes : 0 < s.me.0.made

-- a seat that holds no row
pub record IsIdle (id : TableId) (s : Taker) : Type 0 where
  pub own : s.table_id ≡ id
  pub slots : s.me.1 ≡ []
  pub live : s.me.0.live ≡ true
  pub held : s.me.0.held ≡ []

-- each of them is such
abbrev pub AreIdle : TableId → List Taker → Type 0
AreIdle id [] = Unit {0}
AreIdle id (s ∷ ss) = IsIdle id s × AreIdle id ss

-- one of them is of this actor
abbrev pub HasActor : ℕ → List Taker → Type 0
HasActor a [] = ⊥
HasActor a (s ∷ ss) = (s.me.0.actor ≡ a) ⊎ HasActor a ss

-- each of them has ended in the view
abbrev pub HaveEnded : List Taker → View → Type 0
HaveEnded [] v = Unit {0}
HaveEnded (s ∷ ss) v = Ends s.me.0.actor s.me.0.seen v.ended × HaveEnded ss v

-- the main actor's seat has taken in these, and has not stepped
pub record AreTaken (id : TableId) (s : Taker) (seats : List Taker) (t : Taker) : Type 0 where
  pub first : IsFirst id t
  pub given : t.me.0.given ≡ s.me.0.given
  pub actor : t.me.0.actor ≡ s.me.0.actor
  pub seen : t.me.0.seen ≡ s.me.0.seen
  pub made : t.me.0.made ≡ s.me.0.made
  pub ended : HaveEnded seats t.me.0

-- all seats that were made, none of which holds a row
pub record IsWhole (p : Parts) : Type 0 where
  pub main : IsFirst p.rows.table.shared.table_id p.main
  pub actor : p.main.me.0.actor ≡ 0
  pub idle : AreIdle p.rows.table.shared.table_id p.seats.items
  pub all : (a : ℕ) → 0 < a → a < p.main.me.0.made → HasActor a p.seats.items

-- what each had seen is a beginning of what has happened, and no event behind it is of its actor
abbrev pub AreParts : List Taker → List Event → Type 0
AreParts [] seen = Unit {0}
AreParts (s ∷ ss) seen = IsPart s.me.0.actor s.me.0.seen seen × AreParts ss seen

-- The seat of plain rows has seen the whole front, behind what the main actor's seat had seen: events of the seats that were made, none
-- of which is a sync; and what each seat had seen is a part of it.
pub record IsReturned (v : View) (seats : List Taker) (w : View) : Type 0 where
  pub front : List Event
  pub seen : w.seen ≡ v.seen ++ front
  pub view : w ≡ newcomer 0 v.given (v.seen ++ front)
  pub main : by v.actor front ≡ []
  pub below : AreBelow v.made front
  pub quiet : NoSync front
  pub parts : AreParts seats w.seen

-- all seats of a share are there
abbrev pub EveryShared : Type 0
EveryShared = (frames locks workers : ℕ) (v : View) (seats : ℕ) (p : Parts) → IsShared frames locks workers v seats p → IsWhole p
