-- A row that was latched, or was not, and why.
use Rattle.std.specs.Prelude.{◌≡◌, ◌≤◌, ◌<◌, ℕ, Bool, true, false, List, [], ◌∷◌, length}
use Rattle.map_model.specs.Lists.{Has}
use Rattle.row_words.specs.Openings.{opening}
use Rattle.rows_trait.specs.declared.view.View.{View}
use Rattle.rows_trait.specs.Layout.{rows_of, width}
use Rattle.rows_trait.specs.Causes.{HasFound, HasMoved, IsLatched}
use Rattle.rows_trait.specs.Views.{Shape, Spells, hold, holds, held_at, state}
use Rattle.rows_trait.specs.Turns.{Ran, Stepped}
use Rattle.lean_proto.specs.version_latch.declared.glimpse.TheConstants.{LAST}
use Rattle.held_rows.specs.declared.latching.Refusal.{Refusal}
use Rattle.held_rows.specs.declared.latching.Refusal.TheVariants.{Moved, Latched, RowSpent}
use Rattle.held_rows.specs.Steps.{MissedUpTo}
use Rattle.held_rows.specs.Rows.{HoldsTwo, HoldsThree}

-- a row was latched
pub record Took (z : Shape) (row : ℕ) (v w : View) : Type 0 where
  pub ran : Ran z.alone v [] w
  pub version : ℕ
  pub was : List ℕ
  pub held : w.held ≡ hold row version was was false ∷ v.held
  pub size : length was ≡ width z.sizes row
  pub stands : (q : ℕ) → holds w.held q ≡ true → Spells w.given (state w) (width z.sizes q) q (held_at w.held q).was
  pub fresh : holds v.held row ≡ false

-- nothing was appended but one miss at most, and what is held is as it was
pub record Refused (alone : Bool) (v w : View) : Type 0 where
  pub missed : MissedUpTo 1 alone v w
  pub held : w.held ≡ v.held

-- what the call has found of the row, which began at the view v: two versions of it, an odd latch, or a last version
abbrev pub Caused : ℕ → View → Refusal → View → Type 0
Caused row v (Moved m) w = (m.row ≡ row) × HasMoved m.row m.seen m.found v w
Caused row v (Latched l) w = (l.row ≡ row) × IsLatched l.row l.word v w
Caused row v (RowSpent r) w = (r ≡ row) × ((version : ℕ) × (LAST ≤ version) × HasFound row version v w)

-- no other seat was in the way
abbrev pub IsUndisturbed : Refusal → Type 0
IsUndisturbed (Moved m) = ⊥
IsUndisturbed (Latched l) = ⊥
IsUndisturbed (RowSpent row) = Unit {0}

-- ## Several rows

-- a frame row
pub record IsFrameRow (z : Shape) (v : View) (row : ℕ) : Type 0 where
  pub frames : row < (opening v.given).frames
  pub inside : row < rows_of z.sizes
  pub wide : width z.sizes row ≡ 128

-- two rows were latched
pub record TookTwo (z : Shape) (a b : ℕ) (v w : View) : Type 0 where
  pub ran : Ran z.alone v [] w
  pub two : HoldsTwo z w a b

-- three rows were
pub record TookThree (z : Shape) (a b d : ℕ) (v w : View) : Type 0 where
  pub ran : Ran z.alone v [] w
  pub three : HoldsThree z w a b d

-- The call, which began at the view v, found why of one of these rows, from one view to another.
pub record CausedAt (rows : List ℕ) (v : View) (why : Refusal) (w : View) : Type 0 where
  pub row : ℕ
  pub named : Has row rows
  pub from : View
  pub to : View
  pub before : Stepped v from
  pub caused : Caused row from why to
  pub after : Stepped to w
