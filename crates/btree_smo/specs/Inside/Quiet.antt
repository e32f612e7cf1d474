-- Lock rows that are latched where nobody can need what they say: words of private functions.
use Rattle.std.specs.Prelude.{◌≡◌, ◌≤◌, ◌+◌, ℕ, true, false}
use Rattle.btree_descent.specs.rows_trait.declared.view.View.{View}
use Rattle.btree_descent.specs.rows_trait.Views.{Shape, holds, state}
use Rattle.btree_descent.specs.version_latch.declared.glimpse.TheConstants.{LAST}
use Rattle.btree_descent.specs.lean_proto.Purges.{IsQuiet}
use Rattle.btree_smo.specs.declared.quiet.Quiet.{Quiet}
use Rattle.btree_smo.specs.declared.quiet.Quiet.TheVariants.{Taken, Busy, Spent}
use Rattle.btree_smo.specs.Outcomes.{Found}
use Rattle.held_rows.specs.Rows.{Waited, Stood}
use Rattle.held_rows.specs.Latching.{Took}

-- these words are those of a lock that nobody has, with a last end up to f
pub record AreQuiet (readers holder number f : ℕ) : Type 0 where
  pub nobody : readers ≡ 0
  pub free : holder ≡ 0
  pub low : number ≤ f

-- the view with the holds that v had
abbrev pub with_holds : View → View → View
with_holds w v = record w { held = v.held }

-- lock row i was latched besides what was held, and is quiet up to f
pub record IsTaken (z : Shape) (frames i f : ℕ) (v w : View) : Type 0 where
  pub took : Took z (frames + i) v w
  pub grew : Waited z.alone v (with_holds w v)
  pub quiet : IsQuiet ((state w).core.row i) f

-- it was not, and where nobody else steps it is not quiet, unless the seat holds it
pub record IsBusy (z : Shape) (frames i f : ℕ) (v w : View) : Type 0 where
  pub stood : Stood z.alone v w
  pub busy : z.alone ≡ true → holds v.held (frames + i) ≡ false → IsQuiet ((state w).core.row i) f → ⊥

-- its version has come to the last one
pub record IsSpentRow (z : Shape) (frames i : ℕ) (v w : View) : Type 0 where
  pub stood : Stood z.alone v w
  pub version : ℕ
  pub last : LAST ≤ version
  pub found : Found (frames + i) version v w

-- what came of the latch
abbrev pub Quietly : Shape → (frames i f : ℕ) → View → Quiet → View → Type 0
Quietly z frames i f v Taken w = IsTaken z frames i f v w
Quietly z frames i f v Busy w = IsBusy z frames i f v w
Quietly z frames i f v Spent w = IsSpentRow z frames i v w
