-- The spot of a key in its leaf, to which a way has led.
use Rattle.std.specs.Prelude.{◌≡◌, ℕ, Some}
use Rattle.session_state.specs.rows_trait.declared.view.View.{View}
use Rattle.session_state.specs.rows_trait.Causes.{HasFound}
use Rattle.session_state.specs.rows_trait.Views.{Shape, latest}
use Rattle.session_state.specs.btree_descent.declared.put.Spot.{Spot}
use Rattle.session_state.specs.btree_descent.Spots.{AtSpot}
use Rattle.session_state.specs.declared.session.Session.{Session}

-- the words that were loaded on the way say it, and the leaf's row has its version still
pub record HasSpot (z : Shape) (v : View) (x : Session) (key : ℕ) (s : Spot) : Type 0 where
  pub at : AtSpot z v x.own x.frames key s
  pub start : View
  pub found : HasFound s.leaf.glimpse.row s.leaf.glimpse.version start v
  pub latest : latest s.leaf.glimpse.row v.steps ≡ Some s.leaf.glimpse.version

-- nothing was seen on the way
pub record IsSpotFor (z : Shape) (v w : View) (x : Session) (key : ℕ) (s : Spot) : Type 0 where
  pub given : w.given ≡ v.given
  pub seen : w.seen ≡ v.seen
  pub spot : HasSpot z w x key s
