-- What a call keeps that only looks at rows.
use Rattle.std.specs.Prelude.{◌≡◌, ℕ, Bool, []}
use Rattle.rows_trait.specs.declared.view.View.{View}
use Rattle.rows_trait.specs.Views.{Has, Knows, latest}
use Rattle.rows_trait.specs.Causes.{OnlyLoads}
use Rattle.rows_trait.specs.Turns.{Ran}

-- From one view to another rows were only looked at.
pub record Kept (alone : Bool) (v w : View) : Type 0 where
  pub ran : Ran alone v [] w
  pub held : w.held ≡ v.held
  pub loads : OnlyLoads v w
  pub has : (row s : ℕ) → Has row s v.steps → Has row s w.steps
  pub knows : (row s i x : ℕ) → Knows row s i x v.steps → Knows row s i x w.steps
  pub latest : (row : ℕ) → latest row w.steps ≡ latest row v.steps
