-- What a call keeps that only looks at rows, and the words of a page that were loaded of a row.
use Rattle.std.specs.Prelude.{◌≡◌, ◌<◌, ℕ, Bool, true, List, [], ◌++◌, slice_index, Some}
use Rattle.btree_descent.specs.row_words.declared.event.Event.{Event}
use Rattle.btree_descent.specs.rows_trait.declared.view.Act.{Act}
use Rattle.btree_descent.specs.rows_trait.declared.view.View.{View}
use Rattle.btree_descent.specs.rows_trait.Views.{AreApart, Has, Knows, latest, state}
use Rattle.btree_descent.specs.rows_trait.Causes.{OnlyLoads}
use Rattle.btree_descent.specs.rows_trait.Turns.{Ran}

-- From one view to another rows were only looked at, and what others did meanwhile is apart from what the seat holds.
pub record Watched (alone : Bool) (v w : View) : Type 0 where
  pub ran : Ran alone v [] w
  pub between : List Event
  pub quiet : alone ≡ true → between ≡ []
  pub apart : AreApart v (state v) between
  pub seen : w.seen ≡ v.seen ++ between
  pub held : w.held ≡ v.held
  pub loads : OnlyLoads v w
  pub has : (row s : ℕ) → Has row s v.steps → Has row s w.steps
  pub knows : (row s i x : ℕ) → Knows row s i x v.steps → Knows row s i x w.steps
  pub latest : alone ≡ true → (row s : ℕ) → latest row v.steps ≡ Some s → latest row w.steps ≡ Some s

-- the first n words were loaded of the row
abbrev pub AreKnown : (row version n : ℕ) → List ℕ → List Act → Type 0
AreKnown row version n words acts = (i : ℕ) → i < n → Knows row version i (slice_index words i) acts
