-- What the trail of a descent is to the pager.
use Rattle.std.specs.Prelude.{◌≡◌, ℕ, List, [], true}
use Rattle.btree_descent.specs.rows_trait.declared.view.View.{View}
use Rattle.btree_descent.specs.rows_trait.Views.{Shape, state}
use Rattle.btree_descent.specs.rows_trait.Turns.{Ran}
use Rattle.btree_descent.specs.Known.{IsSound}
use Rattle.btree_descent.specs.Descents.{Sized}
use Rattle.btree_descent.specs.Trails.{IsColdBelow, IsTrail}
use Rattle.page_provider.specs.Faults.{IsDescent, IsWanted, LeadsTo}

-- Where a call appended nothing, its trail is a descent; and where the trail came to the node that names a page which is not hot, it
-- leads to that page, and where nobody else steps the page is wanted. Whoever went down has the first two premises, since `reach` asks them.
abbrev pub EveryDescent : Type 0
EveryDescent = (z : Shape) (v w : View) (frames key row : ℕ) (path : List ℕ) → IsSound v.given → Sized z v frames → Ran z.alone v [] w → IsTrail z.alone frames key path row v w
    → IsDescent z w path × ((page : ℕ) → IsColdBelow w.given (state w) key row page → LeadsTo z w path page × (z.alone ≡ true → IsWanted z w page))
