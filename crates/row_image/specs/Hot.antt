-- The page that stands hot in a row.
use Rattle.std.specs.Prelude.{◌≡◌, ◌<◌, ℕ}
use Rattle.page_model.specs.Page as stored
use Rattle.btree_descent.specs.core_state.States.{Place}
use Rattle.btree_descent.specs.row_words.declared.given.Given.{Given}
use Rattle.btree_descent.specs.row_words.Moments.{Moment}
use Rattle.btree_descent.specs.row_words.Openings.{opening}
use Rattle.btree_descent.specs.row_words.Words.{framed_page}

-- page p stands hot in the row
pub record IsHotIn (v : Given) (m : Moment) (row p : ℕ) : Type 0 where
  pub below : p < (opening v).format.pages
  pub hot : m.core.place p ≡ Place.Hot row

-- the page that stands hot in a row, as it stands there
pub record StandsIn (v : Given) (m : Moment) (row : ℕ) (n : stored.Page) : Type 0 where
  pub stands : IsHotIn v m row n.number
  pub page : n ≡ framed_page m.core n.number n.generation

-- no page does
abbrev pub IsBare : Given → Moment → ℕ → Type 0
IsBare v m row = (p : ℕ) → IsHotIn v m row p → ⊥
