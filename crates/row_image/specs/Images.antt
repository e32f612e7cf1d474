-- The page that stands in a row as it is written, and what a call that takes it leaves.
use Rattle.std.specs.Prelude.{◌≡◌, ◌⊎◌, ℕ, Bool, true, List, [], ◌∷◌, ◌++◌}
use Rattle.page_model.specs.Page as stored
use Rattle.btree_descent.specs.core_state.States.{State, in_frame}
use Rattle.btree_descent.specs.row_words.declared.event.Event.{Event}
use Rattle.btree_descent.specs.row_words.declared.event.Event.TheVariants.{Miss}
use Rattle.btree_descent.specs.row_words.Moments.{Moment, pager}
use Rattle.btree_descent.specs.rows_trait.declared.view.View.{View}
use Rattle.btree_descent.specs.rows_trait.Views.{IsEven, AreApart, after_all, state}
use Rattle.btree_descent.specs.rows_trait.Causes.{HasFound, IsLatched, HasMoved}
use Rattle.btree_descent.specs.rows_trait.Turns.{Ran}
use Rattle.row_image.specs.declared.refusal.Unseen.{Unseen}
use Rattle.row_image.specs.declared.refusal.Unseen.TheVariants.{Moved, Latched}

-- page p as it is written: with the numbers of its children, and with the generation that saves it
abbrev pub written : State → (p generation : ℕ) → stored.Page
written s p generation = record { number = p; gsn = (s.page p).gsn; generation = generation; last_log = (s.page p).last; node = (s.page p).node }

-- page p stands in the row, hot or cooling, whatever others do meanwhile
pub record StaysIn (alone : Bool) (v : View) (row p : ℕ) : Type 0 where
  pub stays : (between : List Event) → (alone ≡ true → between ≡ []) → AreApart v (state v) between → in_frame ((after_all v.given (v.seen ++ between)).core.place p) row ≡ true

-- page p stands in the row, and the image is the page as it is written
pub record IsWritten (m : Moment) (row p generation : ℕ) (image : stored.Page) : Type 0 where
  pub stands : in_frame (m.core.place p) row ≡ true
  pub page : image ≡ written m.core p generation

-- Nothing was appended. The row was found free, and the image is that of the page which stays in it, as the page is now.
pub record IsImage (alone : Bool) (v : View) (row generation : ℕ) (image : stored.Page) (w : View) : Type 0 where
  pub ran : Ran alone v [] w
  pub version : ℕ
  pub free : IsEven version
  pub found : HasFound row version v w
  pub written : (p : ℕ) → StaysIn alone v row p → IsWritten (state w) row p generation image

-- what the call that began at the view v has loaded by the time at which it refused
abbrev pub Caused : View → Unseen → View → Type 0
Caused v (Moved m) w = HasMoved m.row m.seen m.found v w
Caused v (Latched l) w = IsLatched l.row l.word v w

-- a miss was appended, and this is why
pub record IsMissed (alone : Bool) (actor : ℕ) (v : View) (why : Unseen) (w : View) : Type 0 where
  pub ran : Ran alone v (Miss actor ∷ []) w
  pub cause : Caused v why w

-- a page that stands in the row stays there where nobody else steps, and where the seat is the pager's, which alone moves pages
abbrev pub EveryStay : Type 0
EveryStay = (alone : Bool) (v : View) (row p : ℕ) → (alone ≡ true) ⊎ (v.actor ≡ pager) → in_frame ((state v).core.place p) row ≡ true → StaysIn alone v row p
