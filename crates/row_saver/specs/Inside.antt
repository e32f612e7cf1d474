-- Words of private functions.
use Rattle.std.specs.Prelude.{◌≡◌, ◌≤◌, ◌<◌, ℕ, true, List, [], ◌∷◌, length}
use Rattle.btree_descent.specs.core_state.Needs.{is_dirty}
use Rattle.btree_descent.specs.core_state.States.{flushed_by_all, in_frame}
use Rattle.btree_descent.specs.row_words.declared.event.Event.{Event}
use Rattle.btree_descent.specs.row_words.declared.event.Event.TheVariants.{Save}
use Rattle.btree_descent.specs.row_words.Openings.{opening}
use Rattle.btree_descent.specs.row_words.Sealed.{Shown}
use Rattle.btree_descent.specs.rows_trait.declared.view.View.{View}
use Rattle.btree_descent.specs.rows_trait.Turns.{Ran}
use Rattle.btree_descent.specs.rows_trait.Views.{state}
use Rattle.held_rows.specs.Steps.{AreMisses}
use Rattle.row_saver.specs.declared.looking.Words.{Words}

-- these are words of the frame's row
pub record ShowsIn (v : View) (frame : ℕ) (w : Words) : Type 0 where
  pub page : Shown v.given (state v) frame 0 w.page
  pub gsn : Shown v.given (state v) frame 1 w.gsn
  pub hint : Shown v.given (state v) frame 126 w.hint
  pub saved : Shown v.given (state v) frame 127 w.saved

-- page p stands in the frame, is dirty, and its number is flushed everywhere
pub record MaySaveIn (v : View) (frame p : ℕ) : Type 0 where
  pub below : p < (opening v.given).format.pages
  pub stands : in_frame ((state v).core.place p) frame ≡ true
  pub low : ((state v).core.page p).gsn ≤ flushed_by_all (opening v.given) (state v).core
  pub dirty : is_dirty (state v).core p ≡ true

-- nothing was appended, and no row is held
pub record Looks (v u : View) : Type 0 where
  pub ran : Ran true v [] u
  pub held : u.held ≡ []

-- page p was saved, and no row is held
pub record HasSaved (v : View) (p : ℕ) (u : View) : Type 0 where
  pub ran : Ran true v (Save p ∷ []) u
  pub held : u.held ≡ []

-- one miss at most was appended, and no row is held
pub record HasMissed (v u : View) : Type 0 where
  pub misses : List Event
  pub are : AreMisses misses
  pub few : length misses ≤ 1
  pub ran : Ran true v misses u
  pub held : u.held ≡ []
